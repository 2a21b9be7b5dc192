-- The number that a call answers for its arguments is the first by rank whose reason holds.
-- Assumes nothing.
use mathlib.Core.Path.{◌≡◌, refl, ap, sym}
use mathlib.Core.Logic.{◌⊎◌, inl, inr, ⊎_elim, ◌≢◌, ◌↔◌}
use mathlib.Core.Bool.{Bool, true, false, cond, not, ◌&&◌, ◌||◌, true≢false}
use mathlib.Core.List.{List, [], ◌∷◌}
use Prim.Native.Nat.{ℕ, ◌-◌, ◌*◌, ◌^◌, ◌%◌, ◌≤◌, ◌<◌}
use native.Mathlib.Omega.{arith}
use lib.Dec.{eqb, ltb, leb}
use lib.ListN.{length}
use lib.Pow.{pow_mono}
use borrow.Author.Tests.{eqb-true, eqb-false, ne_eqb, ltb-true, ltb-false, lt-ltb, le-ltb, leb-false, lt-leb, not-true}
use Rattle.common.specs.Tests.{Test, test, refusal}
use Rattle.common.proofs.Tests.{both, and, same?, clash, is_false}
use Rattle.cube.specs.Bits.{has}
use Rattle.cube.proofs.Bits.{has_room, has_bit_above}
use Rattle.common.specs.Lists.{any, from}
use Rattle.cube.specs.Axes.{present}
use Rattle.judging.specs.Loadable.{PortOf}
use Rattle.judging.proofs.Loadable.{port_exactly}
use Rattle.ownership.proofs.Allowed.{one_of, equals, link_out, held_there, there_held}
use Rattle.book.specs.Book.{BookCircuit, hop_count, line_length}
use Rattle.book.specs.Lookup.{well_formed}
use Rattle.book.specs.WellFormed.{WellFormed}
use Rattle.book.proofs.WellFormedBook.{well_formed_exactly}
use Rattle.judging.specs.Judged.{judge_tests}
use Rattle.ownership.specs.Calls.{Call, making, blocking, unblocking, opening, closing, tracing, arming, disarming, opening_all, booking, judging, folding, CallFacts, call_tests}
use Rattle.ownership.specs.Reasons.{Reason, rank, making_dimension, blocking_node, blocking_port, blocking_held, unblocking_node, unblocking_port}
use Rattle.ownership.specs.Reasons.{opening_node, opening_channel, opening_type, opening_vector, opening_in_use}
use Rattle.ownership.specs.Reasons.{closing_node, closing_channel, closing_none, tracing_node, tracing_channel, tracing_none, tracing_short}
use Rattle.ownership.specs.Reasons.{arming_node, arming_channel, disarming_node, disarming_channel, disarming_held, job_length, booking_short}
use Rattle.ownership.specs.Reasons.{folding_bits, folding_held, judging_book, judging_circuit, judging_link, judging_receive}

-- Of any list of tests: where each test that applies has a reason, the number answered has one.
data Explained (R : ℕ → Type 0) : List Test → Type 0 where
  no_more : Explained R []
  next : {t : Test} {ts : List Test} → (t.when ≡ true → R t.number) → Explained R ts → Explained R (t ∷ ts)

row : {R : ℕ → Type 0} {P : Type 0} {b : Bool} {n : ℕ} {ts : List Test} → (b ≡ true) ↔ P → (P → R n) → Explained R ts → Explained R (test b n ∷ ts)
row says why more = next (λ e. why (says.0 e)) more

answer_explained : (R : ℕ → Type 0) (ts : List Test) → Explained R ts → refusal ts ≢ 0 → R (refusal ts)
unfolding refusal
answer_explained R [] no_more f = absurd (f refl)
answer_explained R (t ∷ ts) (next why more) f = go t.when why (answer_explained R ts more) f
  where
    go : (w : Bool) → (w ≡ true → R t.number) → (refusal ts ≢ 0 → R (refusal ts)) → cond w t.number (refusal ts) ≢ 0 → R (cond w t.number (refusal ts))
    go true h rest g = h refl
    go false h rest g = rest g

-- And where their numbers rise in rank, from above k on, and the one with number n applies, the number answered has a rank above k and at most that of n.
abbrev applies : ℕ → List Test → Bool
applies n [] = false
applies n (t ∷ ts) = cond (eqb t.number n) t.when (applies n ts)

abbrev rise : ℕ → List Test → Bool
rise k [] = true
rise k (t ∷ ts) = ltb k (rank t.number) && rise (rank t.number) ts

answer_lowest : (k n : ℕ) (ts : List Test) → rise k ts ≡ true → applies n ts ≡ true → (k < rank (refusal ts)) × (rank (refusal ts) ≤ rank n)
unfolding refusal
answer_lowest k n [] e h = absurd (true≢false (sym h))
answer_lowest k n (t ∷ ts) e h =
    let r = both (ltb k (rank t.number)) _ e in
    go t.when (eqb t.number n) refl (ltb-true k (rank t.number) r.0) (answer_lowest (rank t.number) n ts r.1) h
  where
    go : (w same : Bool) → eqb t.number n ≡ same → k < rank t.number → (applies n ts ≡ true → (rank t.number < rank (refusal ts)) × (rank (refusal ts) ≤ rank n))
        → cond same w (applies n ts) ≡ true → (k < rank (cond w t.number (refusal ts))) × (rank (cond w t.number (refusal ts)) ≤ rank n)
    go true true q l more f = (l, omega (arith, ap rank (eqb-true t.number n q)))
    go false true q l more f = absurd (true≢false (sym f))
    go true false q l more f = (l, omega (arith, more f))
    go false false q l more f = (omega (arith, more f), (more f).1)

-- a number other than 11 is its own rank
ranked : (n : ℕ) → n ≢ 11 → rank n ≡ n
ranked n f = ap (λ (b : Bool). cond b 32 n) (ne_eqb n 11 f)

-- what each test says: of two numbers, of a channel with no circuit, of a test that is its own reason, of two tests joined
not_below : (n m : ℕ) → (not (ltb n m) ≡ true) ↔ (m ≤ n)
not_below n m = (λ e. ltb-false n m (not-true _ e), λ h. ap not (le-ltb n m h))

below : (n m : ℕ) → (ltb n m ≡ true) ↔ (n < m)
below n m = (ltb-true n m, lt-ltb n m)

above : (n m : ℕ) → (not (leb n m) ≡ true) ↔ (m < n)
above n m = (λ e. leb-false n m (not-true _ e), λ h. ap not (lt-leb n m h))

differs : (n m : ℕ) → (not (eqb n m) ≡ true) ↔ (n ≢ m)
differs n m = (λ e. eqb-false n m (not-true _ e), λ h. ap not (ne_eqb n m h))

closed : (b : Bool) → (not b ≡ true) ↔ (b ≡ false)
closed b = (not-true b, ap not)

itself : {P : Type 0} → P ↔ P
itself = (λ h. h, λ h. h)

both_of : {P Q : Type 0} (b c : Bool) → (b ≡ true) ↔ P → (c ≡ true) ↔ Q → (b && c ≡ true) ↔ (P × Q)
both_of b c p q = (λ e. let r = both b c e in (p.0 r.0, q.0 r.1), λ h. and (p.1 h.0) (q.1 h.1))

not_both : (b c : Bool) → not (b && c) ≡ (not b || not c)
not_both true c = refl
not_both false c = refl

outside : (D : ℕ) → (not (leb 1 D && leb D 8) ≡ true) ↔ ((D < 1) ⊎ (8 < D))
outside D = rw (not_both (leb 1 D) (leb D 8)) (one_of _ _ (above 1 D) (above D 8))

not_either : (b c : Bool) → not (b || c) ≡ (not b && not c)
not_either true c = refl
not_either false c = refl

no_type : (y : ℕ) → (not (eqb y 0 || (eqb y 1 || (eqb y 3 || eqb y 4))) ≡ true) ↔ ((y ≡ 2) ⊎ (5 ≤ y))
no_type y =
    let four = both_of _ _ (differs y 0) (both_of _ _ (differs y 1) (both_of _ _ (differs y 3) (differs y 4))) in
    rw (not_either (eqb y 0) (eqb y 1 || (eqb y 3 || eqb y 4)), not_either (eqb y 1) (eqb y 3 || eqb y 4), not_either (eqb y 3) (eqb y 4))
    (λ e. left (four.0 e), λ h. four.1 (right h))
  where
    left : (y ≢ 0) × ((y ≢ 1) × ((y ≢ 3) × (y ≢ 4))) → (y ≡ 2) ⊎ (5 ≤ y)
    left h = ⊎_elim inl (λ off. inr (go (ltb y 5) refl off)) (same? y 2)
      where
        go : (b : Bool) → ltb y 5 ≡ b → y ≢ 2 → 5 ≤ y
        go true e off = absurd (omega (arith, ltb-true y 5 e, h.0, h.1.0, h.1.1.0, h.1.1.1, off))
        go false e off = ltb-false y 5 e

    right : (y ≡ 2) ⊎ (5 ≤ y) → (y ≢ 0) × ((y ≢ 1) × ((y ≢ 3) × (y ≢ 4)))
    right = ⊎_elim (λ e. ((λ z. omega arith), ((λ z. omega arith), ((λ z. omega arith), λ z. omega arith)))) (λ l. ((λ z. omega arith), ((λ z. omega arith), ((λ z. omega arith), λ z. omega arith))))

bit_above : (D v : ℕ) → (not (ltb v (2 ^ D)) ≡ true) ↔ ((p : ℕ) × (D ≤ p) × (has v p ≡ true))
bit_above D v = (λ e. has_bit_above D v ((not_below v _).0 e), λ h. (not_below v _).1 (omega (arith, pow_mono h.1, has_room v h.0 h.2)))

no_vector : (D v : ℕ) → (eqb v 0 || not (ltb v (2 ^ D)) ≡ true) ↔ ((v ≡ 0) ⊎ ((p : ℕ) × (D ≤ p) × (has v p ≡ true)))
no_vector D v = one_of _ _ (equals v 0) (bit_above D v)

-- a port that is none, and a mask that would unfold a dimension with a held partner link
no_port : (D fold p : ℕ) → (not (present D fold p) ≡ true) ↔ (PortOf D fold p → ⊥)
no_port D fold p = (λ e o. clash ((port_exactly D fold p).1 o) (not-true _ e), λ h. ap not (is_false _ (λ e. h ((port_exactly D fold p).0 e))))

link_there : (a : CallFacts) (mask : ℕ) → (any (link_out a mask) (from 0 a.dimension) ≡ true)
    ↔ ((p : ℕ) × (p < a.dimension) × (has a.fold p ≡ true) × (has mask p ≡ false) × ((n : ℕ) × (n < 2 ^ a.dimension) × (a.held n (17 - p) ≡ true)))
link_there a mask = (there_held a mask, λ r. held_there a mask r.0 r.1 r.2 r.3 r.4.0 r.4.1 r.4.2)

no_list : (sends : List ℕ) → (not (eqb (length sends % 10) 0) || ltb 640 (length sends) ≡ true) ↔ ((length sends % 10 ≢ 0) ⊎ (640 < length sends))
no_list sends = one_of _ _ (differs (length sends % 10) 0) (below 640 (length sends))

-- a buffer that cannot hold its part of a book
no_room : (xs : List BookCircuit) (ports index : List ℕ) → (ltb (length ports) (hop_count xs) || ltb (length index) (line_length * length xs) ≡ true) ↔ ((length ports < hop_count xs) ⊎ (length index < 6 * length xs))
no_room xs ports index = one_of _ _ (below (length ports) (hop_count xs)) (below (length index) (6 * length xs))

-- a book that is not well formed
no_book : (ports index : List ℕ) (circuits hops : ℕ) → (not (well_formed ports index circuits hops) ≡ true) ↔ (WellFormed ports index circuits hops → ⊥)
no_book ports index circuits hops = (
  (λ e w. clash ((well_formed_exactly ports index circuits hops).1 w) (not-true _ e)),
  λ h. ap not (is_false _ (λ e. h ((well_formed_exactly ports index circuits hops).0 e))),
)

module _ (a : CallFacts) where
  absent : (s t : ℕ) → (not (ltb s (2 ^ a.dimension)) || not (ltb t (2 ^ a.dimension)) ≡ true) ↔ ((2 ^ a.dimension ≤ s) ⊎ (2 ^ a.dimension ≤ t))
  absent s t = one_of _ _ (not_below s _) (not_below t _)

  -- so each test of each call has its reason,
  explained : (x : Call) → Explained (Reason a x) (call_tests a x)
  unfolding call_tests
  explained (making D) = row (outside D) making_dimension no_more
  explained (blocking n p) = row (not_below n _) blocking_node (row (no_port a.dimension a.fold p) blocking_port (row itself blocking_held no_more))
  explained (unblocking n p) = row (not_below n _) unblocking_node (row (no_port a.dimension a.fold p) unblocking_port no_more)
  explained (opening s c t y v) =
      row (absent s t) opening_node
      (row (below 7 c) opening_channel (row (no_type y) opening_type (row (no_vector _ v) opening_vector (row itself opening_in_use no_more))))
  explained (closing s c) = row (not_below s _) closing_node (row (below 7 c) closing_channel (row (closed _) closing_none no_more))
  explained (tracing s c buffer) =
      row (not_below s _) tracing_node
      (row (below 7 c) tracing_channel (row (closed _) tracing_none (row (below (length buffer) 9) tracing_short no_more)))
  explained (arming n k) = row (not_below n _) arming_node (row (below 7 k) arming_channel no_more)
  explained (disarming n k) = row (not_below n _) disarming_node (row (below 7 k) disarming_channel (row itself disarming_held no_more))
  explained (opening_all sends) = row (no_list sends) job_length no_more
  explained (booking ports index) = row (no_room a.book ports index) booking_short no_more
  explained (folding mask) = row (bit_above _ mask) folding_bits (row (link_there a mask) folding_held no_more)
  explained (judging ports index circuits hops) =
      unfold judge_tests in
      row (no_book ports index circuits hops) judging_book (row (closed _) judging_circuit (row (closed _) judging_link (row (closed _) judging_receive no_more)))

  -- and where a reason holds its test applies
  reason_applies : (x : Call) {n : ℕ} → Reason a x n → applies n (call_tests a x) ≡ true
  unfolding call_tests
  reason_applies (making D) (making_dimension h) = (outside D).1 h
  reason_applies (blocking n p) (blocking_node h) = (not_below n _).1 h
  reason_applies (blocking n p) (blocking_port h) = (no_port a.dimension a.fold p).1 h
  reason_applies (blocking n p) (blocking_held h) = h
  reason_applies (unblocking n p) (unblocking_node h) = (not_below n _).1 h
  reason_applies (unblocking n p) (unblocking_port h) = (no_port a.dimension a.fold p).1 h
  reason_applies (opening s c t y v) (opening_node h) = (absent s t).1 h
  reason_applies (opening s c t y v) (opening_channel h) = (below 7 c).1 h
  reason_applies (opening s c t y v) (opening_type h) = (no_type y).1 h
  reason_applies (opening s c t y v) (opening_vector h) = (no_vector _ v).1 h
  reason_applies (opening s c t y v) (opening_in_use h) = h
  reason_applies (closing s c) (closing_node h) = (not_below s _).1 h
  reason_applies (closing s c) (closing_channel h) = (below 7 c).1 h
  reason_applies (closing s c) (closing_none h) = (closed _).1 h
  reason_applies (tracing s c buffer) (tracing_node h) = (not_below s _).1 h
  reason_applies (tracing s c buffer) (tracing_channel h) = (below 7 c).1 h
  reason_applies (tracing s c buffer) (tracing_none h) = (closed _).1 h
  reason_applies (tracing s c buffer) (tracing_short h) = (below (length buffer) 9).1 h
  reason_applies (arming n k) (arming_node h) = (not_below n _).1 h
  reason_applies (arming n k) (arming_channel h) = (below 7 k).1 h
  reason_applies (disarming n k) (disarming_node h) = (not_below n _).1 h
  reason_applies (disarming n k) (disarming_channel h) = (below 7 k).1 h
  reason_applies (disarming n k) (disarming_held h) = h
  reason_applies (opening_all sends) (job_length h) = (no_list sends).1 h
  reason_applies (booking ports index) (booking_short h) = (no_room a.book ports index).1 h
  reason_applies (folding mask) (folding_bits h) = (bit_above _ mask).1 h
  reason_applies (folding mask) (folding_held h) = (link_there a mask).1 h
  reason_applies (judging ports index circuits hops) (judging_book h) = unfold judge_tests in (no_book ports index circuits hops).1 h
  reason_applies (judging ports index circuits hops) (judging_circuit h) = unfold judge_tests in ap not h
  reason_applies (judging ports index circuits hops) (judging_link h) = unfold judge_tests in ap not h
  reason_applies (judging ports index circuits hops) (judging_receive h) = unfold judge_tests in ap not h

  -- Calls 4: the numbers of a call's tests rise, those of judging too but for the last, whose rank is above theirs.
  rising : (x : Call) → rise 0 (call_tests a x) ≡ true
  unfolding call_tests judge_tests
  rising (making D) = refl
  rising (blocking n p) = refl
  rising (unblocking n p) = refl
  rising (opening s c t y v) = refl
  rising (closing s c) = refl
  rising (tracing s c buffer) = refl
  rising (arming n k) = refl
  rising (disarming n k) = refl
  rising (opening_all sends) = refl
  rising (booking ports index) = refl
  rising (judging ports index circuits hops) = refl
  rising (folding mask) = refl

  -- A test that does not apply has no effect: the number answered has its reason.
  pub refused_for : (x : Call) → refusal (call_tests a x) ≢ 0 → Reason a x (refusal (call_tests a x))
  refused_for x f = answer_explained (Reason a x) (call_tests a x) (explained x) f

  -- The first that applies decides: whatever reason holds, the call is refused, with its number or with one that comes before it.
  pub first_reason : (x : Call) {n : ℕ} → Reason a x n → (0 < rank (refusal (call_tests a x))) × (rank (refusal (call_tests a x)) ≤ rank n)
  first_reason x {n} r = answer_lowest 0 n (call_tests a x) (rising x) (reason_applies x r)

  -- So where the reason of a number other than 11 holds, it is refused with that number or a lower one.
  pub lowest_reason : (x : Call) {n : ℕ} → n ≢ 11 → n < 32 → Reason a x n → (0 < refusal (call_tests a x)) × (refusal (call_tests a x) ≤ n)
  lowest_reason x {n} other small r =
      let h = first_reason x r in
      ⊎_elim (λ e. absurd (omega (arith, h.1, ranked n other, ap rank e))) (λ f. let same = ranked _ f in (omega (arith, h.0, same), omega (arith, h.1, same, ranked n other)))
      (same? (refusal (call_tests a x)) 11)
