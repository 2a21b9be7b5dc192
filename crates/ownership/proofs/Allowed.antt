-- No test of a call applies exactly where its arguments are allowed, on whatever the call is made: a table, or the history.
-- Assumes nothing.
use mathlib.Core.Path.{◌≡◌, refl, ap, ap₂, ◌∙◌}
use mathlib.Core.Logic.{◌⊎◌, ⊎_elim, ⊎_map, ◌↔◌}
use mathlib.Core.Bool.{Bool, true, false, not, ◌&&◌, ◌||◌}
use mathlib.Core.List.{[]}
use Prim.Native.Nat.{ℕ, ◌-◌, ◌*◌, ◌^◌, ◌%◌, ◌≤◌, ◌<◌}
use native.Mathlib.Omega.{arith}
use lib.Dec.{eqb, ltb, leb}
use lib.ListN.{length}
use borrow.Author.Tests.{eqb-true, eqb-false, eq-eqb, ne_eqb, ltb-true, ltb-false, lt-ltb, le-ltb, leb-true, le-leb, not-true, not-false}
use Rattle.cube.specs.Axes.{present}
use Rattle.cube.specs.Cube.{largest_dimension, channels, NodeOf}
use Rattle.common.specs.Tests.{refusal}
use Rattle.common.specs.Lists.{any, from}
use Rattle.common.proofs.Tests.{neither, either, or_left, or_right, passed, accepted, first_passed, both, and, is_false, clash, below_or}
use Rattle.common.proofs.Lists.{any_some, some_any}
use Rattle.common.proofs.From.{from_below, below_from}
use Rattle.cube.specs.Bits.{has}
use Rattle.cube.proofs.Bits.{high_has, no_bit_above}
use Rattle.book.specs.Book.{hop_count}
use Rattle.judging.specs.Judged.{judge_tests}
use Rattle.ownership.specs.Calls.{Call, making, blocking, unblocking, opening, closing, tracing, arming, disarming, opening_all, booking, judging, folding, CallFacts, unfolds, call_tests}
use Rattle.judging.specs.Loadable.{PortOf, own_port, partner_port}
use Rattle.ownership.specs.Allowed.{Allowed}
use Rattle.judging.proofs.Loadable.{port_exactly}
use Rattle.ownership.specs.History.{History, held_on, taken_on, facts_on, stopped_on}

-- what the tests say where they do not apply
pub below : (n m : ℕ) → not (ltb n m) ≡ false → n < m
below n m e = ltb-true n m (not-false _ e)

-- one of two tests applies exactly where one of two reasons holds
pub one_of : {P Q : Type 0} (b c : Bool) → (b ≡ true) ↔ P → (c ≡ true) ↔ Q → (b || c ≡ true) ↔ (P ⊎ Q)
one_of b c p q = (λ e. ⊎_map p.0 q.0 (either b c e), ⊎_elim (λ h. or_left c (p.1 h)) (λ h. or_right b (q.1 h)))

pub equals : (n m : ℕ) → (eqb n m ≡ true) ↔ (n ≡ m)
equals n m = (eqb-true n m, eq-eqb n m)

-- the four routing types
a_type : (y : ℕ) → (eqb y 0 || (eqb y 1 || (eqb y 3 || eqb y 4)) ≡ true) ↔ ((y ≡ 0) ⊎ (y ≡ 1) ⊎ (y ≡ 3) ⊎ (y ≡ 4))
a_type y = one_of _ _ (equals y 0) (one_of _ _ (equals y 1) (one_of _ _ (equals y 3) (equals y 4)))

pub is_below : (n m : ℕ) → n < m → not (ltb n m) ≡ false
is_below n m h = ap not (lt-ltb n m h)

pub channel_is : (c : ℕ) → c < channels → ltb 7 c ≡ false
channel_is c h = le-ltb 7 c (omega (arith, h))

pub channel_small : (c : ℕ) → ltb 7 c ≡ false → c < channels
channel_small c e = let h = ltb-false 7 c e in omega arith

-- the partner link of a dimension that a mask would unfold is held, as the test finds it
module _ (a : CallFacts) (mask : ℕ) where
  abbrev pub link_out : ℕ → Bool
  link_out p = unfolds a mask p && any (λ n. a.held n (17 - p)) (from 0 (2 ^ a.dimension))

  pub held_there : (p : ℕ) → p < a.dimension → has a.fold p ≡ true → has mask p ≡ false → (n : ℕ) → n < 2 ^ a.dimension → a.held n (17 - p) ≡ true
      → any link_out (from 0 a.dimension) ≡ true
  held_there p l on off n i h =
      some_any link_out (from 0 a.dimension) (below_from a.dimension p l)
      (and (and on (ap not off)) (some_any (λ n. a.held n (17 - p)) (from 0 (2 ^ a.dimension)) (below_from (2 ^ a.dimension) n i) h))

  pub there_held : any link_out (from 0 a.dimension) ≡ true
      → (p : ℕ) × (p < a.dimension) × (has a.fold p ≡ true) × (has mask p ≡ false) × ((n : ℕ) × (n < 2 ^ a.dimension) × (a.held n (17 - p) ≡ true))
  there_held e =
      let r = any_some link_out (from 0 a.dimension) e in
      let s = both (unfolds a mask r.0) _ r.2 in
      let u = both (has a.fold r.0) _ s.0 in
      let k = any_some (λ n. a.held n (17 - r.0)) (from 0 (2 ^ a.dimension)) s.1 in
      (r.0, from_below a.dimension r.0 r.1, u.0, not-true _ u.1, (k.0, from_below (2 ^ a.dimension) k.0 k.1, k.2))

pub allowed : (a : CallFacts) (x : Call) → refusal (call_tests a x) ≡ 0 → Allowed a x
unfolding call_tests Allowed
allowed a (making D) e =
    let r = both (leb 1 D) (leb D 8) (not-false _ (first_passed _ 2 [] (λ z. omega arith) e).0) in
    (leb-true 1 D r.0, leb-true D 8 r.1)
allowed a (blocking n p) e =
    let x = first_passed _ 4 _ (λ z. omega arith) e in
    let y = first_passed _ 6 _ (λ z. omega arith) x.1 in
    let z = first_passed _ 13 _ (λ z. omega arith) y.1 in
    (below n _ x.0, (port_exactly a.dimension a.fold p).0 (not-false _ y.0), z.0)
allowed a (unblocking n p) e =
    let x = first_passed _ 4 _ (λ z. omega arith) e in
    let y = first_passed _ 6 _ (λ z. omega arith) x.1 in
    (below n _ x.0, (port_exactly a.dimension a.fold p).0 (not-false _ y.0))
allowed a (opening s c t y v) e =
    let x₁ = first_passed _ 4 _ (λ z. omega arith) e in
    let x₂ = first_passed _ 5 _ (λ z. omega arith) x₁.1 in
    let x₃ = first_passed _ 7 _ (λ z. omega arith) x₂.1 in
    let x₄ = first_passed _ 8 _ (λ z. omega arith) x₃.1 in
    let x₅ = first_passed _ 9 _ (λ z. omega arith) x₄.1 in
    let ends = neither (not (ltb s (2 ^ a.dimension))) _ x₁.0 in
    let vector = neither (eqb v 0) _ x₄.0 in
    (below s _ ends.0, below t _ ends.1, channel_small c x₂.0, eqb-false v 0 vector.0, λ p l. high_has _ v p (below v _ vector.1) l, x₅.0, (a_type y).0 (not-false _ x₃.0))
allowed a (closing s c) e =
    let x = first_passed _ 4 _ (λ z. omega arith) e in
    let y = first_passed _ 5 _ (λ z. omega arith) x.1 in
    let z = first_passed _ 12 _ (λ z. omega arith) y.1 in
    (below s _ x.0, channel_small c y.0, not-false _ z.0)
allowed a (tracing s c buffer) e =
    let x = first_passed _ 4 _ (λ z. omega arith) e in
    let y = first_passed _ 5 _ (λ z. omega arith) x.1 in
    let z = first_passed _ 12 _ (λ z. omega arith) y.1 in
    let u = first_passed _ 14 _ (λ z. omega arith) z.1 in
    (below s _ x.0, channel_small c y.0, not-false _ z.0, ltb-false (length buffer) 9 u.0)
allowed a (arming n k) e =
    let x = first_passed _ 4 _ (λ z. omega arith) e in
    let y = first_passed _ 5 _ (λ z. omega arith) x.1 in
    (below n _ x.0, channel_small k y.0)
allowed a (disarming n k) e =
    let x = first_passed _ 4 _ (λ z. omega arith) e in
    let y = first_passed _ 5 _ (λ z. omega arith) x.1 in
    let z = first_passed _ 21 _ (λ z. omega arith) y.1 in
    (below n _ x.0, channel_small k y.0, z.0)
allowed a (opening_all sends) e =
    let x = neither (not (eqb (length sends % 10) 0)) _ (first_passed _ 28 _ (λ z. omega arith) e).0 in
    (eqb-true (length sends % 10) 0 (not-false _ x.0), ltb-false 640 (length sends) x.1)
allowed a (booking ports index) e =
    let x = neither (ltb (length ports) (hop_count a.book)) _ (first_passed _ 23 _ (λ z. omega arith) e).0 in
    (ltb-false (length ports) (hop_count a.book) x.0, ltb-false (length index) (6 * length a.book) x.1)
allowed a (judging ports index circuits hops) e =
    unfold judge_tests in
    let x = first_passed _ 25 _ (λ z. omega arith) e in
    let y = first_passed _ 26 _ (λ z. omega arith) x.1 in
    let z = first_passed _ 27 _ (λ z. omega arith) y.1 in
    let u = first_passed _ 11 _ (λ z. omega arith) z.1 in
    (not-false _ x.0, not-false _ y.0, not-false _ z.0, not-false _ u.0)
allowed a (folding mask) e =
    let x = first_passed _ 6 _ (λ z. omega arith) e in
    let y = first_passed _ 13 _ (λ z. omega arith) x.1 in
    ((λ p l. high_has _ mask p (below mask _ x.0) l), λ p l on off n i. is_false _ (λ h. clash (held_there a mask p l on off n i h) y.0))

-- and where they are allowed, no test of the call stops it
pub allowed_passes : (a : CallFacts) (x : Call) → Allowed a x → refusal (call_tests a x) ≡ 0
unfolding call_tests Allowed
allowed_passes a (making D) h = passed 2 [] (ap not (ap₂ ◌&&◌ (le-leb 1 D h.0) (le-leb D 8 h.1))) ∙ accepted
allowed_passes a (blocking n p) h = passed 4 _ (is_below n _ h.0) ∙ passed 6 _ (ap not ((port_exactly a.dimension a.fold p).1 h.1)) ∙ passed 13 _ h.2 ∙ accepted
allowed_passes a (unblocking n p) h = passed 4 _ (is_below n _ h.0) ∙ passed 6 _ (ap not ((port_exactly a.dimension a.fold p).1 h.1)) ∙ accepted
allowed_passes a (opening s c t y v) h =
    passed 4 _ (ap₂ ◌||◌ (is_below s _ h.0) (is_below t _ h.1)) ∙ passed 5 _ (channel_is c h.2) ∙ passed 7 _ (ap not ((a_type y).1 h.6))
    ∙ passed 8 _ (ap₂ ◌||◌ (ne_eqb v 0 h.3) (is_below v _ (no_bit_above _ v h.4))) ∙ passed 9 _ h.5 ∙ accepted
allowed_passes a (closing s c) h = passed 4 _ (is_below s _ h.0) ∙ passed 5 _ (channel_is c h.1) ∙ passed 12 _ (ap not h.2) ∙ accepted
allowed_passes a (tracing s c buffer) h =
    passed 4 _ (is_below s _ h.0) ∙ passed 5 _ (channel_is c h.1) ∙ passed 12 _ (ap not h.2) ∙ passed 14 _ (le-ltb (length buffer) 9 h.3) ∙ accepted
allowed_passes a (arming n k) h = passed 4 _ (is_below n _ h.0) ∙ passed 5 _ (channel_is k h.1) ∙ accepted
allowed_passes a (disarming n k) h = passed 4 _ (is_below n _ h.0) ∙ passed 5 _ (channel_is k h.1) ∙ passed 21 _ h.2 ∙ accepted
allowed_passes a (opening_all sends) h = passed 28 _ (ap₂ ◌||◌ (ap not (eq-eqb (length sends % 10) 0 h.0)) (le-ltb 640 (length sends) h.1)) ∙ accepted
allowed_passes a (booking ports index) h =
    passed 23 _ (ap₂ ◌||◌ (le-ltb (length ports) (hop_count a.book) h.0) (le-ltb (length index) (6 * length a.book) h.1)) ∙ accepted
allowed_passes a (judging ports index circuits hops) h =
    unfold judge_tests in passed 25 _ (ap not h.0) ∙ passed 26 _ (ap not h.1) ∙ passed 27 _ (ap not h.2) ∙ passed 11 _ (ap not h.3) ∙ accepted
allowed_passes a (folding mask) h =
    passed 6 _ (is_below mask _ (no_bit_above _ mask h.0))
    ∙ passed 13 _ (is_false _ (λ e. let r = there_held a mask e in clash r.4.2 (h.1 r.0 r.1 r.2 r.3 r.4.0 r.4.1))) ∙ accepted

-- the same of a call that no test stops in the history
pub allowed_on : (h : History) (x : Call) → stopped_on h x ≡ 0 → Allowed (facts_on h) x
unfolding stopped_on
allowed_on h x e = allowed (facts_on h) x e

-- and of each call by itself
module _ (h : History) where
  pub made_facts : (D : ℕ) → stopped_on h (making D) ≡ 0 → (1 ≤ D) × (D ≤ largest_dimension)
  unfolding Allowed
  made_facts D e = allowed_on h (making D) e

  pub block_facts : (n p : ℕ) → stopped_on h (blocking n p) ≡ 0 → (NodeOf h.dimension n) × (present h.dimension h.fold p ≡ true) × (held_on h n p ≡ false)
  unfolding Allowed facts_on
  block_facts n p e = let r = allowed_on h (blocking n p) e in (r.0, (port_exactly h.dimension h.fold p).1 r.1, r.2)

  pub unblock_facts : (n p : ℕ) → stopped_on h (unblocking n p) ≡ 0 → (NodeOf h.dimension n) × (present h.dimension h.fold p ≡ true)
  unfolding Allowed facts_on
  unblock_facts n p e = let r = allowed_on h (unblocking n p) e in (r.0, (port_exactly h.dimension h.fold p).1 r.1)

  pub close_facts : (s c : ℕ) → stopped_on h (closing s c) ≡ 0 → c < channels
  unfolding Allowed facts_on
  close_facts s c e = (allowed_on h (closing s c) e).1

  pub arm_facts : (n k : ℕ) → stopped_on h (arming n k) ≡ 0 → (NodeOf h.dimension n) × (k < channels)
  unfolding Allowed facts_on
  arm_facts n k e = allowed_on h (arming n k) e

  pub disarm_facts : (n k : ℕ) → stopped_on h (disarming n k) ≡ 0 → taken_on h n k ≡ false
  unfolding Allowed facts_on
  disarm_facts n k e = (allowed_on h (disarming n k) e).2

  -- where no test of a setting of the fold mask applies, its bits are below D, and each held partner link is one of a dimension that stays folded
  pub fold_facts : (mask : ℕ) → stopped_on h (folding mask) ≡ 0 → ((p : ℕ) → has mask p ≡ true → p < h.dimension)
      × ((n q : ℕ) → NodeOf h.dimension n → present h.dimension h.fold q ≡ true → held_on h n q ≡ true → present h.dimension mask q ≡ true)
  unfolding Allowed facts_on
  fold_facts mask e = (inside, stays)
    where
      r : Allowed (facts_on h) (folding mask)
      r = allowed_on h (folding mask) e

      inside : (p : ℕ) → has mask p ≡ true → p < h.dimension
      inside p on = ⊎_elim (λ l. l) (λ k. absurd (clash on (r.0 p k))) (below_or h.dimension p)

      stays : (n q : ℕ) → NodeOf h.dimension n → present h.dimension h.fold q ≡ true → held_on h n q ≡ true → present h.dimension mask q ≡ true
      stays n q i there held = (port_exactly h.dimension mask q).1 (port ((port_exactly h.dimension h.fold q).0 there))
        where
          port : PortOf h.dimension h.fold q → PortOf h.dimension mask q
          port (own_port l k) = own_port l k
          port (partner_port a l k on) = partner_port a l k (bit (has mask (17 - q)) refl)
            where
              bit : (b : Bool) → has mask (17 - q) ≡ b → has mask (17 - q) ≡ true
              bit true z = z
              bit false z =
                  let back : 17 - (17 - q) ≡ q = omega arith in
                  absurd (clash held (rw back at (r.1 (17 - q) k on z n i)))
