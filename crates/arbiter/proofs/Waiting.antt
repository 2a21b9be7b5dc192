-- How long a requester waits that keeps asking: with each accepted call that serves another, the record comes nearer to it, so that it is served within 26. That
-- limit is reached for each of the 26.
-- Assumes nothing.
use mathlib.Core.Path.{◌≡◌, refl, ap, sym, ◌∙◌}
use mathlib.Core.Logic.{◌≢◌, ◌⊎◌, inl, inr, ⊎_elim}
use mathlib.Core.Bool.{Bool, true, false, not, ◌&&◌}
use mathlib.Core.List.Memᴰ
use mathlib.Core.List.{List, [], ◌∷◌, map}
use Prim.Native.Nat.{ℕ, zero, suc, ◌-◌, ◌^◌, ◌≤◌, ◌<◌}
use native.Mathlib.Omega.{arith}
use lib.Dec.{eqb}
use lib.ListN.{length, take, replicate}
use borrow.Author.Tests.{eqb-true, eq-eqb, ne_eqb, not-true, not-false}
use Rattle.common.specs.Lists.{◌∈◌, keep, from, any, every}
use Rattle.common.specs.Tests.{refusal}
use Rattle.common.proofs.Every.{at}
use Rattle.common.proofs.Lists.{keep_yes, keep_no}
use Rattle.common.proofs.Tests.{both, neither, clash, same?, below_or}
use Rattle.arbiter.specs.Arbiter.{Choice, is_asking, order, chosen, arbiter_tests, accepted_choice, arbitrated}
use Rattle.arbiter.specs.ArbiterContracts.{Requested}
use Rattle.arbiter.specs.Chosen.{steps}
use Rattle.arbiter.specs.Calls.{ArbiterCall, call_made, calls, accepted_calls, served_by, KeepsAsking, ServedWithin, ServedLast, limit}
use Rattle.arbiter.proofs.Order.{steps_above, steps_round}
use Rattle.arbiter.proofs.Requests.{asks_below, asks_some}
use Rattle.arbiter.proofs.Answers.{accepted_for, refused_else, served, recorded}

-- a requester is 1 to 26 places after a record
steps_range : (last r : ℕ) → last < 26 → r < 26 → (0 < steps last r) × (steps last r ≤ 26)
steps_range last r h l = ⊎_elim (λ g. let e = steps_above last r g in (omega arith, omega arith)) (λ g. let e = steps_round last r g in (omega arith, omega arith)) (below_or r last)

-- Where another is served who comes sooner, the record comes nearer.
nearer : (last c r : ℕ) → last < 26 → c < 26 → r < 26 → steps last c ≤ steps last r → c ≢ r → steps c r < steps last r
nearer last c r h k l near other =
    ⊎_elim
    (λ a. let ea = steps_above last r a in ⊎_elim (λ b. let eb = steps_above last c b in let e = steps_above c r (omega arith) in omega arith) (λ b. let eb = steps_round last c b in absurd (omega arith)) (below_or c last))
    (λ a. let ea = steps_round last r a in ⊎_elim (λ b. let eb = steps_above last c b in let e = steps_round c r (omega arith) in omega arith) (λ b. let eb = steps_round last c b in let e = steps_above c r (omega arith) in omega arith) (below_or c last))
    (below_or r last)

-- the accepted calls of a list: its first one is the first of them, or is left out
module _ (last requests : ℕ) (more : List ℕ) where
  goes_first : (arbitrated last requests).number ≡ 0 → accepted_calls last (requests ∷ more) ≡ call_made last requests ∷ accepted_calls (arbitrated last requests).last more
  unfolding accepted_calls calls
  goes_first e = keep_yes _ (call_made last requests) (calls (arbitrated last requests).last more) (eq-eqb (arbitrated last requests).number 0 e)

  left_out : (arbitrated last requests).number ≢ 0 → accepted_calls last (requests ∷ more) ≡ accepted_calls last more
  unfolding accepted_calls calls
  left_out e =
      keep_no _ (call_made last requests) (calls (arbitrated last requests).last more) (ne_eqb (arbitrated last requests).number 0 e)
      ∙ ap (λ (c : Choice). accepted_calls c.last more) (refused_else last requests e)

no_calls : (last : ℕ) → accepted_calls last [] ≡ []
unfolding keep accepted_calls calls
no_calls last = refl

not_none : (n : ℕ) → 0 < n → length (take {A = ArbiterCall} n []) ≡ n → ⊥
not_none zero some e = omega arith
not_none (suc n) some e = omega arith

-- Of n calls that a requester asks in, it asks in the first and in the others.
asks_first : {m r : ℕ} {c : ArbiterCall} {cs : List ArbiterCall} → KeepsAsking (suc m) r (c ∷ cs) → (is_asking c.requests r ≡ true) × KeepsAsking m r cs
asks_first k = (k.asking _ (Memᴰ.head refl), record { count = (let e = k.count in omega arith); asking = λ c i. k.asking c (Memᴰ.tail i) })

-- A requester that asks in n accepted calls, and comes at most n places after the record, is served by one of them.
abbrev Waits : List ℕ → Type 0
Waits list = (n r last : ℕ) → 0 < n → (last < 26 → r < 26 → steps last r ≤ n) → KeepsAsking n r (take n (accepted_calls last list)) → r ∈ map served_by (take n (accepted_calls last list))

one_more : (q : ℕ) (more : List ℕ) → Waits more → Waits (q ∷ more)
one_more q more ih zero r last some near k = absurd (omega arith)
one_more q more ih (suc m) r last some near k = go (same? (arbitrated last q).number 0)
  where
    -- the call is accepted: it serves r, or the record comes nearer
    first : (arbitrated last q).number ≡ 0 → KeepsAsking (suc m) r (call_made last q ∷ take m (accepted_calls (arbitrated last q).last more))
        → r ∈ (served_by (call_made last q) ∷ map served_by (take m (accepted_calls (arbitrated last q).last more)))
    first e keeps =
        let a = asks_first keeps in
        let b = accepted_for last q e in
        let small : r < 26 = asks_below 26 q r b.1 a.0 in
        let h : Requested last q = record { stored = b.0; inside = b.1; some = asks_some q r a.0 } in
        let c = served last q h in
        let gave = recorded last q h in
        let before = near b.0 small in
        ⊎_elim (λ i. Memᴰ.head (sym (ap (λ (x : Choice). x.requester) gave ∙ i)))
        (λ i.
        let now = nearer last (chosen last q) r b.0 c.requester small (c.nearest r small a.0) i in
        let range = steps_range (chosen last q) r c.requester small in
        Memᴰ.tail
        (ih m r (arbitrated last q).last (omega arith) (λ x y. let f : steps (arbitrated last q).last r ≡ steps (chosen last q) r = ap (λ (x : Choice). steps x.last r) gave in omega arith) a.1))
        (same? (chosen last q) r)

    go : ((arbitrated last q).number ≡ 0) ⊎ ((arbitrated last q).number ≢ 0) → r ∈ map served_by (take (suc m) (accepted_calls last (q ∷ more)))
    go (inl e) = rw (goes_first last q more e) (first e (rw (goes_first last q more e) at k))
    go (inr e) = rw (left_out last q more e) (ih (suc m) r last some near (rw (left_out last q more e) at k))

waiting : (list : List ℕ) → Waits list
waiting [] = λ n r last some near k. absurd (let z : length (take {A = ArbiterCall} n []) ≡ n = rw (no_calls last) at k.count in not_none n some z)
waiting (q ∷ more) = one_more q more (waiting more)

-- Arbiter 8.
pub served_within : ServedWithin limit
unfolding ServedWithin
served_within r last list k = waiting list limit r last (omega arith) (λ h l. let range = steps_range last r h l in omega arith) k

-- Arbiter 9: from record r, where all 26 ask in each of 26 calls
none_of : {A : Type 0} (f : A → Bool) (xs : List A) → any f xs ≡ false → (x : A) → x ∈ xs → f x ≡ false
unfolding any
none_of f [] e x m = absurd (Memᴰ.not-nil m)
none_of f (y ∷ ys) e x m = let r = neither (f y) (any f ys) e in ⊎_elim (λ i. ap f i ∙ r.0) (none_of f ys r.1 x) (Memᴰ.cases_cons m)

everybody : List ℕ
everybody = replicate limit (2 ^ 26 - 1)

-- one computed test: r asks in each of the calls, and those before the last do not serve it
last_served : ℕ → Bool
last_served r =
    eqb (length (take limit (accepted_calls r everybody))) limit
    && (not (any (λ c. not (is_asking c.requests r)) (take limit (accepted_calls r everybody))) && not (any (λ c. eqb (served_by c) r) (take (limit - 1) (accepted_calls r everybody))))

last_of_all : every 26 last_served ≡ true → (r : ℕ) → r < 26 → ServedLast limit r
unfolding last_served
last_of_all all r h =
    let t = both _ _ (at 26 last_served all r h) in
    let s = both _ _ t.1 in
    record {
      last = r;
      list = everybody;
      asked = record { count = eqb-true _ _ t.0; asking = λ c m. not-false _ (none_of (λ c. not (is_asking c.requests r)) _ (not-true _ s.0) c m) };
      not_before = λ m. let o = Memᴰ.of_map served_by (take (limit - 1) (accepted_calls r everybody)) m in clash (eq-eqb _ _ o.2) (none_of (λ c. eqb (served_by c) r) _ (not-true _ s.1) o.0 o.1);
    }

-- the test computes to true for each of the 26
pub limit_reached : (r : ℕ) → r < 26 → ServedLast limit r
unfolding keep from any refusal is_asking order chosen arbiter_tests accepted_choice arbitrated calls accepted_calls everybody last_served
limit_reached = last_of_all refl
