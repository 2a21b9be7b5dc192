-- The test of receive channels: it passes exactly where no target ends more circuits of the book than it has available channels.
-- Assumes nothing.
use mathlib.Core.Path.{◌≡◌, refl, ap, sym, ◌∙◌}
use mathlib.Core.Logic.{◌↔◌, ⊎_elim}
use mathlib.Core.Bool.{Bool, true, false, cond}
use mathlib.Core.List.{List, [], ◌∷◌, map}
use Prim.Native.Nat.{ℕ, suc, ◌+◌, ◌≤◌, ◌<◌}
use native.Mathlib.Omega.{arith}
use lib.Dec.{eqb, ltb}
use lib.ListN.{length}
use borrow.Author.Tests.{eqb-true, eqb-false, eq-eqb, ne_eqb, ltb-true, lt-ltb}
use Rattle.common.specs.Lists.{keep, from}
use Rattle.common.proofs.Tests.{both, and, below_or}
use Rattle.common.proofs.Lists.{keep_nil, keep_yes, keep_no, keep_same}
use Rattle.cube.specs.Cube.{channels}
use Rattle.judging.specs.Judged.{targets_fit}

-- how often a target is in a list, and how many channels are available there
abbrev pub times : ℕ → List ℕ → ℕ
times t ts = length (keep (eqb t) ts)

abbrev pub room : (ℕ → ℕ → Bool) → ℕ → ℕ
room available t = length (keep (available t) (from 0 channels))

-- a list with one target more in front: that one is in it once more, and every other as often
once_more : (t u : ℕ) (ts : List ℕ) → eqb t u ≡ true → times t (u ∷ ts) ≡ suc (times t ts)
once_more t u ts e = ap length (keep_yes (eqb t) u ts e)

as_often : (t u : ℕ) (ts : List ℕ) → eqb t u ≡ false → times t (u ∷ ts) ≡ times t ts
as_often t u ts e = ap length (keep_no (eqb t) u ts e)

none_in : (t : ℕ) → times t [] ≡ 0
none_in t = ap length (keep_nil (eqb t))

-- no target of a list, with those before it, is there more often than there is room
abbrev RoomForEach : (ℕ → ℕ → Bool) → List ℕ → List ℕ → Type 0
RoomForEach available before ts = (t : ℕ) → 0 < times t ts → times t before + times t ts ≤ room available t

module _ (available : ℕ → ℕ → Bool) where
  -- what the test lets through has room,
  fit_room : (before ts : List ℕ) → targets_fit available before ts ≡ true → RoomForEach available before ts
  unfolding targets_fit
  fit_room before [] e t l = absurd (omega (arith, none_in t))
  fit_room before (u ∷ ts) e t l = go (eqb t u) refl (fit_room (u ∷ before) ts r.1 t)
    where
      r : (ltb (times u before) (room available u) ≡ true) × (targets_fit available (u ∷ before) ts ≡ true)
      r = both (ltb (times u before) (room available u)) _ e

      below : eqb t u ≡ true → times t before < room available t
      below i = rw (eqb-true t u i) (ltb-true _ _ r.0)

      go : (b : Bool) → eqb t u ≡ b → (0 < times t ts → times t (u ∷ before) + times t ts ≤ room available t) → times t before + times t (u ∷ ts) ≤ room available t
      go true i ih =
          ⊎_elim (λ some. omega (arith, ih some, once_more t u before i, once_more t u ts i)) (λ none. omega (arith, below i, once_more t u ts i))
          (below_or (times t ts) 0)
      go false i ih = omega (arith, as_often t u before i, as_often t u ts i)

  -- and it lets through every list that has room
  room_fit : (before ts : List ℕ) → RoomForEach available before ts → targets_fit available before ts ≡ true
  unfolding targets_fit
  room_fit before [] h = refl
  room_fit before (u ∷ ts) h =
      and (lt-ltb _ _ (omega (arith, once_more u u ts (eq-eqb u u refl), h u))) (room_fit (u ∷ before) ts (λ t l. go t l (eqb t u) refl (h t)))
    where
      go : (t : ℕ) → 0 < times t ts → (b : Bool) → eqb t u ≡ b → (0 < times t (u ∷ ts) → times t before + times t (u ∷ ts) ≤ room available t)
          → times t (u ∷ before) + times t ts ≤ room available t
      go t l true i k = omega (arith, once_more t u before i, once_more t u ts i)
      go t l false i k = omega (arith, as_often t u before i, as_often t u ts i)

-- the members of a list that pass a test under a function are as many as pass it of the list under the function
pub kept_under : {A B : Type 0} (f : B → Bool) (g : A → B) (xs : List A) → length (keep f (map g xs)) ≡ length (keep (λ x. f (g x)) xs)
unfolding keep
kept_under f g [] = refl
kept_under f g (x ∷ xs) = go (f (g x)) (kept_under f g xs)
  where
    go : (b : Bool) → length (keep f (map g xs)) ≡ length (keep (λ x. f (g x)) xs)
        → length (cond b (g x ∷ keep f (map g xs)) (keep f (map g xs))) ≡ length (cond b (x ∷ keep (λ x. f (g x)) xs) (keep (λ x. f (g x)) xs))
    go true h = omega arith
    go false h = h

-- one number is another as the other is the one
same_test : (t u : ℕ) → eqb t u ≡ eqb u t
same_test t u = go (eqb u t) refl
  where
    go : (b : Bool) → eqb u t ≡ b → eqb t u ≡ b
    go true e = eq-eqb t u (sym (eqb-true u t e))
    go false e = ne_eqb t u (λ i. eqb-false u t e (sym i))

-- how often a node is among the targets of a list, counted as members that end there
counted : {A : Type 0} (target : A → ℕ) (t : ℕ) (xs : List A) → times t (map target xs) ≡ length (keep (λ x. eqb (target x) t) xs)
counted target t xs = kept_under (eqb t) target xs ∙ ap length (keep_same _ _ xs (λ x m. same_test t (target x)))

-- Over the targets of a list of circuits the test passes exactly where at every node no more of them end than channels are available.
pub targets_pass : {A : Type 0} (available : ℕ → ℕ → Bool) (target : A → ℕ) (xs : List A)
    → (targets_fit available [] (map target xs) ≡ true) ↔ ((t : ℕ) → length (keep (λ x. eqb (target x) t) xs) ≤ room available t)
targets_pass available target xs = (
  (λ e t. ⊎_elim (λ some. omega (arith, fit_room available [] (map target xs) e t some, none_in t, counted target t xs)) (λ none. omega (arith, counted target t xs))
      (below_or (times t (map target xs)) 0)),
  (λ h. room_fit available [] (map target xs) (λ t l. omega (arith, none_in t, counted target t xs, h t))),
)
