-- An iterator whose state shows the list of what is left, as `YieldsFirstBy` says it: what `any` and `all` answer of a test, and at which items they call it.
-- Assumes nothing.
use mathlib.Core.Path.{◌≡◌, refl, sym}
use mathlib.Core.Bool.{Bool, true, false}
use mathlib.Core.List.Memᴰ
use mathlib.Core.List.{List, [], ◌∷◌}
use denote.Param.Members.{Mut, Called}
use Rattle.std.specs.Prelude.{Option, Some, None}
use Rattle.std.specs.Fn.{Takes}
use Rattle.std.specs.List.{FoldsTo, list_all}
use Rattle.std.specs.Option.{MatchOption}
use Rattle.std.specs.Iterator.{Yields, YieldsFirstBy, CallableAtEachTurn, ChecksAny, ChecksAll}
use Rattle.common.specs.Lists.{◌∈◌, any}

module _ {S A B : Type 0} {steps : S → Option A → S → Type 0} (v : A → B) (rest : S → List B)
    (first : (s : S) (r : Option A) (t : S) → steps s r t → YieldsFirstBy v rest s r t) where
  -- each item that comes is a member of the list
  pub item_in : (xs : List A) {s t u : S} {x : A} → Yields steps s xs t → steps t (Some x) u → v x ∈ rest s
  item_in [] {s} {t} {u} {x} e last = rw (e, first t (Some x) u last) (Memᴰ.head refl)
  item_in (y ∷ xs) {s} run last = rw (first s (Some y) run.0 run.1) (Memᴰ.tail (item_in xs run.2 last))

  -- a value that is called, stays as it is, and answers what the test says
  module _ {F : Type 0} {g : Mut F (A × Unit {0}) Bool} {f : F} (test : B → Bool) (says : (x : A) (r : Bool) (q : F) → Called g f (x, tt) r q → (q ≡ f) × (r ≡ test (v x))) where
    kept : (answer : Bool) (xs : List A) {q : F} → FoldsTo (λ p x q. Called g p (x, tt) answer q) f xs q → q ≡ f
    kept answer [] folds = sym folds
    kept answer (x ∷ xs) folds = let same = (says x answer folds.0 folds.1).0 in kept answer xs (rw same at folds.2)

    pub callable : (answer : Bool) {s : S} → ((x : A) → v x ∈ rest s → Takes g f (x, tt))
        → CallableAtEachTurn steps (λ p x q. Called g p (x, tt) answer q) (λ p x. Takes g p (x, tt)) s f
    callable answer takes = record { at = λ xs t q x u run folds last. rw (kept answer xs folds) (takes x (item_in xs run last)) }

    pub any_of : {s : S} (u : S) {r : Bool} → ChecksAny steps g s f r u → r ≡ any test (rest s)
    unfolding any
    any_of {s} u {r} ran = go ran.0 s ran.3.1 ran.4
      where
        stopped : (o : Option A) (t : S) → steps t o u → MatchOption o (r ≡ false) (λ x. (r ≡ true) × ((h : F) × Called g f (x, tt) true h)) → r ≡ any test (rest t)
        stopped None t last e = rw (first t None u last).0 e
        stopped (Some x) t last e = rw (first t (Some x) u last, ← (says x true e.1.0 e.1.1).1) e.0

        go : (xs : List A) (s : S) → Yields steps s xs ran.3.0 → FoldsTo (λ p x q. Called g p (x, tt) false q) f xs ran.2 → r ≡ any test (rest s)
        go [] s run folds = rw run (stopped ran.1 ran.3.0 ran.3.2 (rw (← folds) at ran.5))
        go (x ∷ xs) s run folds =
            let call = says x false folds.0 folds.1 in
            rw (first s (Some x) run.0 run.1, ← call.1) (go xs run.0 run.2 (rw call.0 at folds.2))

    pub all_of : {s : S} (u : S) {r : Bool} → ChecksAll steps g s f r u → r ≡ list_all test (rest s)
    all_of {s} u {r} ran = go ran.0 s ran.3.1 ran.4
      where
        stopped : (o : Option A) (t : S) → steps t o u → MatchOption o (r ≡ true) (λ x. (r ≡ false) × ((h : F) × Called g f (x, tt) false h)) → r ≡ list_all test (rest t)
        stopped None t last e = rw (first t None u last).0 e
        stopped (Some x) t last e = rw (first t (Some x) u last, ← (says x false e.1.0 e.1.1).1) e.0

        go : (xs : List A) (s : S) → Yields steps s xs ran.3.0 → FoldsTo (λ p x q. Called g p (x, tt) true q) f xs ran.2 → r ≡ list_all test (rest s)
        go [] s run folds = rw run (stopped ran.1 ran.3.0 ran.3.2 (rw (← folds) at ran.5))
        go (x ∷ xs) s run folds =
            let call = says x true folds.0 folds.1 in
            rw (first s (Some x) run.0 run.1, ← call.1) (go xs run.0 run.2 (rw call.0 at folds.2))
