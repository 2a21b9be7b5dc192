-- Sends opened one after another: the first is acknowledged or refused; what each open keeps, all of them keep; and the same opens on two forms of state.
-- Assumes nothing.
use mathlib.Core.Path.{◌≡◌, refl, ap}
use mathlib.Core.Logic.{⊎_elim, ◌≢◌}
use mathlib.Core.Bool.{Bool, true, false, cond}
use mathlib.Core.List.{List, [], ◌∷◌}
use Prim.Native.Nat.{ℕ}
use lib.Dec.{eqb}
use borrow.Author.Tests.{eqb-true, eq-eqb, ne_eqb}
use Rattle.common.proofs.Tests.{same?}
use Rattle.ownership.specs.Sends.{Send}
use Rattle.ownership.specs.Calls.{Call, CallResult, CallFacts, refused_with, result_of, After, call_on}
use Rattle.ownership.specs.InTurn.{Job, one_more, ends_with, in_turn, after_job}

module _ {S : Type 0} (opens : S → Send → After S) where
  -- the number that an open answers
  abbrev pub open_number : S → Send → ℕ
  open_number s x = (opens s x).result.number

  pub turn_accepted : (s : S) (x : Send) (more : List Send) → open_number s x ≡ 0 → in_turn opens s (x ∷ more) ≡ one_more (in_turn opens (opens s x).state more)
  unfolding in_turn
  turn_accepted s x more e = rw (eq-eqb _ 0 e)

  pub turn_refused : (s : S) (x : Send) (more : List Send) → open_number s x ≢ 0 → in_turn opens s (x ∷ more) ≡ ends_with s (open_number s x)
  unfolding in_turn
  turn_refused s x more f = rw (ne_eqb _ 0 f)

  -- what each acknowledged open keeps
  module _ (I : S → Type 0) (kept : (s : S) (x : Send) → I s → open_number s x ≡ 0 → I (opens s x).state) where
    pub turn_keeps : (xs : List Send) (s : S) → I s → I (in_turn opens s xs).state
    unfolding in_turn
    turn_keeps [] s i = i
    turn_keeps (x ∷ more) s i =
        ⊎_elim (λ e. rw (turn_accepted s x more e) (turn_keeps more (opens s x).state (kept s x i e))) (λ f. rw (turn_refused s x more f) i)
        (same? (open_number s x) 0)

    pub after_keeps : (xs : List Send) (s : S) → I s → I (after_job s (in_turn opens s xs))
    unfolding after_job
    after_keeps xs s i = go (eqb (in_turn opens s xs).result.number 0)
      where
        go : (b : Bool) → I (cond b (in_turn opens s xs).state s)
        go true = turn_keeps xs s i
        go false = i

    -- what holds of 0 and of the number of each open there holds of the job's
    pub turn_number : (P : ℕ → Type 0) → P 0 → ((s : S) (x : Send) → I s → P (open_number s x)) → (xs : List Send) (s : S) → I s → P (in_turn opens s xs).result.number
    unfolding in_turn
    turn_number P none each [] s i = none
    turn_number P none each (x ∷ more) s i =
        ⊎_elim (λ e. rw (turn_accepted s x more e) (turn_number P none each more (opens s x).state (kept s x i e)))
        (λ f. rw (turn_refused s x more f) (each s x i)) (same? (open_number s x) 0)

-- The same opens on another form of state, which f reads off the first.
module _ {S T : Type 0} (f : S → T) where
  abbrev pub same_call : After S → After T
  same_call y = record { state = f y.state; result = y.result }

  abbrev pub same_job : Job S → Job T
  same_job j = record { result = j.result; state = f j.state }

  -- one call: where the tests answer alike and so does what comes after them
  pub call_same : (before after : S) (a b : CallFacts) {n m : ℕ} (call : Call) → n ≡ m → result_of a call ≡ result_of b call
      → call_on (f before) (f after) a n call ≡ same_call (call_on before after b m call)
  unfolding call_on
  call_same before after a b {n} {m} call e r = rw (e, r) (go (cond (eqb m 0) (result_of b call) (refused_with m call)))
    where
      pick : (c : Bool) → cond c (f after) (f before) ≡ f (cond c after before)
      pick true = refl
      pick false = refl

      go : (g : CallResult) → record { state = cond (eqb g.number 0) (f after) (f before); result = g } ≡ same_call (record { state = cond (eqb g.number 0) after before; result = g })
      go g = λ i. record { state = pick (eqb g.number 0) i; result = g }

  module _ (opens : S → Send → After S) (others : T → Send → After T) (I : S → Type 0) (kept : (s : S) (x : Send) → I s → (opens s x).result.number ≡ 0 → I (opens s x).state)
      (same : (s : S) (x : Send) → I s → others (f s) x ≡ same_call (opens s x)) where
    pub turn_same : (xs : List Send) (s : S) → I s → in_turn others (f s) xs ≡ same_job (in_turn opens s xs)
    unfolding in_turn
    turn_same [] s i = refl
    turn_same (x ∷ more) s i = rw (same s x i) (go (eqb (opens s x).result.number 0) refl (λ e. turn_same more (opens s x).state (kept s x i (eqb-true _ 0 e))))
      where
        n : ℕ
        n = (opens s x).result.number

        go : (b : Bool) → eqb n 0 ≡ b → (eqb n 0 ≡ true → in_turn others (f (opens s x).state) more ≡ same_job (in_turn opens (opens s x).state more))
            → cond b (one_more (in_turn others (f (opens s x).state) more)) (ends_with (f s) n) ≡ same_job (cond b (one_more (in_turn opens (opens s x).state more)) (ends_with s n))
        go true e later = ap one_more (later e)
        go false e later = refl

    pub after_same : (xs : List Send) (s : S) → I s → after_job (f s) (in_turn others (f s) xs) ≡ f (after_job s (in_turn opens s xs))
    unfolding after_job
    after_same xs s i = rw (turn_same xs s i) (go (eqb (in_turn opens s xs).result.number 0))
      where
        go : (b : Bool) → cond b (f (in_turn opens s xs).state) (f s) ≡ f (cond b (in_turn opens s xs).state s)
        go true = refl
        go false = refl
