-- Sends opened one after another on any kind of state, up to the first that is refused.
-- Assumes nothing.
use Rattle.std.specs.Prelude.{cond, List, [], ◌∷◌, ℕ, suc, eqb}
use Rattle.common.specs.Tests.{refusal}
use Rattle.ownership.specs.Sends.{Send, JobResult}
use Rattle.ownership.specs.Calls.{opening_of, CallFacts, call_tests, After, call_on}

-- A job from a state on: what its sends come to, and the state that those before the first refused one leave.
pub record Job (S : Type 0) : Type 0 where
  pub result : JobResult
  pub state : S

-- one send more in front, which was acknowledged
abbrev pub one_more : {S : Type 0} → Job S → Job S
one_more j = record { result = record { number = j.result.number; sends = suc j.result.sends }; state = j.state }

-- no send more is opened: the number of one that is refused, or 0 where none is left, as of an empty list (Jobs 7)
abbrev pub ends_with : {S : Type 0} → S → ℕ → Job S
ends_with s n = record { result = record { number = n; sends = 0 }; state = s }

-- Jobs 4: one after another, each on what those before it left, up to the first refusal; `opens` is a single open
module _ {S : Type 0} (opens : S → Send → After S) where
  unfoldable pub in_turn : S → List Send → Job S
  in_turn s [] = ends_with s 0
  in_turn s (x ∷ more) =
      let y = opens s x in cond (eqb y.result.number 0) (one_more (in_turn y.state more)) (ends_with s y.result.number)

-- a single open on a state, from what a call asks of the state and what the open makes of it
abbrev pub single_open : {S : Type 0} → (S → CallFacts) → (S → Send → S) → S → Send → After S
single_open facts opened s x = call_on s (opened s x) (facts s) (refusal (call_tests (facts s) (opening_of x))) (opening_of x)

-- Jobs 1: all sends of a list, or none of them. Jobs 6: at the first refusal the state is as it was before.
unfoldable pub after_job : {S : Type 0} → S → Job S → S
after_job before j = cond (eqb j.result.number 0) j.state before
