-- What an open answers: acknowledged, or refused before or after its search. Its number, and the values that stand beside it.
-- Assumes nothing.
use Rattle.std.specs.Prelude.{ℕ, List, [], ◌∷◌, Result, Ok, Err}
use Rattle.common.specs.Refusals.{number_of}
use Rattle.answers.specs.declared.Acknowledged.{Acknowledged}
use Rattle.answers.specs.declared.Rejected.{Rejected}

-- Calls 14: 0, or the number of the refusal
abbrev pub opened_number : Result Acknowledged Rejected → ℕ
opened_number (Ok a) = 0
opened_number (Err r) = number_of r.refusal

-- Calls 14: the hops, the receive channel and the scouts; a refusal has 0 hops and channel 0.
abbrev pub opened_values : Result Acknowledged Rejected → List ℕ
opened_values (Ok a) = a.hops ∷ a.receive ∷ a.scouts ∷ []
opened_values (Err r) = 0 ∷ 0 ∷ r.scouts ∷ []
