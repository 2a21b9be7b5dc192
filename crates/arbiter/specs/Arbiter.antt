-- What a call of the arbiter answers, and the record after it.
-- Assumes nothing.
use Rattle.std.specs.Prelude.{Bool, cond, ◌||◌, List, [], ◌∷◌, ◌++◌, ℕ, ◌+◌, ◌-◌, ◌/◌, ◌%◌, ◌^◌, eqb, leb, ltb, get_or, Option, Some, None, Result, Ok, Err}
use Rattle.common.specs.Lists.{keep, from}
use Rattle.common.specs.Tests.{Test, test, refusal}
use Rattle.common.specs.Refusals.{answer_of}
use Rattle.common.specs.declared.refusal.Refusal.{Refusal}

-- Arbiter 3: what a call answers, its number and the requester, and the record after it
pub record Choice : Type 0 where
  pub number : ℕ
  pub requester : ℕ
  pub last : ℕ

-- Arbiter 1, Arbiter 2: requester r, an input port below 18 and else a send channel, asks where its bit is set.
unfoldable pub is_asking : ℕ → ℕ → Bool
is_asking requests r = eqb (requests / 2 ^ r % 2) 1

-- Arbiter 4: the order in which requesters are asked: last + 1, .., 25, 0, .., last
unfoldable pub order : ℕ → List ℕ
order last = from (last + 1) (25 - last) ++ from 0 (last + 1)

-- Arbiter 4: the first in that order who asks. Arbiter 6: 26 where nobody does.
unfoldable pub chosen : ℕ → ℕ → ℕ
chosen last requests = get_or (keep (is_asking requests) (order last)) 0 26

-- Arbiter 7, Refusals 31
unfoldable pub arbiter_tests : ℕ → ℕ → List Test
arbiter_tests last requests = test (leb (2 ^ 26) requests || ltb 25 last) 31 ∷ []

-- Arbiter 5: 0 and the requester, who is the record then. Arbiter 6: the record stays where nobody is served.
unfoldable pub accepted_choice : ℕ → ℕ → Choice
accepted_choice last r = record { number = 0; requester = r; last = cond (eqb r 26) last r }

-- Arbiter 7: a refused call answers zero beside its number, and the record stays.
abbrev pub refused_choice : ℕ → ℕ → Choice
refused_choice last number = record { number = number; requester = 0; last = last }

-- what a call answers, and the record after it
unfoldable pub arbitrated : ℕ → ℕ → Choice
arbitrated last requests =
    let number = refusal (arbiter_tests last requests) in
    cond (eqb number 0) (accepted_choice last (chosen last requests)) (refused_choice last number)

-- the requester that an answer tells C: 26 for nobody (Arbiter 6), and zero beside a refusal (Arbiter 7)
abbrev pub requester_of : Result (Option ℕ) Refusal → ℕ
requester_of (Ok (Some r)) = r
requester_of (Ok None) = 26
requester_of (Err e) = 0

-- the record after an answer: who was served, if anybody
abbrev pub last_after : Result (Option ℕ) Refusal → ℕ → ℕ
last_after (Ok (Some r)) last = r
last_after (Ok None) last = last
last_after (Err e) last = last

-- an answer with the record after it, as one call
abbrev pub choice : Result (Option ℕ) Refusal → ℕ → Choice
choice answer last = record { number = answer_of answer; requester = requester_of answer; last = last }
