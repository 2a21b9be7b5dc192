-- History 12: the send channels that are open after a list of calls, said of the list and of the numbers that its calls answered.
-- Assumes nothing.
use Rattle.std.specs.Prelude.{◌≡◌, cond, List, [], ◌∷◌, ◌++◌, map, ℕ, eqb}
use Rattle.common.specs.Lists.{◌∈◌}
use Rattle.paths.specs.Send.{acknowledged}
use Rattle.ownership.specs.Sends.{sends_in}
use Rattle.ownership.specs.Calls.{Call, making, blocking, unblocking, opening, closing, tracing, arming, disarming, opening_all, booking, judging, folding, opening_of, CallResult}
use Rattle.ownership.specs.History.{Circuit, History, stopped_on, send_on, history_step}
use Rattle.ownership.specs.Agrees.{history_after, history_results}

-- Jobs 8: an accepted job counts as its single opens, a refused one as nothing. What a call that answered n counts as; each other call is itself.
unfoldable pub counts_as : Call → ℕ → List Call
counts_as (making D) n = making D ∷ []
counts_as (blocking m p) n = blocking m p ∷ []
counts_as (unblocking m p) n = unblocking m p ∷ []
counts_as (opening s c t y v) n = opening s c t y v ∷ []
counts_as (closing s c) n = closing s c ∷ []
counts_as (tracing s c buffer) n = tracing s c buffer ∷ []
counts_as (arming m k) n = arming m k ∷ []
counts_as (disarming m k) n = disarming m k ∷ []
counts_as (booking ports index) n = booking ports index ∷ []
counts_as (judging ports index circuits hops) n = judging ports index circuits hops ∷ []
counts_as (folding mask) n = folding mask ∷ []
counts_as (opening_all sends) n = cond (eqb n 0) (map opening_of (sends_in sends)) []

-- the calls of a list so counted, each with the number that it answered; an accepted open is an acknowledged one
unfoldable pub with_answers : List Call → List CallResult → List (Call × ℕ)
with_answers [] gs = []
with_answers (a ∷ more) [] = []
with_answers (a ∷ more) (g ∷ gs) = map (λ (x : Call). (x, g.number)) (counts_as a g.number) ++ with_answers more gs

-- the same calls without the numbers, by those that they answer from a history on
unfoldable pub counted : History → List Call → List Call
counted h [] = []
counted h (a ∷ more) = counts_as a (history_step h a).result.number ++ counted (history_step h a).state more

-- where it is accepted, the call ends the circuit of send channel c of node s: it is a making, or a close of that channel
unfoldable pub Ends : ℕ → ℕ → Call → Type 0
Ends s c (making D) = Unit
Ends s c (blocking n p) = ⊥
Ends s c (unblocking n p) = ⊥
Ends s c (opening m d t y v) = ⊥
Ends s c (closing m d) = (m ≡ s) × (d ≡ c)
Ends s c (tracing m d buffer) = ⊥
Ends s c (arming n k) = ⊥
Ends s c (disarming n k) = ⊥
Ends s c (opening_all sends) = ⊥
Ends s c (booking ports index) = ⊥
Ends s c (judging ports index circuits hops) = ⊥
Ends s c (folding mask) = ⊥

-- no accepted call of a list ends it
unfoldable pub Lasts : ℕ → ℕ → List (Call × ℕ) → Type 0
Lasts s c calls = (a : Call) → (a, 0) ∈ calls → Ends s c a → ⊥

-- History 12: the list has an acknowledged open of the channel, and no accepted making and no accepted close of it afterwards.
pub record StillOpen (s c : ℕ) (calls : List (Call × ℕ)) : Type 0 where
  pub before : List (Call × ℕ)
  pub target : ℕ
  pub type : ℕ
  pub vector : ℕ
  pub after : List (Call × ℕ)
  pub split : calls ≡ before ++ (opening s c target type vector, 0) ∷ after
  pub lasts : Lasts s c after

-- Circuit x was listed by an open of the list: one of its send channel to its target that no test stopped, which was acknowledged with its path and its
-- receive channel by the rules read on the history before it, and which no accepted call has ended since.
pub record OpenedBy (h : History) (calls : List Call) (x : Circuit) : Type 0 where
  pub before : List Call
  pub type : ℕ
  pub vector : ℕ
  pub after : List Call
  pub split : calls ≡ before ++ opening x.source x.channel x.target type vector ∷ after
  pub not_stopped : stopped_on (history_after h before) (opening x.source x.channel x.target type vector) ≡ 0
  pub acknowledges : (send_on (history_after h before) x.source x.target type vector).outcome ≡ acknowledged x.ports x.receive
  pub lasts : Lasts x.source x.channel (with_answers after (history_results (history_step (history_after h before) (opening x.source x.channel x.target type vector)).state after))
