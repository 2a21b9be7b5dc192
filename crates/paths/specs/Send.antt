-- A send: a list of attempts made in turn, and what becomes of the path that the last one found.
-- Assumes nothing.
use Rattle.std.specs.Prelude.{Bool, true, false, cond, List, [], ◌∷◌, map, ℕ, ◌+◌, eqb}
use Rattle.common.specs.Lists.{lowest}
use Rattle.paths.specs.Network.{Network, Path}
use Rattle.paths.specs.Pass.{PassResult, none, found, pass, scouts}
use Rattle.cube.specs.Cube.{channels}
use Rattle.paths.specs.Helix.{helix_path, try_paths}

-- Searches 9: the target's lowest available channel, or none where there is no such channel
pub data Receive : Type 0 where
  lowest_available : ℕ → Receive
  none_available : Receive

-- the lowest of a node's channels that passes a test, if any does
unfoldable pub lowest_of : (ℕ → Bool) → Receive
lowest_of f = cond (eqb (lowest f channels 0) channels) none_available (lowest_available (lowest f channels 0))

-- Searches 10: acknowledged, with a path and a channel. Searches 12: route rejected. Searches 11: receive rejected.
pub data Outcome : Type 0 where
  acknowledged : Path → ℕ → Outcome
  route_rejected : Outcome
  receive_rejected : Outcome

-- the outcomes that are acknowledgements
unfoldable pub Acknowledged : Outcome → Type 0
Acknowledged (acknowledged w c) = Unit
Acknowledged route_rejected = ⊥
Acknowledged receive_rejected = ⊥

unfoldable pub outcome_of_path : Path → Receive → Outcome
outcome_of_path w (lowest_available c) = acknowledged w c
outcome_of_path w none_available = receive_rejected

unfoldable pub outcome : Receive → PassResult → Outcome
outcome r (none c) = route_rejected
outcome r (found w c) = outcome_of_path w r

-- Searches 1: what a send tries in turn, the permitted paths whose first hop is a port of a list, in one pass; or the helix path of each port, one
-- after another.
pub data Attempt : Type 0 where
  pass_over : (ports : List ℕ) → Attempt
  helix_paths : (ports : List ℕ) → Attempt

-- what an attempt from s to t comes to
unfoldable pub attempted : Network → (ℕ → ℕ → Bool) → ℕ → ℕ → Attempt → PassResult
attempted N free s t (pass_over ports) = pass N free s ports t
attempted N free s t (helix_paths ports) = try_paths N free s 0 (map (helix_path N s t) ports)

-- what a send answers: its outcome and the scouts of all its attempts. Scouts 5: a receive rejection has the scouts up to the end of the path found.
pub record SendResult : Type 0 where
  pub outcome : Outcome
  pub scouts : ℕ

abbrev pub one_result : Receive → PassResult → SendResult
one_result r x = record { outcome = outcome r x; scouts = scouts x }

-- The outcomes after which the next attempt is made: only after one that found no free path (Searches 1). A receive rejection ends the send
-- (Searches 11).
unfoldable pub send_goes_on : Outcome → Bool
send_goes_on (acknowledged w c) = false
send_goes_on route_rejected = true
send_goes_on receive_rejected = false

-- Attempts made in turn, from what each comes to. Searches 14: the outcome is the last one's. Scouts 6: scouts are added. Where nothing is tried,
-- nothing is found.
unfoldable pub runs : Receive → List PassResult → SendResult
runs r [] = record { outcome = route_rejected; scouts = 0 }
runs r (x ∷ []) = one_result r x
runs r (x ∷ y ∷ ys) =
    cond (send_goes_on (outcome r x)) (record { outcome = (runs r (y ∷ ys)).outcome; scouts = scouts x + (runs r (y ∷ ys)).scouts }) (one_result r x)
