-- A send under an earlier rule: it went on after a receive rejection too, where Searches 11 ends it. Only the theorems about what differs
-- (OldRule), and an example, speak of it.
-- Assumes nothing.
use Rattle.std.specs.Prelude.{◌≡◌, ◌⊎◌, ◌≢◌, Bool, true, false, cond, List, [], ◌∷◌, map, ℕ, ◌+◌}
use Rattle.paths.specs.Network.{Path}
use Rattle.paths.specs.Pass.{PassResult, none, found, pass, scouts}
use Rattle.paths.specs.Send.{Receive, none_available, Outcome, acknowledged, route_rejected, receive_rejected, Acknowledged, outcome, attempted, SendResult, one_result, runs}
use Rattle.paths.specs.CubeNetwork.{Shape, network, other_ports, attempts, send}

-- every attempt but an acknowledged one was followed by the next
unfoldable pub old_goes_on : Outcome → Bool
old_goes_on (acknowledged w c) = false
old_goes_on route_rejected = true
old_goes_on receive_rejected = true

-- attempts made in turn, and the send of a routing type, by that rule
unfoldable pub old_runs : Receive → List PassResult → SendResult
old_runs r [] = record { outcome = route_rejected; scouts = 0 }
old_runs r (x ∷ []) = one_result r x
old_runs r (x ∷ y ∷ ys) =
    cond (old_goes_on (outcome r x)) (record { outcome = (old_runs r (y ∷ ys)).outcome; scouts = scouts x + (old_runs r (y ∷ ys)).scouts }) (one_result r x)

unfoldable pub old_send : ℕ → Shape → (ℕ → ℕ → Bool) → Receive → ℕ → ℕ → ℕ → SendResult
old_send type S free r s vector t = old_runs r (map (attempted (network S) free s t) (attempts S type vector))

-- Where Searches 11 ends the send, of any attempts: one before the last finds a path, and the target has no channel. n are the scouts up to it.
pub data EndsEarly : Receive → List PassResult → ℕ → Type 0 where
  here : {w : Path} {n : ℕ} {y : PassResult} {ys : List PassResult} → EndsEarly none_available (found w n ∷ y ∷ ys) n
  later : {r : Receive} {c n : ℕ} {xs : List PassResult} → EndsEarly r xs n → EndsEarly r (none c ∷ xs) (c + n)

-- What differs, of any attempts: nothing, unless the send now ends early; then it is receive rejected, with the scouts up to there. No
-- acknowledgement appears or disappears, since the later attempts meet the same target without a channel.
pub record Changes (r : Receive) (xs : List PassResult) : Type 0 where
  pub same : ((n : ℕ) → EndsEarly r xs n → ⊥) → runs r xs ≡ old_runs r xs
  pub ends : (n : ℕ) → EndsEarly r xs n → runs r xs ≡ record { outcome = receive_rejected; scouts = n }
  pub stays : Acknowledged (runs r xs).outcome ⊎ Acknowledged (old_runs r xs).outcome → runs r xs ≡ old_runs r xs

module _ (S : Shape) (free : ℕ → ℕ → Bool) (r : Receive) (s vector t : ℕ) where
  abbrev second : PassResult
  second = pass (network S) free s (other_ports S vector) t

  -- Of a type 4 send whose first pass, with n scouts, finds a path to a target without a channel: what it answers, and what it answered, a rejection with
  -- the scouts of both passes, and never the same.
  pub record AlternateChanges (n : ℕ) : Type 0 where
    pub answers : send 4 S free r s vector t ≡ record { outcome = receive_rejected; scouts = n }
    pub answered : old_send 4 S free r s vector t ≡ record { outcome = outcome r second; scouts = n + scouts second }
    pub rejected : Acknowledged (outcome r second) → ⊥
    pub differs : send 4 S free r s vector t ≢ old_send 4 S free r s vector t
