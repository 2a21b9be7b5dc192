-- Which nodes come to a target over links that may be taken, whatever the order in which ports are tried: a node does where it is the target, or where one of
-- the ports that it offers may be taken and leads to a node that does. That a pass finds a path exactly where this says so (Searches 12) is proved (Reach).
-- Assumes nothing.
use Rattle.std.specs.Prelude.{Bool, ◌&&◌, ◌||◌, ℕ, zero, suc, eqb}
use Rattle.common.specs.Lists.{any}
use Rattle.paths.specs.Network.{Network, offered}

module _ (N : Network) (allowed : ℕ → ℕ → Bool) (t : ℕ) where
  -- in at most k hops
  unfoldable pub reaches_in : ℕ → ℕ → Bool
  reaches_in zero n = eqb n t
  reaches_in (suc k) n = eqb n t || any (λ p. allowed n p && reaches_in k (N.next n p)) (offered N t n)

  -- the target is as many hops away as it is far
  unfoldable pub reaches : ℕ → Bool
  reaches n = reaches_in (N.distance t n) n
