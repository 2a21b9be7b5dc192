-- The calls in which somebody is served, as the proofs speak of them. Nobody has to believe it.
-- Assumes nothing.
use Rattle.std.specs.Prelude.{ℕ, ◌^◌, ◌<◌}

-- a call that is accepted and in which somebody asks
pub record Requested (last requests : ℕ) : Type 0 where
  pub stored : last < 26
  pub inside : requests < 2 ^ 26
  pub some : 0 < requests
