-- What a test answers: whether something holds.
-- Assumes nothing.
use Rattle.std.specs.Prelude.{◌≡◌, Bool, true, false}

pub record Decides (P : Type 0) (answer : Bool) : Type 0 where
  pub holds : answer ≡ true → P
  pub fails : answer ≡ false → P → ⊥
