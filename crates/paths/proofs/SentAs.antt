-- A number is sent by the attempts of its type.
-- Assumes nothing.
use mathlib.Core.Path.{◌≡◌, refl}
use Prim.Native.Nat.{ℕ}
use Rattle.cube.specs.RoutingTypes.{routing_number, SentAs}
use Rattle.cube.specs.declared.routing_type.RoutingType.{RoutingType}
use Rattle.paths.specs.CubeNetwork.{Shape, attempts}

pub attempts_sent : (S : Shape) (n vector : ℕ) (type : RoutingType) → SentAs n type → attempts S (routing_number type) vector ≡ attempts S n vector
unfolding attempts
attempts_sent S n vector type as_type = rw (as_type.fixed, as_type.helix, as_type.alternate) refl
