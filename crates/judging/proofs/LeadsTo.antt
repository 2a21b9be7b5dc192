-- Where ports lead from a node: it is the end of their path in the network, and a node of the cube.
-- Assumes nothing.
use mathlib.Core.Path.{◌≡◌, refl}
use mathlib.Core.Bool.{true}
use mathlib.Core.List.{[], ◌∷◌}
use Prim.Native.Nat.{ℕ, suc}
use native.Mathlib.Omega.{arith}
use Rattle.cube.specs.Axes.{axis, present}
use Rattle.cube.specs.Cube.{next}
use Rattle.cube.proofs.Axes.{present_axis}
use Rattle.cube.proofs.Bits.{flip_inside}
use Rattle.paths.specs.Network.{Path, end}
use Rattle.paths.specs.CubeNetwork.{Shape, Node, network}
use Rattle.judging.specs.JudgeContracts.{PortsOf, leads_to}

-- the end of a path in the network of a cube
pub end_leads : (S : Shape) (n : ℕ) (w : Path) → end (network S) n w ≡ leads_to n w
unfolding end network leads_to
end_leads S n [] = refl
end_leads S n (p ∷ w) = end_leads S (next n p) w

-- a hop over a port of a cube does not leave it
pub hop_inside : (S : Shape) (n p : ℕ) → Node S n → present S.dimension S.fold p ≡ true → Node S (next n p)
hop_inside S n p inside e = flip_inside S.dimension n (axis p) inside (present_axis S.dimension S.fold p e).1

-- nor do its ports
pub leads_inside : (S : Shape) (n : ℕ) (w : Path) → Node S n → PortsOf S w → Node S (leads_to n w)
unfolding leads_to
leads_inside S n [] inside there = inside
leads_inside S n (p ∷ w) inside there = leads_inside S (next n p) w (hop_inside S n p inside (there 0 (omega arith))) (λ i l. there (suc i) (omega arith))
