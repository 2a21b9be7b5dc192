-- `table::enables_fit` meets its contract: the bits of the masks of either run are those of the or of it.
use mathlib.Core.Path.{◌≡◌, subst}
use mathlib.Core.Bool.{true}
use Prim.Native.Nat.{ℕ}
use native.Mathlib.Omega.{arith}
use Rattle.common.specs.Decides.{Decides}
use Rattle.cube.specs.Axes.{present}
use Rattle.cube.specs.Bits.{has}
use Rattle.cube.specs.CubeContracts.{PortsInside}
use Rattle.cube.proofs.Ports.{count_of}
use Rattle.layout.specs.Layout.{dimension_at, fold_at}
use Rattle.table.proofs.Fits.{enables_fit, enables_large}
use Rattle.table.proofs.enables_fit.Goals as goal

pub returns-then-in_cube : goal.returns-then-in_cube
unfolding PortsInside
returns-then-in_cube g c =
    let b = c.args.t.now in
    let count = count_of c.requires.1 c.node_count-nodes.ensures.value in
    let inside : Decides ((p : ℕ) → has c.masks_or.result p ≡ true → present (dimension_at b) (fold_at b) p ≡ true) c.in_cube.result =
    subst (λ (f : ℕ). Decides ((p : ℕ) → has c.masks_or.result p ≡ true → present (dimension_at b) f p ≡ true) c.in_cube.result) c.board.ensures.2 (c.in_cube.ensures (dimension_at b) (omega (arith, c.requires.1, c.requires.2)) count) in
    enables_fit g.met.L.Layout.laws b c.requires.0 count c.node_count-nodes.ensures.most c.masks_or.ensures (inside.holds c.if-in_cube.true) c.masks_or-then-in_cube.ensures

pub returns-else-in_cube : goal.returns-else-in_cube
unfolding PortsInside
returns-else-in_cube g c =
    let b = c.args.t.now in
    let count = count_of c.requires.1 c.node_count-nodes.ensures.value in
    let inside : Decides ((p : ℕ) → has c.masks_or.result p ≡ true → present (dimension_at b) (fold_at b) p ≡ true) c.in_cube.result =
    subst (λ (f : ℕ). Decides ((p : ℕ) → has c.masks_or.result p ≡ true → present (dimension_at b) f p ≡ true) c.in_cube.result) c.board.ensures.2 (c.in_cube.ensures (dimension_at b) (omega (arith, c.requires.1, c.requires.2)) count) in
    rw c.if-in_cube.false (enables_large g.met.L.Layout.laws b c.requires.0 count c.node_count-nodes.ensures.most c.masks_or.ensures (inside.fails c.if-in_cube.false))
