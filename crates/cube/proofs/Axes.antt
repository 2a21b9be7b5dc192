-- Axes: a port in the lower half is its own, and stays in the cube; of those ports those below D are there, and no axis of a port is D or above.
-- Assumes nothing.
use mathlib.Core.Path.{◌≡◌, refl}
use mathlib.Core.Bool.{true, and-true}
use Prim.Native.Nat.{ℕ, ◌≤◌, ◌<◌}
use native.Mathlib.Omega.{arith}
use lib.Dec.{ltb}
use borrow.Author.Tests.{lt-ltb, eq-eqb, ltb-true}
use Rattle.common.proofs.Tests.{both}
use Rattle.cube.specs.Axes.{positions, own_axes, axis, present}
use Rattle.cube.specs.Cube.{largest_dimension, NodeOf, next}
use Rattle.cube.proofs.Bits.{flip_inside}

pub axis_low : (q : ℕ) → q < own_axes → axis q ≡ q
unfolding axis
axis_low q h = rw (lt-ltb q 9 h)

pub next_inside : (D n p : ℕ) → D ≤ largest_dimension → NodeOf D n → p < D → NodeOf D (next n p)
next_inside D n p h i l = rw (axis_low p (omega arith)) (flip_inside D n p i l)

pub present_low : (D fold p : ℕ) → p < own_axes → present D fold p ≡ ltb p D
unfolding present
present_low D fold p h = rw (lt-ltb p 18 (omega arith), axis_low p h, eq-eqb p p refl) (and-true (ltb p D))

pub present_axis : (D fold q : ℕ) → present D fold q ≡ true → (q < positions) × (axis q < D)
unfolding present
present_axis D fold q e =
    let k = both (ltb q 18) _ e in (ltb-true q 18 k.0, ltb-true (axis q) D (both (ltb (axis q) D) _ k.1).0)
