-- Which bit of a node a port changes, its axis, and which ports the nodes of a cube have. Where nothing is folded the fold mask is 0.
-- Assumes nothing.
use Rattle.std.specs.Prelude.{Bool, cond, ◌&&◌, ◌||◌, ℕ, ◌-◌, eqb, ltb}
use Rattle.cube.specs.Bits.{has}

-- Order 1: the order runs over 18 positions. Every cube is looked at over as many, whatever its table has room for.
abbrev pub positions : ℕ
positions = 18

-- the ports below this are their own axes
abbrev pub own_axes : ℕ
own_axes = 9

-- Cube 2: a port in the lower half is its own axis, and the axis of port q above is 17 - q.
unfoldable pub axis : ℕ → ℕ
axis q = cond (ltb q own_axes) q (17 - q)

-- Cube 5: the other port of that axis
unfoldable pub partner : ℕ → ℕ
partner q = 17 - q

-- Cube 4: the ports below D, and the partners of the folded ones. Cube 3: bit p of the fold mask folds dimension p. Folding 1.
unfoldable pub present : ℕ → ℕ → ℕ → Bool
present D fold q = ltb q positions && (ltb (axis q) D && (eqb q (axis q) || has fold (axis q)))
