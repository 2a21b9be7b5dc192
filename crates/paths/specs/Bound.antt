-- How many beginnings there are where a node offers m ports for each hop that the target is far, as in a cube with m links to an axis.
-- Assumes nothing.
use Rattle.std.specs.Prelude.{ℕ, zero, suc, ◌+◌, ◌-◌, ◌*◌}

-- the beginnings of ways on from a node d hops away: m times d ports, and behind each the ways on from one nearer
unfoldable pub ways_from : ℕ → ℕ → ℕ
ways_from m zero = zero
ways_from m (suc d) = m * suc d * suc (ways_from m d)

-- the beginnings over all m times D ports of a source d hops away: m times d of them lead one nearer, the others one farther
unfoldable pub packets_from : ℕ → ℕ → ℕ → ℕ
packets_from m D d = ways_from m d + m * (D - d) * suc (ways_from m (suc d))

-- Scouts 8: with one link to an axis, a source 7 hops away in a cube of dimension 8 has so many beginnings, and none has more: no send has
-- more scouts, both passes together
unfoldable pub most_beginnings : ℕ
most_beginnings = 123300

-- Scouts 9: with two links to an axis, a source 7 hops away in a cube of dimension 8 has so many, and none has more, whatever the mask. They fit
-- 32 bits (Scouts 11).
unfoldable pub most_folded : ℕ
most_folded = 35099560
