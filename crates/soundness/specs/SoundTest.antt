-- The test of a table that looks at each entry once, and for a held one follows its circuit.
-- That it decides soundness is proved (Soundness, Passing).
-- Assumes nothing.
use Rattle.std.specs.Prelude.{Bool, cond, ◌&&◌, ◌||◌, not, ℕ, ◌^◌, eqb, ltb, leb, length}
use Rattle.common.specs.Lists.{every, keep, from}
use Rattle.cube.specs.Cube.{channels, source_of}
use Rattle.paths.specs.Network.{links, has_link}
use Rattle.paths.specs.CubeNetwork.{is_node, is_link_of, circuit_count}
use Rattle.table.specs.View.{View, shape_of, net}
use Rattle.circuit_path.specs.PathOf.{path_of, is_empty}
use Rattle.circuit_path.specs.CircuitSound.{end_for}

-- how many receive channels of node n circuit c holds
unfoldable pub channels_held : View → ℕ → ℕ → ℕ
channels_held v c n = length (keep (λ k. eqb (v.receiver n k) c) (from 0 channels))

-- The number is in range, its path is not empty, and it holds one channel where that ends. This is weaker than `CircuitSound`: a link off the path, or a
-- channel elsewhere, fails at its own entry.
unfoldable pub circuit_test : View → ℕ → Bool
circuit_test v c = leb c (circuit_count (shape_of v)) && (not (is_empty (path_of v c)) && eqb (channels_held v c (end_for v c (path_of v c))) 1)

-- the path of circuit c passes the link out of port p of node n
unfoldable pub on_path_of : View → ℕ → ℕ → ℕ → Bool
on_path_of v c n p = has_link (links (net v) (source_of c) (path_of v c)) n p

unfoldable pub link_test : View → ℕ → ℕ → Bool
link_test v n p =
    cond (is_link_of (shape_of v) n p)
    (eqb (v.owner n p) 0 || (v.enabled n p && (circuit_test v (v.owner n p) && on_path_of v (v.owner n p) n p)))
    (not (v.enabled n p) && eqb (v.owner n p) 0)

unfoldable pub receive_test : View → ℕ → ℕ → Bool
receive_test v n k =
    cond (is_node (shape_of v) n)
    (eqb (v.receiver n k) 0 || (v.armed n k && (circuit_test v (v.receiver n k) && eqb n (end_for v (v.receiver n k) (path_of v (v.receiver n k))))))
    (not (v.armed n k) && eqb (v.receiver n k) 0)

-- the bits of an enable mask, and so the places that may show anything: 8, or 24 of which the last 6 are no port's (Wide 8)
abbrev pub mask_bits : ℕ
mask_bits = 24

-- the test of a whole table
unfoldable pub sound_test : View → Bool
sound_test v = ltb v.fold (2 ^ v.dimension) && every 256 (λ n. every mask_bits (link_test v n) && every channels (receive_test v n))
