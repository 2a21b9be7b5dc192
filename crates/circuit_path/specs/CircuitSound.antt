-- What a sound table says of a circuit number that occurs (soundness/Sound.Sound).
-- Assumes nothing.
use Rattle.std.specs.Prelude.{◌≡◌, ℕ, ◌<◌}
use Rattle.cube.specs.Cube.{channels, source_of}
use Rattle.paths.specs.Network.{Path, Exactly, end}
use Rattle.paths.specs.Permitted.{Permitted}
use Rattle.paths.specs.CubeNetwork.{ports}
use Rattle.table.specs.View.{View, shape_of, net, held_by}

-- where a path from the source of circuit c ends
abbrev pub end_for : View → ℕ → Path → ℕ
end_for v c w = end (net v) (source_of c) w

-- Soundness 7: circuit c has a permitted path whose links, and no others, it holds, and one receive channel, at the node where that path ends.
-- Soundness 8: the path is permitted for some send vector, so its first hop is any port of the cube, and its target is its end.
pub record CircuitSound (v : View) (c : ℕ) : Type 0 where
  pub path : Path
  pub permitted : Permitted (net v) (source_of c) (ports (shape_of v)) (end_for v c path) path
  pub exactly : Exactly (net v) (source_of c) path (held_by v c)
  pub receive : ℕ
  pub small : receive < channels
  pub receives : v.receiver (end_for v c path) receive ≡ c
  pub once : (n k : ℕ) → v.receiver n k ≡ c → (n ≡ end_for v c path) × (k ≡ receive)
