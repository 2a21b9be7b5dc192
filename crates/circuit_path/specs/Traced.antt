-- What a trace writes.
-- Assumes nothing.
use Rattle.std.specs.Prelude.{List, ◌++◌, ℕ, length, drop}
use Rattle.paths.specs.Network.{Path}

-- Calls 16: the ports of a circuit at the front of a buffer, a byte a hop, the first hop first; later bytes stay as they were.
unfoldable pub traced_into : Path → List ℕ → List ℕ
traced_into w buffer = w ++ drop (length w) buffer
