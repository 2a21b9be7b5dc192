-- What the loop read so far is what the reader lost; it is within the buffer.
use Rattle.std.proofs.Common.{length, take, ◌≤◌, ◌-◌}
use Rattle.std.specs.Io.KnownBytes.{Consumes}
use Rattle.maze_list.proofs.read_all.Given as goal

abbrev pub invariant-loop-at : goal.invariant-loop-at
invariant-loop-at g l =
    (l.at ≤ length l.input)
    × Consumes (g.R.Read.remaining l.initial.from) (g.R.Read.remaining l.from) (take l.at l.input)

-- each read that goes on brings at least one byte
abbrev pub decreases-loop-at : goal.decreases-loop-at
decreases-loop-at g l = length l.initial.input - l.at
