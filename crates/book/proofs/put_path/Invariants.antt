-- `book::put_path` meets its contract: what is left to copy behind what was copied is the path.
use mathlib.Core.Path.{◌≡◌}
use lib.ListN.{length, drop}
use lib.Seq.{sets}
use Rattle.book.proofs.put_path.Given as goal

abbrev pub invariant-loop-i : goal.invariant-loop-i
invariant-loop-i l = (length l.buffer ≡ length l.initial.buffer) × (sets l.buffer l.i (drop l.i l.path) ≡ sets l.initial.buffer 0 l.path)
