-- `layout::row_vector` meets its contract: the entries before k are found.
use Rattle.layout.proofs.Rows.{Found}
use Rattle.layout.proofs.row_vector.Given as goal

abbrev pub invariant-loop-k : goal.invariant-loop-k
invariant-loop-k g l = Found l.row l.c.0 l.k l.vector
