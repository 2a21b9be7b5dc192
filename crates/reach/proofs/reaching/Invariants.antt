-- `reach::reaching` meets its contract: the nodes that differ from the target in a vector below x are swept.
use Rattle.reach.proofs.Sweep.{Swept}
use Rattle.reach.proofs.reaching.Given as goal

abbrev pub invariant-loop-x : goal.invariant-loop-x
invariant-loop-x g l = Swept l.t l.target.0 l.x l.marks
