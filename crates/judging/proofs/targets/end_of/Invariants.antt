-- `judging::targets::end_of` meets its contract: what is left of the path leads where all of it does.
use Rattle.judging.proofs.Following.{EndLeft}
use Rattle.judging.proofs.targets.end_of.Given as goal

abbrev pub invariant-loop-port : goal.invariant-loop-port
invariant-loop-port g l = EndLeft l.path l.initial.at.0 l.at.0 l.port-index
