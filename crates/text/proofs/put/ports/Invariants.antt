-- `text::put::ports` meets its contract: what is left to write behind what was written are the ports.
use Rattle.text.specs.Row.{path_characters}
use Rattle.text.proofs.Writing.{Left}
use Rattle.text.proofs.put.ports.Given as goal
use lib.ListN.{drop}

abbrev pub invariant-loop-port : goal.invariant-loop-port
invariant-loop-port l = Left l.initial.out l.at (path_characters l.path) l.out l.end (path_characters (drop l.port-index l.path))
