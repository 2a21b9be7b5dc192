-- The zeros below the one bit of a vector are its port.
use mathlib.Core.Path.{ap, ◌∙◌}
use native.Mathlib.Omega.{arith}
use Rattle.cube.specs.Cube.{next}
use Rattle.cube.proofs.Ports.{one_port, trailing_below}
use Rattle.cube.proofs.board.WideBoardBoard.neighbour_over.Goals as goal

pub folded_neighbour-requires : goal.folded_neighbour-requires
folded_neighbour-requires c = trailing_below 18 32 (omega arith) c.requires.0 c.requires.1

pub returns : goal.returns
returns c p e = c.folded_neighbour.ensures ∙ ap (next c.args.node.0) (one_port 32 p c.requires.0 (omega (arith, c.requires.1)) e)
