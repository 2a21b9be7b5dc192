-- `converting::parts::copy_links` meets its contract: the rows of the nodes before n are written.
use Rattle.converting.specs.ConvertContracts.{LinksCopied}
use Rattle.converting.proofs.parts.copy_links.Given as goal

abbrev pub invariant-loop-n : goal.invariant-loop-n
invariant-loop-n g l = LinksCopied g.F.Layout.PORTS g.F.Layout.LINKS g.L.Layout.PORTS g.L.Layout.LINKS l.from l.n l.initial.to l.to
