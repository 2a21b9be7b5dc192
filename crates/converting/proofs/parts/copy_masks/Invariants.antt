-- `converting::parts::copy_masks` meets its contract: the masks of the nodes before n are written.
use Rattle.converting.specs.ConvertContracts.{MasksCopied}
use Rattle.converting.proofs.parts.copy_masks.Given as goal

abbrev pub invariant-loop-n : goal.invariant-loop-n
invariant-loop-n g l = MasksCopied g.F.Layout.PORTS g.F.Layout.ENABLE g.L.Layout.PORTS g.L.Layout.ENABLE l.from l.n l.initial.to l.to
