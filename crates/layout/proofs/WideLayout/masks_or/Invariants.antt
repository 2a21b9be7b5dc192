-- `layout::WideLayout::masks_or` meets its contract: the masks before node n are joined.
use Rattle.layout.specs.LayoutContracts.{MasksOr}
use Rattle.layout.proofs.WideLayout.masks_or.Given as goal

abbrev pub invariant-loop-n : goal.invariant-loop-n
invariant-loop-n l = MasksOr 18 2 l.t l.from l.n l.all
