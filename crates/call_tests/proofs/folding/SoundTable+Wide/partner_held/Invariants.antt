-- `SoundTable<Wide>::partner_held` meets its contract: of no dimension before p, that the mask would unfold, a partner link is held.
use mathlib.Core.Path.{◌≡◌}
use mathlib.Core.Bool.{false, ◌&&◌}
use Prim.Native.Nat.{ℕ, ◌<◌, ◌-◌}
use Rattle.common.specs.Lists.{any, from}
use Rattle.cube.specs.Cube.{cube_nodes}
use Rattle.layout.specs.Layout.{dimension_at}
use Rattle.table.specs.View.{view, held_in}
use Rattle.ownership.specs.Calls.{unfolds}
use Rattle.ownership.specs.OnTable.{facts_of}
use Rattle.call_tests.proofs.folding.SoundTable+Wide.partner_held.Given as goal

abbrev pub invariant-loop-p : goal.invariant-loop-p
invariant-loop-p l =
    (k : ℕ) → k < l.p → (unfolds (facts_of (view l.self.bytes.now)) l.mask k && any (λ n. held_in (view l.self.bytes.now) n (17 - k)) (from 0 (cube_nodes (dimension_at l.self.bytes.now)))) ≡ false
