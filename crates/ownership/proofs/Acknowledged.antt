-- A send that is acknowledged found a free permitted path, and took the target's receive channel.
-- Assumes nothing.
use mathlib.Core.Path.{◌≡◌}
use mathlib.Core.Bool.{true, false, not}
use Prim.Native.Nat.{ℕ, ◌<◌}
use borrow.Author.Tests.{not-true}
use Rattle.cube.specs.Cube.{channels}
use Rattle.common.proofs.Tests.{both}
use Rattle.paths.specs.Send.{lowest_available}
use Rattle.table.proofs.Receives.{chosen}
use Rattle.ownership.specs.History.{History, taken_on, armed_on, receive_on}

-- In the history, the receive channel that a target takes is one of the eight, it is armed, and no circuit holds it.
pub receive_free : (h : History) (t k : ℕ) → receive_on h t ≡ lowest_available k → (k < channels) × (armed_on h t k ≡ true) × (taken_on h t k ≡ false)
unfolding receive_on
receive_free h t k e =
    let r = chosen _ k e in
    let x = both (armed_on h t k) (not (taken_on h t k)) r.1 in
    (r.0, x.0, not-true _ x.1)
