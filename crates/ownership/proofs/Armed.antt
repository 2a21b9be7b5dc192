-- Which receive channels the history says are armed once one is armed or disarmed, or a circuit is closed.
-- Assumes nothing.
use mathlib.Core.Path.{◌≡◌, refl, ap, ◌∙◌}
use mathlib.Core.Bool.{Bool, true, false, cond, not, ◌&&◌, ◌||◌}
use mathlib.Core.List.{◌∷◌}
use Prim.Native.Nat.{ℕ, ◌<◌}
use lib.Dec.{eqb}
use Rattle.common.specs.Lists.{any}
use Rattle.cube.specs.Cube.{channels, circuit_of}
use Rattle.paths.specs.Network.{has_link}
use Rattle.table.specs.View.{set_at}
use Rattle.ownership.specs.Calls.{closing}
use Rattle.ownership.specs.History.{History, net_on, holds_receive, belongs, armed_on, with_armed, without_entry, applied}
use Rattle.ownership.specs.Invariant.{Valid}
use Rattle.ownership.specs.HistoryView.{view_of}
use Rattle.ownership.proofs.Circuits.{number_belongs}
use Rattle.ownership.proofs.CircuitValid.{receives_once}
use Rattle.ownership.proofs.Enabled.{kept_link, dropped}

off_where : (b x : Bool) → not b && x ≡ cond b false x
off_where true x = refl
off_where false x = refl

pub arm_armed : (h : History) (n k m q : ℕ) → armed_on (with_armed h ((n, k) ∷ h.armed)) m q ≡ set_at (armed_on h) n k true m q
unfolding armed_on set_at has_link
arm_armed h n k m q = go (eqb m n && eqb q k)
  where
    go : (b : Bool) → b || has_link h.armed m q ≡ cond b true (has_link h.armed m q)
    go true = refl
    go false = refl

pub disarm_armed : (h : History) (n k m q : ℕ) → armed_on (with_armed h (without_entry n k h.armed)) m q ≡ set_at (armed_on h) n k false m q
unfolding armed_on set_at
disarm_armed h n k m q = dropped n k h.armed m q ∙ off_where (eqb m n && eqb q k) (has_link h.armed m q)

-- Calls 15: a close disarms the channel whose entry is the circuit's number, and no other
pub close_armed : (h : History) → Valid h → (s c : ℕ) → c < channels → (n k : ℕ)
    → armed_on (applied h (closing s c)) n k ≡ cond (eqb ((view_of h).receiver n k) (circuit_of s c)) false (armed_on h n k)
unfolding armed_on applied view_of
close_armed h valid s c small n k =
    kept_link (λ m q. not (any (λ x. belongs s c x && holds_receive m q x) h.circuits)) h.armed n k
    ∙ ap (λ b. not b && has_link h.armed n k)
    (number_belongs (holds_receive n k) s c small h.circuits (λ x m. (valid.every_circuit x m).channel)
    (receives_once (net_on h) n k h.circuits valid.apart))
    ∙ off_where (eqb ((view_of h).receiver n k) (circuit_of s c)) (has_link h.armed n k)
