-- An open over all ports on a table whose free links are those that do not lead to its target: it is rejected, with a scout for each beginning that has not arrived.
-- Assumes nothing.
use mathlib.Core.Path.{◌≡◌, refl, ap, sym, ◌∙◌, subst}
use mathlib.Core.Logic.{◌⊎◌, inl, inr}
use mathlib.Core.Bool.{Bool, true, false, not}
use Prim.Native.Nat.{ℕ, ◌≤◌}
use lib.Dec.{eqb}
use Rattle.cube.specs.Bits.{has}
use Rattle.cube.specs.Axes.{axis}
use Rattle.cube.specs.Cube.{largest_dimension, next}
use Rattle.common.proofs.Lists.{keep_all}
use Rattle.paths.specs.Pass.{none, pass, scouts}
use Rattle.paths.specs.Send.{outcome, route_rejected, SendResult, one_result}
use Rattle.paths.specs.CubeNetwork.{Shape, Node, LinkOf, ports, network, send_ports}
use Rattle.paths.proofs.CubeNetwork.{port_there, port_axis}
use Rattle.paths.proofs.Send.{maze_answers}
use Rattle.table.specs.View.{view, receive, shape_of}
use Rattle.answers.specs.SendOnTable.{free_in, waiting_helps, send_in}
use Rattle.ownership.specs.Calls.{opening, CallResult, scouts_of, answered, result_of}
use Rattle.ownership.specs.OnTable.{facts_of}
use Rattle.ownership.specs.Allowed.{Allowed}
use Rattle.ownership.proofs.Allowed.{allowed}
use Rattle.ownership.proofs.Stops.{none_stops}
use Rattle.ownership.proofs.Steps.{table_step_lem}
use Rattle.most_scouts.specs.Unarrived.{most_sent}
use Rattle.most_scouts.specs.Promises.{AllPorts, WalledCounted}
use Rattle.most_scouts.proofs.Blocked.{pass_reaches}
use Rattle.most_scouts.proofs.OnTable.{fits}

-- what a rejected open gives
abbrev Rejected : ℕ → CallResult → Type 0
Rejected n g = ((g.number ≡ 10) ⊎ (g.number ≡ 22)) × (scouts_of g ≡ n)

answered_rejected : (helps : Bool) (x : SendResult) (n : ℕ) → x ≡ record { outcome = route_rejected; scouts = n } → Rejected n (answered helps x.outcome x.scouts)
unfolding answered
answered_rejected true x n e = rw e (inl refl, refl)
answered_rejected false x n e = rw e (inr refl, refl)

all_sent : (S : Shape) (v : ℕ) → AllPorts S v → send_ports S v ≡ ports S
unfolding send_ports
all_sent S v full = keep_all (λ q. has v (axis q)) (ports S) (λ q m. full (axis q) (port_axis S q m))

walled_pass : (S : Shape) → S.dimension ≤ largest_dimension → (free : ℕ → ℕ → Bool) (s t v : ℕ) → Node S s → Node S t
    → ((n p : ℕ) → LinkOf S n p → free n p ≡ not (eqb (next n p) t)) → AllPorts S v → pass (network S) free s (send_ports S v) t ≡ none (most_sent S s t)
walled_pass S h free s t v source target walled full = rw (all_sent S v full) (pass_reaches S free t (λ n p i m. walled n p (i, port_there S p m)) h s source target)

pub walled_counted : WalledCounted
unfolding Allowed result_of facts_of outcome scouts
walled_counted q b s c t v e walled full =
    let r = allowed (facts_of (view b)) (opening s c t 0 v) (none_stops q b (opening s c t 0 v) e) in
    let sent : send_in (view b) s t 0 v ≡ record { outcome = route_rejected; scouts = most_sent (shape_of (view b)) s t } =
    maze_answers (shape_of (view b)) (free_in (view b)) (receive (view b) t) s v t
    ∙ ap (one_result (receive (view b) t)) (walled_pass (shape_of (view b)) (fits q b s c t 0 v e) (free_in (view b)) s t v r.0 r.1 walled full) in
    let given : Rejected (most_sent (shape_of (view b)) s t) (result_of (facts_of (view b)) (opening s c t 0 v)) = answered_rejected (waiting_helps (view b) s t 0 v) (send_in (view b) s t 0 v) _ sent in
    subst (Rejected (most_sent (shape_of (view b)) s t)) (sym ((table_step_lem q b (opening s c t 0 v)).result e)) given
