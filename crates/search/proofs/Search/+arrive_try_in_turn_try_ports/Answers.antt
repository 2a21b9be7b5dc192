-- The search meets its contracts: each hop is held, handed on, and given back where it is rejected.
use Rattle.answers.proofs.PassOnBytes.{told_free, told_busy}
use Rattle.search.proofs.Arrivals.{arrive_byte, arrive_here, arrive_tries, arrive_may, arrive_falls}
use Rattle.search.proofs.PortsTried.{here_tried, here_small, now_within, now_enabled, here_room, here_arrives, here_falls, tried_not_free, tried_acknowledged, tried_rejected, tried_next}
use Rattle.table.specs.View.{view}
use Rattle.search.specs.SearchContracts.{search_answer}
use mathlib.Core.Path.{ap, ap₂, sym, ◌∙◌}
use borrow.Author.Tests.{eqb-true, eqb-false}
use native.Mathlib.Omega.{arith}
use Rattle.search.proofs.Search.+arrive_try_in_turn_try_ports.Goals as goal

pub arrive-try_ports-requires : goal.arrive-try_ports-requires
arrive-try_ports-requires g t c = λ κs l. (
  omega (arith, arrive_falls c.requires.may_arrive (eqb-false _ _ (sym c.if-eq.ensures)) c.uphill_vector.ensures c.from-uphill.ensures c.with_partners.ensures c.enabled_ports-vector.ensures.0),
  (l.0, (l.1.0, (l.1.1, (arrive_may c.requires.may_arrive (eqb-false _ _ (sym c.if-eq.ensures)) c.uphill_vector.ensures c.from-uphill.ensures c.with_partners.ensures c.enabled_ports-vector.ensures.0, c.enabled_ports-vector.ensures.1)))),
)

pub arrive-with_partners-requires : goal.arrive-with_partners-requires
arrive-with_partners-requires g t c = arrive_byte c.requires.may_arrive c.uphill_vector.ensures c.from-uphill.ensures

pub arrive-returns-then-eq : goal.arrive-returns-then-eq
arrive-returns-then-eq g t c = arrive_here c.requires.may_arrive c.args.self.now.receive (eqb-true _ _ (sym c.if-eq.ensures))

pub arrive-returns : goal.arrive-returns
arrive-returns g t c =
    c.try_ports.ensures ∙ arrive_tries c.requires.may_arrive (eqb-false _ _ (sym c.if-eq.ensures)) c.uphill_vector.ensures c.from-uphill.ensures c.with_partners.ensures c.enabled_ports-vector.ensures.0 _

pub try_in_turn-wide_without-left-requires : goal.try_in_turn-wide_without-left-requires
try_in_turn-wide_without-left-requires g t c =
    let r = here_tried g.met.L.Layout.laws c.requires.may_try c.loop-left.invariant c.first_port-p.ensures in
    (omega (arith, r.small), r.offered)

pub try_in_turn-link_state_given-requires : goal.try_in_turn-link_state_given-requires
try_in_turn-link_state_given-requires g t c =
    record { within = now_within g.met.L.Layout.laws c.requires.may_try c.loop-left.invariant c.first_port-p.ensures; enabled_value = sym (now_enabled g.met.L.Layout.laws c.requires.may_try c.loop-left.invariant c.first_port-p.ensures c.requires.enabled) }

pub try_in_turn-overflow_add-scouts : goal.try_in_turn-overflow_add-scouts
try_in_turn-overflow_add-scouts g t c =
    omega (arith, here_room g.met.L.Layout.laws c.requires.may_try c.loop-left.invariant c.first_port-p.ensures)

pub try_in_turn-neighbour-requires : goal.try_in_turn-neighbour-requires
try_in_turn-neighbour-requires g t c =
    here_small g.met.L.Layout.laws c.requires.may_try c.loop-left.invariant c.first_port-p.ensures

pub try_in_turn-arrive-found-requires : goal.try_in_turn-arrive-found-requires
try_in_turn-arrive-found-requires g t c = λ κs l. (
  omega (arith, here_falls g.met.L.Layout.laws c.requires.may_try c.loop-left.invariant c.first_port-p.ensures c.set_owner.ensures c.neighbour.ensures),
  (l.0, (l.1.0, (l.1.1, here_arrives g.met.L.Layout.laws c.requires.may_try c.loop-left.invariant c.first_port-p.ensures c.set_owner.ensures c.neighbour.ensures))),
)

pub try_in_turn-set_owner-requires-in-None-default : goal.try_in_turn-set_owner-requires-in-None-default
try_in_turn-set_owner-requires-in-None-default g t c =
    let w = now_within g.met.L.Layout.laws c.requires.may_try c.loop-left.invariant c.first_port-p.ensures in
    record { bytes = c.arrive-found.auto.t ∙ c.set_owner.auto.t ∙ w.bytes; node = w.node; port = w.port }

pub try_in_turn-set_owner-requires-in-Some-None : goal.try_in_turn-set_owner-requires-in-Some-None
try_in_turn-set_owner-requires-in-Some-None g t c =
    let w = now_within g.met.L.Layout.laws c.requires.may_try c.loop-left.invariant c.first_port-p.ensures in
    record { bytes = c.arrive-found.auto.t ∙ c.set_owner.auto.t ∙ w.bytes; node = w.node; port = w.port }

pub try_in_turn-returns-in-Some-None : goal.try_in_turn-returns-in-Some-None
try_in_turn-returns-in-Some-None g t c =
    ap₂ (λ h k. search_answer h k c.arrive-found.new.scouts c.set_owner-in-Some-None.new.t) c.in-Some-None.is-0 c.in-Some-None.is-1
    ∙ tried_rejected g.met.L.Layout.laws c.requires.may_try c.loop-left.invariant c.first_port-p.ensures (told_free (view c.loop-left.t) c.args.at.0 c.first_port-p.result.0 c.link_state_given.ensures c.in-Free.is) c.set_owner.ensures c.neighbour.ensures c.arrive-found.ensures
    (ap₂ (λ h k. search_answer h k c.arrive-found.new.scouts c.arrive-found.new.t) c.in-Some-None.is-0 c.in-Some-None.is-1) c.set_owner-in-Some-None.ensures

pub try_in_turn-returns-in-Some-Some : goal.try_in_turn-returns-in-Some-Some
try_in_turn-returns-in-Some-Some g t c =
    tried_acknowledged g.met.L.Layout.laws c.requires.may_try c.loop-left.invariant c.first_port-p.ensures (told_free (view c.loop-left.t) c.args.at.0 c.first_port-p.result.0 c.link_state_given.ensures c.in-Free.is) c.set_owner.ensures c.neighbour.ensures c.arrive-found.ensures
    (ap₂ (λ h k. search_answer h k c.arrive-found.new.scouts c.arrive-found.new.t) c.in-Some-Some.is-0 c.in-Some-Some.is-1)

pub try_in_turn-loop-left-preserved-in_default : goal.try_in_turn-loop-left-preserved-in_default
try_in_turn-loop-left-preserved-in_default g t c =
    tried_not_free g.met.L.Layout.laws c.requires.may_try c.loop-left.invariant c.first_port-p.ensures (told_busy (view c.loop-left.t) c.args.at.0 c.first_port-p.result.0 _ c.link_state_given.ensures c.in_default.not-Free) c.wide_without-left.ensures

pub try_in_turn-loop-left-preserved : goal.try_in_turn-loop-left-preserved
try_in_turn-loop-left-preserved g t c =
    tried_next g.met.L.Layout.laws c.requires.may_try c.loop-left.invariant c.first_port-p.ensures (told_free (view c.loop-left.t) c.args.at.0 c.first_port-p.result.0 c.link_state_given.ensures c.in-Free.is) c.set_owner.ensures c.neighbour.ensures c.arrive-found.ensures (ap (λ h. search_answer h c.args.self.now.receive c.arrive-found.new.scouts c.arrive-found.new.t) c.in-None-default.is-0) c.wide_without-left.ensures c.set_owner-in-None-default.ensures
