-- `circuit_path::first_hop` meets its contract: a port whose way back is held too, or else the lowest that was found.
use mathlib.Core.Path.{◌≡◌, ◌∙◌, sym}
use Prim.Native.Nat.{◌<◌}
use native.Mathlib.Omega.{arith}
use Rattle.table.specs.View.{view}
use Rattle.common.proofs.Lowest.{lowest_here, lowest_on}
use Rattle.circuit_path.proofs.Hops.{found_here, found_past, no_back, first_back, first_found}
use Rattle.circuit_path.proofs.first_hop.Goals as goal
use Rattle.circuit_path.proofs.first_hop.Goals.{then-holds_port+else-comes_back, else-holds_port}

pub returns-then-comes_back : goal.returns-then-comes_back
returns-then-comes_back g c =
    let h : c.loop-p.p < g.B.Board.width = omega (arith, c.loop-p-test.true, c.SEND_ARRIVAL-p-end.ensures, g.met.B.Board.laws.last) in
    let here = sym (lowest_here _ g.B.Board.width c.loop-p.p h (sym c.comes_back.ensures ∙ c.if-comes_back.true)) in
    (first_back g.B.Board.width (view c.args.t.now) c.args.c.0 c.args.s.0 c.args.vector c.loop-p.p (here ∙ c.loop-p.invariant.back) h, h)

pub loop-p-preserved : goal.loop-p-preserved
loop-p-preserved g c =
    let h : c.loop-p.p < g.B.Board.width = omega (arith, c.loop-p-test.true, c.SEND_ARRIVAL-p-end.ensures, g.met.B.Board.laws.last) in
    elim c.if-holds_port.branch [
      | then-holds_port+else-comes_back w ↦
          rw (w.found-is, w.or-found.ensures)
          (record {
            back = sym (lowest_on _ g.B.Board.width c.loop-p.p h (sym w.comes_back.ensures ∙ w.if-comes_back.false)) ∙ c.loop-p.invariant.back;
            taken = found_here _ _ _ h (sym c.holds_port.ensures ∙ w.if-holds_port.true) c.loop-p.found c.loop-p.invariant.taken;
          })
      | else-holds_port w ↦
          let off = sym c.holds_port.ensures ∙ w.if-holds_port.false in
          rw w.found-is
          (record {
            back = sym (lowest_on _ g.B.Board.width c.loop-p.p h (no_back _ _ _ _ _ _ off)) ∙ c.loop-p.invariant.back;
            taken = found_past _ _ (record { 0 = c.loop-p.p }) h off c.loop-p.found c.loop-p.invariant.taken;
          })
    ]

pub returns : goal.returns
returns g c =
    let z : c.loop-p.p ≡ g.B.Board.width = omega (arith, c.loop-p-test.false, c.loop-p.auto, c.SEND_ARRIVAL-p-end.ensures, g.met.B.Board.laws.last) in
    first_found _ _ _ _ _ c.loop-p.p z c.loop-p.invariant.back c.loop-p.found c.loop-p.invariant.taken
