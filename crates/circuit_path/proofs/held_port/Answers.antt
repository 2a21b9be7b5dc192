-- `circuit_path::held_port` meets its contract: the lowest from p on is the lowest of all.
use mathlib.Core.Path.{◌≡◌, ap, ◌∙◌, sym}
use mathlib.Core.Bool.{true}
use Prim.Native.Nat.{◌<◌}
use native.Mathlib.Omega.{arith}
use native.Mathlib.Nat.{lt_of_lt_of_le}
use lib.Pow.{pow_mono}
use Rattle.table.specs.View.{view}
use Rattle.circuit_path.specs.Follow.{holds_port}
use Rattle.cube.specs.Bits.{has}
use Rattle.cube.proofs.Order.{low_port}
use Rattle.common.proofs.Lowest.{lowest_here, lowest_on, lowest_end, lowest_skip, lowest_passes, some_is, none_is}
use Rattle.circuit_path.proofs.Hops.{none_held, before_first}
use Rattle.circuit_path.proofs.held_port.Goals as goal

pub lowest_port-requires : goal.lowest_port-requires
lowest_port-requires g c = lt_of_lt_of_le c.requires.small (pow_mono c.requires.board_here.most)

pub returns-in_err-first : goal.returns-in_err-first
returns-in_err-first g c =
    let none = none_held g.B.Board.width (view c.args.t.now) c.args.c.0 c.args.n.0 c.args.vector c.requires.board_here.most (none_is c.in_err-first.ensures) in
    rw c.from_residual.ensures none

pub loop-p-init : goal.loop-p-init
loop-p-init g c =
    let some = some_is c.in_ok-first.ensures in
    let on : has c.args.vector c.in_ok-first.first ≡ true = ap (has c.args.vector) some.0 ∙ lowest_passes (has c.args.vector) 18 0 (omega (arith, some.1, some.0)) in
    let small = low_port g.B.Board.width c.args.vector c.in_ok-first.first c.requires.small on in
    lowest_skip (holds_port (view c.args.t.now) c.args.c.0 c.args.n.0 c.args.vector) g.B.Board.width c.in_ok-first.first (omega (arith, small))
    (λ j l. before_first g.B.Board.width (view c.args.t.now) c.args.c.0 c.args.n.0 c.args.vector j (omega (arith, l, some.0)))

pub returns-then-holds_port : goal.returns-then-holds_port
returns-then-holds_port g c =
    let h : c.loop-p.p < g.B.Board.width = omega (arith, c.loop-p-test.true, c.SEND_ARRIVAL-p-end.ensures, g.met.B.Board.laws.last) in
    (sym (lowest_here _ g.B.Board.width c.loop-p.p h (sym c.holds_port.ensures ∙ c.if-holds_port.true)) ∙ c.loop-p.invariant, h)

pub loop-p-preserved : goal.loop-p-preserved
loop-p-preserved g c =
    let h : c.loop-p.p < g.B.Board.width = omega (arith, c.loop-p-test.true, c.SEND_ARRIVAL-p-end.ensures, g.met.B.Board.laws.last) in
    sym (lowest_on _ g.B.Board.width c.loop-p.p h (sym c.holds_port.ensures ∙ c.if-holds_port.false)) ∙ c.loop-p.invariant

pub returns : goal.returns
returns g c =
    let some = some_is c.in_ok-first.ensures in
    let on : has c.args.vector c.in_ok-first.first ≡ true = ap (has c.args.vector) some.0 ∙ lowest_passes (has c.args.vector) 18 0 (omega (arith, some.1, some.0)) in
    let small = low_port g.B.Board.width c.args.vector c.in_ok-first.first c.requires.small on in
    let z : c.loop-p.p ≡ g.B.Board.width = omega (arith, c.loop-p-test.false, c.loop-p.auto, small, c.SEND_ARRIVAL-p-end.ensures, g.met.B.Board.laws.last) in
    let e = sym (lowest_end _ g.B.Board.width c.loop-p.p z) ∙ c.loop-p.invariant in
    omega (arith, e, z)
