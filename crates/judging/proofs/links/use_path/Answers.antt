-- `judging::links::use_path` meets its contract: what uses the links left, from where the loop stands, uses all of the path.
use mathlib.Core.Path.{refl, sym, ◌∙◌}
use mathlib.Core.Bool.{true, false}
use native.Mathlib.Nat.{lt_of_lt_of_le}
use borrow.Author.Tests.{not-true, not-false}
use Rattle.cube.proofs.Ports.{below_256}
use Rattle.table.specs.View.{view, shape_of}
use Rattle.answers.proofs.PassOnBytes.{told_free, told_busy}
use Rattle.judging.proofs.LeadsTo.{hop_inside}
use Rattle.judging.proofs.UsingLinks.{uses_none, uses_next, uses_not_free, uses_not_new, links_next, links_end}
use Rattle.judging.proofs.links.use_path.Goals as goal

pub loop-port-preserved : goal.loop-port-preserved
unfolding view
loop-port-preserved g c =
    let table = c.args.table.now in
    let there = rw (← c.from.ensures) at (c.requires.ports c.loop-port.port-index c.loop-port-test.true) in
    let small = lt_of_lt_of_le (c.board_of-board.ensures.room _ there) c.board_of-board.ensures.here.most in
    let is_free = told_free (view table.bytes.now) c.loop-port.at.0 c.from.result c.link_state.ensures c.in-Free.is in
    record {
      inside = rw c.neighbour-at.ensures (hop_inside (shape_of (view table.bytes.now)) _ _ c.loop-port.invariant.inside there);
      goes_on = λ new r h. c.loop-port.invariant.goes_on new r
          (rw (links_next _ _ _ _ c.loop-port-test.true c.from.ensures c.neighbour-at.ensures)
          (uses_next (below_256 table.fits c.loop-port.invariant.inside) small is_free (not-true _ (sym c.if-not-use_link.ensures.is_new)) (c.use_link.ensures.used c.if-not-use_link.false) h));
    }

pub returns-in_default : goal.returns-in_default
returns-in_default g c =
    let table = c.args.table.now in
    let there = rw (← c.from.ensures) at (c.requires.ports c.loop-port.port-index c.loop-port-test.true) in
    let small = lt_of_lt_of_le (c.board_of-board.ensures.room _ there) c.board_of-board.ensures.here.most in
    let node = below_256 table.fits c.loop-port.invariant.inside in
    let busy = told_busy (view table.bytes.now) c.loop-port.at.0 c.from.result _ c.link_state.ensures c.in_default.not-Free in
    c.loop-port.invariant.goes_on _ false
    (rw (links_next _ _ _ _ c.loop-port-test.true c.from.ensures refl) (uses_not_free node small busy))

pub returns-then-not-use_link : goal.returns-then-not-use_link
returns-then-not-use_link g c =
    let table = c.args.table.now in
    let there = rw (← c.from.ensures) at (c.requires.ports c.loop-port.port-index c.loop-port-test.true) in
    let small = lt_of_lt_of_le (c.board_of-board.ensures.room _ there) c.board_of-board.ensures.here.most in
    let node = below_256 table.fits c.loop-port.invariant.inside in
    let is_free = told_free (view table.bytes.now) c.loop-port.at.0 c.from.result c.link_state.ensures c.in-Free.is in
    c.loop-port.invariant.goes_on _ false
    (rw (links_next _ _ _ _ c.loop-port-test.true c.from.ensures refl)
    (uses_not_new node small is_free (not-false _ (sym c.use_link.ensures.is_new ∙ c.if-not-use_link.true))))

pub returns : goal.returns
returns g c = c.loop-port.invariant.goes_on _ true (rw (links_end _ _ _ _ c.loop-port-test.false) uses_none)
