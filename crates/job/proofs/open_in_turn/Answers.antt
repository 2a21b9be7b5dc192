-- `job::open_in_turn` meets its contract: the first send that is refused ends it.
use Rattle.std.proofs.Common.{arith}
use Rattle.job.proofs.SendsInTurn.{stopped_at_lem, still_passes, went_on}
use Rattle.job.proofs.open_in_turn.Goals as goal

pub returns-in-Err : goal.returns-in-Err
returns-in-Err g c =
    stopped_at_lem g.L.Layout.PORTS c.args.t.now c.loop-place.t c.args.sends.now c.loop-place.place c.loop-place.invariant.left c.loop-place-test.true c.in-Err.refusal c.in-Err.ensures

pub loop-place-preserved : goal.loop-place-preserved
loop-place-preserved g c =
    let known = c.loop-place.invariant in
    record {
      passes = still_passes g.met.L.Layout.laws.ports_are c.in_default.ensures known.small known.passes;
      small = λ k. omega (arith, c.type_inv.t k);
      left = went_on g.L.Layout.PORTS c.args.t.now c.loop-place.t c.args.sends.now c.loop-place.place known.left c.loop-place-test.true c.in_default.ensures;
    }
