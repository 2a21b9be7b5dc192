-- `job::open_all` meets its contract: the sends in turn, and the bytes kept copied back where one is refused.
use mathlib.Core.Path.{sym, ◌∙◌}
use Rattle.std.proofs.Common.{arith}
use Rattle.job.proofs.SendsInTurn.{all_long, short_job, none_opened, each_opened}
use Rattle.job.proofs.open_all.Goals.{then-is_err, else-is_err}
use Rattle.job.proofs.open_all.Goals as goal

pub keep-kept-requires : goal.keep-kept-requires
keep-kept-requires g c = all_long g.L.Layout.PORTS c.args.t.now c.args.sends.now c.in_ok-open_all.ensures ∙ sym g.met.L.Layout.laws.long_is

pub put_back-requires : goal.put_back-requires
put_back-requires g c =
    c.open_in_turn-answer.auto.t ∙ all_long g.L.Layout.PORTS c.args.t.now c.args.sends.now c.in_ok-open_all.ensures ∙ sym g.met.L.Layout.laws.long_is

pub returns-then-one_at_most : goal.returns-then-one_at_most
returns-then-one_at_most g c =
    short_job g.met.L.Layout.laws.ports_are c.args.t.now c.args.sends.now c.in_ok-open_all.ensures (λ k. omega (arith, c.slice_known-1.given k)) (omega (arith, c.if-one_at_most.true)) c.open_in_turn.ensures

pub returns : goal.returns
returns g c =
    let width = g.met.L.Layout.laws.ports_are in
    elim c.if-is_err.branch [
      | then-is_err w ↦
          rw w.t-is
          (none_opened width c.args.t.now c.args.sends.now c.in_ok-open_all.ensures (λ k. omega (arith, c.slice_known-1.given k)) c.open_in_turn-answer.result (sym c.is_err.ensures.value ∙ w.if-is_err.true)
          c.open_in_turn-answer.ensures (w.put_back.ensures ∙ c.keep-kept.ensures))
      | else-is_err w ↦
          rw w.t-is
          (each_opened width c.args.t.now c.args.sends.now c.in_ok-open_all.ensures (λ k. omega (arith, c.slice_known-1.given k)) c.open_in_turn-answer.result (sym c.is_err.ensures.value ∙ w.if-is_err.false)
          c.open_in_turn-answer.ensures)
    ]
