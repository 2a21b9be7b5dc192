-- `router::calls::make` meets its contract: the tests are those of the definition, and so are the bytes of the made table.
use mathlib.Core.Path.{sym, ◌∙◌}
use Rattle.std.proofs.Common.{arith}
use Rattle.router.proofs.TableStep.{make_length, make_zero, make_large, make_made}
use Rattle.router.proofs.calls.make.Goals.{then-dimension-eq0-via-then-dimension-eq0, then-dimension-eq0-via-else-dimension-eq0+then-dimension-gt-LARGEST_DIMENSION}
use Rattle.router.proofs.calls.make.Goals as goal

pub returns-then-t-LENGTH : goal.returns-then-t-LENGTH
returns-then-t-LENGTH g c =
    make_length g.L.Layout.PORTS c.args.t.now c.args.dimension (λ e. c.if-t-LENGTH.true (e ∙ sym g.met.L.Layout.laws.long_is ∙ sym c.LENGTH.ensures))

pub returns-then-dimension-eq0 : goal.returns-then-dimension-eq0
returns-then-dimension-eq0 g c =
    let long = c.if-t-LENGTH.false ∙ c.LENGTH.ensures ∙ g.met.L.Layout.laws.long_is in
    elim c.then-dimension-eq0.branch [
      | then-dimension-eq0-via-then-dimension-eq0 w ↦ make_zero g.L.Layout.PORTS c.args.t.now c.args.dimension long w.if-dimension-eq0.true
      | then-dimension-eq0-via-else-dimension-eq0+then-dimension-gt-LARGEST_DIMENSION w ↦ make_large g.L.Layout.PORTS c.args.t.now c.args.dimension long w.if-dimension-gt-LARGEST_DIMENSION.true
    ]

pub returns : goal.returns
returns g c =
    let laws = g.met.L.Layout.laws in
    make_made laws.ports_are c.args.t.now c.args.dimension (c.if-t-LENGTH.false ∙ c.LENGTH.ensures ∙ laws.long_is) (λ k. omega (arith, c.slice_known-1.given k)) c.if-dimension-eq0.false
    c.if-dimension-gt-LARGEST_DIMENSION.false c.make.ensures
