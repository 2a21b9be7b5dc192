-- `reach::leads_on` meets its contract: some port of the vector leads to a marked node.
use mathlib.Core.Path.{ap, ◌∙◌}
use native.Mathlib.Nat.{lt_of_lt_of_le}
use lib.Pow.{pow_mono}
use Rattle.std.proofs.Common.{rules, Bool, false, ℕ}
use Rattle.common.specs.Lists.{any}
use Rattle.common.proofs.Runs.{callable, any_of}
use Rattle.cube.specs.Cube.{next}
use Rattle.cube.specs.PortsLeft.{ports_left}
use Rattle.reach.specs.Marks.{leads_to_marked, reach_mark}
use Rattle.reach.proofs.Sweep.{leads_inside}
use Rattle.reach.proofs.leads_on.Goals as goal

pub new-requires : goal.new-requires
new-requires g c = lt_of_lt_of_le c.requires.1.below (pow_mono g.met.B.Board.laws.most)

pub any-requires-clause-callable : goal.any-requires-clause-callable
any-requires-clause-callable g c =
    callable (λ p. p.0) ports_left (λ s r t step. step) (λ p. reach_mark c.args.marks.now (next c.args.n.0 p)) (λ x r q k. search rules) false
    (λ p m. leads_inside c.requires.0 c.requires.1 p.0 (rw c.new.ensures at m))

pub returns : goal.returns
unfolding leads_to_marked
returns g c =
    let test : ℕ → Bool = λ p. reach_mark c.args.marks.now (next c.args.n.0 p) in
    any_of (λ p. p.0) ports_left (λ s r t step. step) test (λ x r q k. search rules) c.any.new.self c.any.ensures.ran ∙ ap (any test) c.new.ensures
