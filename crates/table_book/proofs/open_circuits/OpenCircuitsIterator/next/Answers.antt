-- The next open circuit: the first of the numbers at hand, or of those of a node that it goes on to.
use mathlib.Core.Path.{◌≡◌, refl, ◌∙◌}
use mathlib.Core.Bool.{true, false}
use native.Mathlib.Omega.{arith}
use Rattle.std.proofs.Common.{rules, Some}
use Rattle.std.proofs.lemmas.Iterator.{first_from_Range}
use Rattle.table.specs.View.{view}
use Rattle.circuit_path.specs.OpenCircuit.{is_open_in}
use Rattle.table_book.proofs.NumbersLeft.{numbers_left}
use Rattle.table_book.proofs.OpenLeft.{gives_open, went_on, later_open, goes_on}
use Rattle.table_book.proofs.open_circuits.OpenCircuitsIterator.next.Goals as goal

pub invariant_of-self : goal.invariant_of-self
invariant_of-self g c =
    let s = c.loop-number.self in
    let ran = c.find-found.ensures.ran in
    let left = numbers_left s.numbers c.find-found.new.self ran.0 c.find-found.result ran.2 s.left.inside in
    record { left = record { bytes = s.left.bytes; fits = s.left.fits; low = omega (arith, s.left.low, left.1); inside = left.2; joined = left.0 ∙ s.left.joined; nodes_inside = s.left.nodes_inside; high = s.left.high } }

pub returns-in-Some-clause-steps : goal.returns-in-Some-clause-steps
returns-in-Some-clause-steps g c =
    let s = c.loop-number.self in
    let open_at = is_open_in (view s.bytes.now) in
    let ran = c.find-found.ensures.ran in
    let first = first_from_Range _ _ _ c.find-found.result (λ k. open_at k ≡ true) (λ k. open_at k ≡ false) ran (λ x q k. search rules) (λ x q k. search rules) in
    let left = numbers_left s.numbers c.find-found.new.self ran.0 c.find-found.result ran.2 s.left.inside in
    later_open c.loop-number.invariant.same c.loop-number.invariant.rest c.loop-number.invariant.rises (gives_open s.left c.in-Some.number _ (rw c.in-Some.is at first) (rw c.in-Some.is at left) refl)

pub returns-in-Some-clause-goes : goal.returns-in-Some-clause-goes
returns-in-Some-clause-goes g c = goes_on _ (λ s. s.bytes.now) (λ s. s.numbers) (λ s. tt) c.args.self.now _ (Some _) (returns-in-Some-clause-steps g c)

pub loop-number-preserved : goal.loop-number-preserved
loop-number-preserved g c =
    let s = c.loop-number.self in
    let open_at = is_open_in (view s.bytes.now) in
    let ran = c.find-found.ensures.ran in
    let first = first_from_Range _ _ _ c.find-found.result (λ k. open_at k ≡ true) (λ k. open_at k ≡ false) ran (λ x q k. search rules) (λ x q k. search rules) in
    let left = numbers_left s.numbers c.find-found.new.self ran.0 c.find-found.result ran.2 s.left.inside in
    let rest = c.loop-number.invariant.rest ∙ went_on s.left c.next_node.ensures (rw c.in_default.is at first) (rw c.in_default.is at left) in
    record { same = c.next_node.ensures.same ∙ c.loop-number.invariant.same; rest = rest; rises = omega (arith, c.loop-number.invariant.rises, left.1, c.next_node.ensures.rises) }

pub returns-in_err-next_node-clause-steps : goal.returns-in_err-next_node-clause-steps
returns-in_err-next_node-clause-steps g c =
    let s = c.loop-number.self in
    let open_at = is_open_in (view s.bytes.now) in
    let ran = c.find-found.ensures.ran in
    let first = first_from_Range _ _ _ c.find-found.result (λ k. open_at k ≡ true) (λ k. open_at k ≡ false) ran (λ x q k. search rules) (λ x q k. search rules) in
    let left = numbers_left s.numbers c.find-found.new.self ran.0 c.find-found.result ran.2 s.left.inside in
    let rest = c.loop-number.invariant.rest ∙ went_on s.left c.next_node.ensures (rw c.in_default.is at first) (rw c.in_default.is at left) in
    let none = rw c.in_err-next_node.was at c.next_node.ensures.found in
    rw c.from_residual.ensures (rest ∙ none, none)
