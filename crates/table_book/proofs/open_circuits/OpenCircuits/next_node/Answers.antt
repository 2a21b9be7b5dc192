-- The next node that holds a link: `find` over the nodes that are left.
use mathlib.Core.Path.{refl}
use native.Mathlib.Omega.{arith}
use Rattle.std.specs.Bool.{⊤}
use Rattle.std.proofs.Common.{rules, Some, ◌<◌}
use Rattle.std.proofs.lemmas.Iterator.{first_from_Range}
use Rattle.cube.proofs.Ports.{most_nodes}
use Rattle.table.specs.View.{view}
use Rattle.table_book.specs.Writing.{HoldsNone}
use Rattle.table_book.proofs.OpenLeft.{FirstHolder, no_node, next_node_lem}
use Rattle.table_book.proofs.open_circuits.OpenCircuits.next_node.Goals as goal

pub returns-in_err-node : goal.returns-in_err-node
returns-in_err-node g c =
    let s = c.args.self.now in
    let first = first_from_Range _ _ _ c.find.result (λ _. ⊤) (HoldsNone (view s.bytes.now)) c.find.ensures.ran (λ x q k. tt) (λ x q k. search rules) in
    let none = no_node s.left c.requires (rw c.in_err-node.was at first) in
    rw c.from_residual.ensures (record { same = refl; rest = refl; rises = omega arith; found = none })

-- the node that was found, below the count of nodes
found : (g : _) (c : goal.In_ok-node g) → FirstHolder c.args.self.now.bytes.now c.args.self.now.nodes (Some c.in_ok-node.node)
found g c =
    let s = c.args.self.now in
    let first = first_from_Range _ _ _ c.find.result (λ _. ⊤) (HoldsNone (view s.bytes.now)) c.find.ensures.ran (λ x q k. tt) (λ x q k. search rules) in
    rw c.in_ok-node.was at first

small : (g : _) (c : goal.In_ok-node g) → c.in_ok-node.node < 256
small g c = let s = c.args.self.now in omega (arith, (found g c).1, s.left.high, most_nodes s.left.fits)

pub overflow_mul-first : goal.overflow_mul-first
overflow_mul-first g c = omega (arith, small g c)

pub overflow_add-first : goal.overflow_add-first
overflow_add-first g c = omega (arith, small g c)

pub overflow_add-self : goal.overflow_add-self
overflow_add-self g c = omega (arith, small g c)

pub overflow_add-self-2 : goal.overflow_add-self-2
overflow_add-self-2 g c = omega (arith, small g c.before)

pub invariant_of-self : goal.invariant_of-self
invariant_of-self g c =
    let s = c.args.self.now.left in
    let node = found g c.before in
    record { left = record { bytes = s.bytes; fits = s.fits; low = omega arith; inside = omega arith; joined = omega arith; nodes_inside = omega (arith, node.1); high = s.high } }

pub returns : goal.returns
returns g c = next_node_lem c.args.self.now.left c.requires _ _ (found g c.before.before) refl refl
