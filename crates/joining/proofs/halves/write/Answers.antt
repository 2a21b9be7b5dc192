-- `joining::halves::write` meets its contract: the first's bytes with the dimension raised, and then each part of the second half behind the first's.
use native.Mathlib.Omega.{arith}
use mathlib.Core.Path.{◌≡◌, ap, ◌∙◌}
use Prim.Native.Nat.{ℕ, ◌+◌}
use lib.ListN.{get_or, set, length-set}
use Rattle.cube.specs.Cube.{cube_nodes}
use Rattle.layout.specs.Layout.{dimension_at}
use Rattle.joining.proofs.Joining.{both_fit, links_fit, receives_fit, joined_encoded}
use Rattle.joining.proofs.halves.write.Goals as goal

pub overflow_add-joined : goal.overflow_add-joined
unfolding dimension_at
overflow_add-joined c =
    let first : get_or c.copy.new.to 0 0 ≡ get_or c.args.first.now 0 0 = ap (λ xs. get_or xs 0 0) c.copy.ensures in
    omega (arith, first, c.requires.0.first, c.requires.0.room)

pub rows_behind-requires-clause-fit : goal.rows_behind-requires-clause-fit
rows_behind-requires-clause-fit c =
    let halves = c.requires.0 in
    let nodes = c.node_count-nodes.ensures.value in
    links_fit c.args.second.now halves.second_long c.node_count-nodes.result (nodes ∙ ap cube_nodes halves.second) halves.second_sound

pub rows_behind-requires-2-clause-fit : goal.rows_behind-requires-2-clause-fit
rows_behind-requires-2-clause-fit c =
    let halves = c.requires.0 in
    let nodes = c.node_count-nodes.ensures.value in
    receives_fit c.args.second.now halves.second_long c.node_count-nodes.result (nodes ∙ ap cube_nodes halves.second) halves.second_sound

pub returns : goal.returns
returns c =
    let halves = c.requires.0 in
    let nodes = c.node_count-nodes.ensures.value in
    joined_encoded c.args.first.now c.args.second.now c.args.dimension c.node_count-nodes.result halves nodes (both_fit nodes halves.room)
    (ap (λ xs. set xs 0 (get_or xs 0 0 + 1)) c.copy.ensures) c.masks_behind.ensures c.masks_behind-2.ensures c.enable_port.ensures c.rows_behind.ensures c.rows_behind-2.ensures
    record { long = omega (arith, length-set {A = ℕ}); small = λ i. omega (arith, c.type_inv.joined i) }
