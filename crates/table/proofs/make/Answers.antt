-- `table::make` meets its contract: the first byte, zeros and then the masks are the bytes of a made table.
use Rattle.std.proofs.Common.{rules, arith, ◌≡◌, ◌-◌, length, ap, ◌∙◌}
use mathlib.Core.Path.{refl, subst}
use Prim.Native.Nat.{◌^◌}
use lib.ListN.{replicate}
use Rattle.table.proofs.Making.{Making, cleared, masked, made_bytes_over}
use Rattle.table.proofs.make.Goals as goal

pub loop-n-init : goal.loop-n-init
loop-n-init g c =
    let laws = g.met.L.Layout.laws in
    let zeros : c.fill.new.self ≡ replicate (length c.fill.new.self) 0 = search rules in (
      cleared c.args.t.now g.L.Layout.PORTS g.L.Layout.ENABLE g.L.Layout.LENGTH c.args.dimension _ c.fill.new.self c.requires.0 (omega (arith, laws.long_is, laws.arms_is)) refl zeros c.fill.auto.self,
      λ i. omega (arith, c.type_inv.t i),
    )

pub loop-n-preserved : goal.loop-n-preserved
loop-n-preserved g c =
    let laws = g.met.L.Layout.laws in
    let nodes = c.node_count-nodes.ensures.value ∙ ap (2 ^◌) c.from.ensures in (
      rw c.put_mask.ensures
          (masked laws c.args.dimension c.requires.1 c.loop-n.t c.loop-n.n c.mask_place.result c.from-in-loop-n.result c.loop-n.invariant.0 (omega (arith, nodes, c.loop-n-test.true)) c.mask_place.ensures.0 (c.from-in-loop-n.ensures ∙ ap (◌- 1) nodes)),
      λ i. omega (arith, c.type_inv.t i),
    )

pub returns : goal.returns
returns g c =
    let nodes = c.node_count-nodes.ensures.value ∙ ap (2 ^◌) c.from.ensures in
    let all : c.loop-n.n ≡ 2 ^ c.args.dimension = omega (arith, nodes) in
    made_bytes_over g.met.L.Layout.laws c.args.dimension c.requires.1 c.loop-n.t (subst (λ n. Making g.L.Layout.PORTS g.L.Layout.ENABLE g.L.Layout.LENGTH c.args.dimension n c.loop-n.t) all c.loop-n.invariant.0) c.loop-n.invariant.1
