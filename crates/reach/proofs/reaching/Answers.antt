-- `reach::reaching` meets its contract: the nodes that differ from the target in a vector below x are swept.
use mathlib.Core.Path.{refl, ◌∙◌}
use Prim.Native.Nat.{◌<◌, ◌^◌}
use native.Mathlib.Omega.{arith}
use Rattle.layout.specs.Layout.{dimension_at}
use Rattle.layout.specs.Resources.{width_least}
use lib.ListN.{replicate}
use mathlib.Core.Bool.{false}
use Rattle.cube.proofs.Ports.{below_256, count_of}
use Rattle.reach.proofs.Sweep.{inside, sweep_ports, swept_target, swept_leads, swept_more, swept_all}
use Rattle.reach.proofs.reaching.Goals as goal

pub loop-x-init : goal.loop-x-init
loop-x-init g c = rw c.from.ensures (swept_target c.args.t.now c.args.target.0 c.requires (replicate 256 false) refl)

pub enable_bits-requires : goal.enable_bits-requires
enable_bits-requires g c =
    let count = count_of c.dimension.ensures c.node_count-x-end.ensures.value in
    let x : c.loop-x.x < 2 ^ dimension_at c.args.t.now = omega (arith, c.loop-x-test.true) in
    let there = below_256 c.requires.fits (inside c.args.t.now c.args.target.0 c.requires c.loop-x.x x) in
    record { bytes = c.requires.bytes; node = there; port = omega (arith, width_least g.met.L.Layout.laws.ports_are) }

pub leads_on-requires : goal.leads_on-requires
leads_on-requires g c =
    let count = count_of c.dimension.ensures c.node_count-x-end.ensures.value in
    let x : c.loop-x.x < 2 ^ dimension_at c.args.t.now = omega (arith, c.loop-x-test.true) in
    let there = below_256 c.requires.fits (inside c.args.t.now c.args.target.0 c.requires c.loop-x.x x) in
    (there, sweep_ports c.args.t.now c.args.target.0 c.requires c.loop-x.x x c.from-in-loop-x.ensures c.with_partners.ensures _)

pub loop-x-preserved : goal.loop-x-preserved
loop-x-preserved g c =
    let count = count_of c.dimension.ensures c.node_count-x-end.ensures.value in
    let x : c.loop-x.x < 2 ^ dimension_at c.args.t.now = omega (arith, c.loop-x-test.true) in
    let right = swept_leads c.args.t.now c.args.target.0 c.requires g.met.L.Layout.laws c.loop-x.marks c.loop-x.x _ _ _ (omega (arith, c.loop-x.auto.x)) x c.loop-x.invariant c.from-in-loop-x.ensures c.with_partners.ensures.0 c.enable_bits.ensures.0 c.enable_bits.ensures.1 in
    rw c.from-in-loop-x-2.ensures
    (swept_more c.args.t.now c.args.target.0 c.requires c.loop-x.marks c.loop-x.x c.leads_on.result x c.loop-x.invariant (c.leads_on.ensures ∙ right))

pub returns : goal.returns
returns g c =
    let count = count_of c.dimension.ensures c.node_count-x-end.ensures.value in
    swept_all c.args.t.now c.args.target.0 c.requires c.loop-x.marks c.loop-x.x (omega (arith, c.loop-x-test.false)) c.loop-x.invariant
