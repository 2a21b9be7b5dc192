-- `converting::parts::copy_links` meets its contract: one row more.
use mathlib.Core.Path.{◌≡◌, subst, ◌∙◌}
use native.Mathlib.Omega.{arith}
use Prim.Native.Nat.{ℕ, ◌+◌, ◌-◌, ◌*◌}
use Rattle.layout.specs.Resources.{width_least}
use Rattle.layout.proofs.Parts.{part_long}
use Rattle.converting.specs.ConvertContracts.{LinksCopied}
use Rattle.converting.proofs.Copied.{links_none, links_more, row_inside}
use Rattle.converting.proofs.parts.copy_links.Goals as goal

pub loop-n-init : goal.loop-n-init
loop-n-init g c = links_none _ _ _ _ _ _

pub copy_row-requires : goal.copy_row-requires
copy_row-requires g c =
    let laws = g.met.L.Layout.laws in
    let room = row_inside laws c.loop-n.n c.loop-n-test.true in
    let at = c.LINKS.result + c.link_rows.result in
    let long = part_long c.loop-n.to at (at + 2 * c.PORTS.result - at) (omega (arith, room, c.LINKS.ensures, c.link_rows.ensures, c.PORTS.ensures, c.requires.1, c.loop-n.auto.to)) in
    (omega (arith, c.node_row.ensures, width_least g.met.F.Layout.laws.ports_are), omega (arith, long, c.PORTS.ensures, width_least laws.ports_are))

pub loop-n-preserved : goal.loop-n-preserved
loop-n-preserved g c =
    let laws = g.met.L.Layout.laws in
    let room = row_inside laws c.loop-n.n c.loop-n-test.true in
    let at = c.LINKS.result + c.link_rows.result in
    let long = part_long c.loop-n.to at (at + 2 * c.PORTS.result - at) (omega (arith, room, c.LINKS.ensures, c.link_rows.ensures, c.PORTS.ensures, c.requires.1, c.loop-n.auto.to)) in
    links_more _ _ _ _ c.args.from.now c.args.to.now g.met.F.Layout.laws.ports_are laws.ports_are c.loop-n.to c.copy_row.new.to c.loop-n.n at (at + 2 * c.PORTS.result - at) c.loop-n.invariant c.loop-n-test.true
    (omega (arith, c.LINKS.ensures, c.link_rows.ensures)) (omega (arith, c.requires.1, c.loop-n.auto.to, laws.long_is, laws.links_is)) c.node_row.ensures.0
    (c.copy_row.auto.to ∙ long ∙ omega (arith, c.PORTS.ensures)) c.copy_row.ensures

pub returns : goal.returns
returns g c =
    let all : c.loop-n.n ≡ 256 = omega arith in
    subst (λ (n : ℕ). LinksCopied g.F.Layout.PORTS g.F.Layout.LINKS g.L.Layout.PORTS g.L.Layout.LINKS c.args.from.now n c.args.to.now c.loop-n.to) all c.loop-n.invariant
