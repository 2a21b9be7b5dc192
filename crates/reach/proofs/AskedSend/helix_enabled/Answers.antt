-- `reach::AskedSend::helix_enabled` meets its contract: the links that are asked are those of the helix path.
use mathlib.Core.Path.{ap, sym, ◌∙◌}
use mathlib.Core.Bool.{Bool}
use Prim.Native.Nat.{ℕ}
use Rattle.std.proofs.Common.{rules}
use Rattle.std.specs.List.{list_all}
use Rattle.common.proofs.Runs.{all_of}
use Rattle.cube.proofs.Order.{byte_vector}
use Rattle.paths.specs.LinksLeft.{links_offered, link_of}
use Rattle.std.specs.Prelude.{List, Option}
use Rattle.std.specs.Option.{IfSome}
use Rattle.std.specs.Iterator.{YieldsFirstBy}
use Rattle.cube.specs.declared.kinds.Node.{Node}
use Rattle.cube.specs.declared.kinds.Port.{Port}
use Rattle.paths.specs.declared.helix_path.HelixPath.{HelixPath}
use Rattle.paths.specs.HelixLinks.{LinkInside}
use Rattle.paths.specs.Network.{Link}
use Rattle.table.specs.View.{view}
use Rattle.reach.proofs.Asks.{port_starts, asked_links}
use Rattle.reach.proofs.AskedSend.helix_enabled.Goals as goal

pub new-requires : goal.new-requires
new-requires g c =
    let may = c.args.self.now.may_ask in
    record { source_inside = port_starts may c.requires; target_inside = byte_vector may.sweep.fits may.sweep.target }

pub returns : goal.returns
unfolding view
returns g c =
    let send = c.args.self.now in
    let f = g.B.Board.fold in
    let test : ℕ × ℕ → Bool = λ l. (view send.bytes.now).enabled l.0 l.1 in
    let left : HelixPath g.row.B.Denot g.B.Board → List Link = λ p. links_offered (f p.board) p.node.0 p.target.0 p.offered p.arrival.0 in
    let steps : HelixPath g.row.B.Denot g.B.Board → Option (Node × Port) → HelixPath g.row.B.Denot g.B.Board → Type 0 =
    λ old r new. YieldsFirstBy link_of left old r new × IfSome r (λ l. LinkInside g.B.Board.width (f old.board) l.0.0 l.1.0) in
    all_of {steps = steps} link_of left (λ s r t step. step.0) test (λ x r q k. search rules) c.all.new.self c.all.ensures.ran
    ∙ ap (list_all test) c.new.ensures ∙ sym (asked_links send.may_ask c.requires)
