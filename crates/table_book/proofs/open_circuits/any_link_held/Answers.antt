-- Where no link out of the node is held, nobody owns one.
use mathlib.Core.Logic.{⊎_elim}
use native.Mathlib.Omega.{arith}
use borrow.Author.Tests.{not-false}
use Rattle.common.proofs.Tests.{below_or}
use Rattle.table.specs.View.{view}
use Rattle.table_book.proofs.EmptyNodes.{no_entry}
use Rattle.table_book.proofs.open_circuits.any_link_held.Goals as goal

pub returns : goal.returns
unfolding view
returns g c e p =
    ⊎_elim (λ l. c.none_held.ensures (not-false _ e) c.args.n.0 p (omega arith) (omega arith) l)
    (λ l. no_entry g.met.L.Layout.laws c.args.t.now c.requires.bytes c.args.n.0 p l) (below_or g.L.Layout.PORTS p)
