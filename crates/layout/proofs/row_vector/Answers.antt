-- `layout::row_vector` meets its contract: the entries before k are found.
use mathlib.Core.Path.{sym, subst}
use Prim.Native.Nat.{◌+◌}
use native.Mathlib.Omega.{arith}
use Rattle.layout.proofs.Rows.{Found, found_none, found_yes, found_no, found_all}
use Rattle.layout.proofs.row_vector.Goals as goal
use Rattle.layout.proofs.row_vector.Goals.{then-word-c, else-word-c}

pub loop-k-init : goal.loop-k-init
loop-k-init g c = found_none _ _

pub loop-k-preserved : goal.loop-k-preserved
loop-k-preserved g c =
    let found = Found c.args.row.now c.args.c.0 (c.loop-k.k + 1) in
    elim c.if-word-c.branch [
      | then-word-c w ↦ subst found (sym w.vector-is) (found_yes _ _ c.loop-k.k c.loop-k.vector c.word.result c.loop-k.invariant (omega (arith, g.met.H.Resource.laws.width_most)) c.word.ensures w.if-word-c.true)
      | else-word-c w ↦ subst found (sym w.vector-is) (found_no _ _ c.loop-k.k c.loop-k.vector c.word.result c.loop-k.invariant (omega (arith, g.met.H.Resource.laws.width_most)) c.word.ensures w.if-word-c.false)
    ]

pub returns : goal.returns
returns g c = found_all _ _ c.loop-k.k c.loop-k.vector (omega arith) c.loop-k.invariant
