-- `table::count_unheld` meets its contract: those before place i are counted.
use mathlib.Core.Path.{◌≡◌, ◌∙◌, ap}
use Prim.Native.Nat.{ℕ, ◌+◌, ◌*◌}
use native.Mathlib.Omega.{arith}
use native.Mathlib.Nat.{add-zero, add_assoc}
use lib.Dec.{eqb}
use Rattle.layout.proofs.Entries.{by_width}
use Rattle.table.specs.TableContracts.{place_count}
use Rattle.table.proofs.Rows.{unheld_yes, unheld_no}
use Rattle.table.proofs.count_unheld.Goals as goal
use Rattle.table.proofs.count_unheld.Goals.{else-word-eq0, then-word-eq0}

pub loop-i-init : goal.loop-i-init
loop-i-init g c = (omega arith, simp add-zero)

pub loop-i-preserved : goal.loop-i-preserved
loop-i-preserved g c =
    let b = c.args.t.now in
    let q = g.H.Resource.WIDTH in
    let owner = g.H.Resource.owner b in
    let count : ℕ → ℕ = place_count q (λ n k. eqb (owner n k) 0) in
    let n = c.args.n.0 in
    let i = c.loop-i.i in
    let laws = g.met.H.Resource.laws in
    let on : q * n + i + 1 ≡ q * n + (i + 1) = add_assoc (q * n) i 1 in
    elim c.if-word-eq0.branch [
      | then-word-eq0 w ↦
          let more = unheld_yes q g.H.Resource.ROWS laws.width_is b owner (laws.owner_is b c.requires.0) n c.args.nodes i _ _ _ c.requires.1 (omega arith) c.node_rows-rows.ensures c.word.ensures c.loop-i.invariant.1 w.if-word-eq0.true in
          (omega (arith, w.unheld-is), omega (arith, w.unheld-is, more, ap count on))
      | else-word-eq0 w ↦
          let same = unheld_no q g.H.Resource.ROWS laws.width_is b owner (laws.owner_is b c.requires.0) n c.args.nodes i _ _ _ c.requires.1 (omega arith) c.node_rows-rows.ensures c.word.ensures c.loop-i.invariant.1 w.if-word-eq0.false in
          (omega (arith, w.unheld-is), omega (arith, w.unheld-is, same, ap count on))
    ]

pub returns-clause-few : goal.returns-clause-few
returns-clause-few g c = omega arith

pub returns-clause-counted : goal.returns-clause-counted
returns-clause-counted g c =
    let q = g.H.Resource.WIDTH in
    let count : ℕ → ℕ = place_count q (λ n k. eqb (g.H.Resource.owner c.args.t.now n k) 0) in
    let all : c.loop-i.i ≡ q * c.args.nodes = omega arith in
    let sum = by_width (λ q. q * c.args.n.0 + q * c.args.nodes ≡ q * (c.args.n.0 + c.args.nodes)) q g.met.H.Resource.laws.width_is (omega arith) (omega arith) in
    ap (count (q * c.args.n.0) +◌) c.from.ensures ∙ c.loop-i.invariant.1 ∙ ap count (ap (q * c.args.n.0 +◌) all ∙ sum)
