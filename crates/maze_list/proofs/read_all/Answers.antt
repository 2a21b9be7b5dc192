-- What two reads brought, one after the other, is what the reader lost.
use Rattle.std.proofs.Common.{◌≡◌, ℕ, ◌+◌, List, ◌++◌, take, drop, sym, ap, subst, rules, ◌∙◌}
use Rattle.std.proofs.Math.Seq.{take-add}
use Rattle.std.proofs.KnownBytes.{Consumes-trans}
use Rattle.std.specs.Io.KnownBytes.{Consumes}
use Rattle.maze_list.proofs.read_all.Goals as goal

-- the first bytes that stayed, and those that came behind them
joined : (at n : ℕ) (before after : List ℕ) → take at after ≡ take at before → take at before ++ take n (drop at after) ≡ take (at + n) after
joined at n before after same = ap (λ l. l ++ take n (drop at after)) (sym same) ∙ sym (take-add at n after)

pub loop-at-preserved : goal.loop-at-preserved
loop-at-preserved g c =
    let first = c.loop-at.invariant.1 in
    let more = c.in_ok-got.ensures.bytes.0 in
    (search rules, subst (Consumes _ _) (joined _ _ _ _ c.in_ok-got.ensures.kept) (Consumes-trans _ _ _ _ _ first more))
