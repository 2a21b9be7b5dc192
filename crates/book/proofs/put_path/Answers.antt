-- `book::put_path` meets its contract: what is left to copy behind what was copied is the path.
use mathlib.Core.Path.{◌≡◌, refl, sym, ap, ◌∙◌}
use mathlib.Core.List.{List}
use Prim.Native.Nat.{ℕ, ◌+◌, ◌<◌}
use native.Mathlib.Numerals.{add-one}
use native.Mathlib.Omega.{arith}
use lib.ListN.{length, get_or, set, drop, length-set, drop_of_length-le}
use lib.Seq.{sets, drop-cons}
use Rattle.book.proofs.put_path.Goals as goal

one_more : (b path : List ℕ) (i : ℕ) → i < length path → sets (set b i (get_or path i 0)) (i + 1) (drop (i + 1) path) ≡ sets b i (drop i path)
one_more b path i h = rw (add-one i, drop-cons path i 0 h)

pub loop-i-init : goal.loop-i-init
loop-i-init c = (refl, refl)

pub loop-i-preserved : goal.loop-i-preserved
loop-i-preserved c =
    (length-set c.loop-i.buffer c.loop-i.i _ ∙ c.loop-i.invariant.0, one_more c.loop-i.buffer c.args.path.now c.loop-i.i (omega arith) ∙ c.loop-i.invariant.1)

pub returns : goal.returns
returns c =
    sym (ap (λ (xs : List ℕ). sets c.loop-i.buffer c.loop-i.i xs) (drop_of_length-le c.args.path.now (omega arith))) ∙ c.loop-i.invariant.1
