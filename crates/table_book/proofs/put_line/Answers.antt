-- `table_book::put_line` meets its contract: three words, each behind the one before.
use mathlib.Core.Path.{◌≡◌}
use mathlib.Core.List.{List}
use Prim.Native.Nat.{ℕ, suc, ◌+◌}
use native.Mathlib.Omega.{arith}
use lib.Seq.{sets}
use Rattle.layout.specs.LayoutContracts.{put_word}
use Rattle.book.specs.Book.{word_bytes}
use Rattle.table_book.specs.Writing.{line_bytes}
use Rattle.table_book.proofs.put_line.Goals as goal

three_words : (b : List ℕ) (at x y z : ℕ) → put_word (put_word (put_word b at x) (at + 2) y) (at + 4) z ≡ sets b at (line_bytes x y z)
unfolding word_bytes
three_words b at x y z =
    let e₁ : at + 1 ≡ suc at = omega arith in
    let e₂ : at + 2 ≡ suc (suc at) = omega arith in
    let e₃ : at + 2 + 1 ≡ suc (suc (suc at)) = omega arith in
    let e₄ : at + 4 ≡ suc (suc (suc (suc at))) = omega arith in
    let e₅ : at + 4 + 1 ≡ suc (suc (suc (suc (suc at)))) = omega arith in
    cc

pub returns : goal.returns
returns c = rw (c.put_word-3.ensures, c.put_word-2.ensures, c.put_word.ensures) (three_words _ _ _ _ _)
