-- A node out of which no link is held has no open circuit, so the numbers of its circuits are passed over.
-- Assumes nothing.
use mathlib.Core.Path.{◌≡◌, refl, ap, sym, ◌∙◌}
use mathlib.Core.Bool.{false, and-false}
use Prim.Native.Nat.{ℕ, ◌+◌, ◌-◌, ◌*◌, ◌≤◌, ◌<◌}
use mathlib.Core.List.{List}
use native.Mathlib.Omega.{arith}
use lib.Dec.{ltb}
use lib.ListN.{length}
use borrow.Author.Tests.{eqb-true, le-ltb}
use Rattle.common.proofs.Tests.{is_false}
use Rattle.common.proofs.Lists.{any_some}
use Rattle.cube.specs.Cube.{channels, source_of}
use Rattle.layout.specs.Layout.{entry_at, owner_at}
use Rattle.layout.specs.Resources.{LayoutLaws, links_laws}
use Rattle.table.specs.View.{View, held_by}
use Rattle.circuit_path.specs.OpenCircuit.{is_open_in}
use Rattle.table_book.specs.Writing.{HoldsNone, book_from}
use Rattle.table_book.proofs.BookFrom.{skip}

-- a row has no entry behind its ports
pub no_entry : {long q enable links receives arms : ℕ} (laws : LayoutLaws long q enable links receives arms) (b : List ℕ) → length b ≡ long → (n p : ℕ) → q ≤ p → owner_at b n p ≡ 0
unfolding entry_at
no_entry {q = q} laws b l n p h = ap (λ owner. owner n p) ((links_laws laws).owner_is b l) ∙ rw (le-ltb p q h, and-false (ltb n 256)) refl

module _ (v : View) where
  none_opened : (n c : ℕ) → HoldsNone v n → 1 ≤ c → source_of c ≡ n → is_open_in v c ≡ false
  unfolding is_open_in
  none_opened n c none some e =
      is_false (is_open_in v c) (λ o.
      let held = any_some (held_by v c (source_of c)) _ o in
      let nobody : c ≡ 0 = sym (eqb-true _ c held.2) ∙ ap (λ m. v.owner m held.0) e ∙ none held.0 in
      omega (arith, some, nobody))

  pub passed_over : (last m n : ℕ) → m ≤ n → channels * n ≤ last → ((k : ℕ) → m ≤ k → k < n → HoldsNone v k)
      → book_from v (channels * m + 1) (last + 1 - (channels * m + 1)) ≡ book_from v (channels * n + 1) (last + 1 - (channels * n + 1))
  passed_over last m n l h none =
      let e : channels * m + 1 + channels * (n - m) ≡ channels * n + 1 = omega arith in
      skip v last (channels * (n - m)) (channels * m + 1) (omega arith) (λ c a d. none_opened (source_of c) c (none (source_of c) (omega arith) (omega arith)) (omega arith) refl)
      ∙ ap (λ k. book_from v k (last + 1 - k)) e
