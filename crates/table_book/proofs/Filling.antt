-- A book while it is written: what is left to write behind what was written is the book of the table.
-- Assumes nothing.
use mathlib.Core.Path.{◌≡◌, refl, ap, sym, ◌∙◌}
use mathlib.Core.List.{List, [], ◌∷◌}
use Prim.Native.Nat.{ℕ, ◌+◌, ◌-◌, ◌*◌, ◌≤◌, ◌<◌}
use native.Mathlib.Omega.{arith}
use lib.ListN.{length, length-append}
use lib.Seq.{sets, length-sets}
use Rattle.text.proofs.Writing.{sets_append}
use Rattle.table.specs.View.{View, view}
use Rattle.circuit_path.specs.PathOf.{path_of}
use Rattle.circuit_path.specs.Traced.{traced_into}
use Rattle.circuit_path.proofs.Tracing.{written_whole}
use Rattle.book.specs.Book.{BookCircuit, port_bytes, word_bytes, index_from, index_bytes, hop_count}
use Rattle.book.specs.BookOf.{book_of}
use Rattle.book.proofs.WrittenBook.{index_length}
use Rattle.table_book.specs.Writing.{last_of, book_from, line_bytes}
use Rattle.table_book.proofs.BookFrom.{book_whole, CountingBook, nothing_counted, count_open}

-- the circuits of the numbers from c on are left
pub record Filling (v : View) (last : ℕ) (ports₀ index₀ ports index : List ℕ) (circuits hops c : ℕ) : Type 0 where
  pub counted : CountingBook v last circuits hops c
  pub ports_long : length ports ≡ length ports₀
  pub index_long : length index ≡ length index₀
  pub ports_bytes : sets ports hops (port_bytes (book_from v c (last + 1 - c))) ≡ sets ports₀ 0 (port_bytes (book_of v))
  pub index_bytes_lem : sets index (6 * circuits) (index_from hops (book_from v c (last + 1 - c))) ≡ sets index₀ 0 (index_bytes (book_of v))

-- before the first number
pub nothing_filled : (b ports index : List ℕ) → Filling (view b) (last_of b) ports index ports index 0 0 1
nothing_filled b ports index =
    let whole = book_whole b in
    record {
      counted = nothing_counted b;
      ports_long = refl;
      index_long = refl;
      ports_bytes = ap (λ (xs : List BookCircuit). sets ports 0 (port_bytes xs)) whole;
      index_bytes_lem = ap (λ (xs : List BookCircuit). sets index 0 (index_from 0 xs)) whole;
    }

module _ {v : View} {last : ℕ} {ports₀ index₀ ports index : List ℕ} {circuits hops c : ℕ} (f : Filling v last ports₀ index₀ ports index circuits hops c) where
  -- a circuit that is open, behind which the numbers from d on are left: there is room for it,
  module _ (n d : ℕ) (next : book_from v c (last + 1 - c) ≡ record { number = n; ports = path_of v n } ∷ book_from v d (last + 1 - d)) where
    abbrev later : List BookCircuit
    later = book_from v d (last + 1 - d)

    pub room : {k : ℕ} → k ≡ length (path_of v n) → hop_count (book_of v) ≤ length ports₀ → 6 * length (book_of v) ≤ length index₀
        → (hops + k ≤ length ports) × (6 * circuits + 6 ≤ length index)
    unfolding port_bytes
    room e p i = (
      omega (arith, p, f.ports_long, f.counted.sum, ap hop_count next, length-append (path_of v n) (port_bytes later)),
      omega (arith, i, f.index_long, f.counted.count, ap length next),
    )

    -- and it is written
    pub fill_open : {w ports₁ index₁ : List ℕ} {more sum : ℕ} → c < d → w ≡ path_of v n → length w ≤ 9 → more ≡ circuits + 1 → sum ≡ hops + length w
        → ports₁ ≡ sets ports hops w → index₁ ≡ sets index (6 * circuits) (line_bytes n hops (length w)) → Filling v last ports₀ index₀ ports₁ index₁ more sum d
    unfolding port_bytes index_from word_bytes
    fill_open {w} {ports₁} {index₁} {more} {sum} h e l q r x y =
        let first : book_from v c (last + 1 - c) ≡ record { number = n; ports = w } ∷ later = next ∙ ap (λ (p : List ℕ). record { number = n; ports = p } ∷ later) (sym e) in
        let place : 6 * circuits + 6 ≡ 6 * (circuits + 1) = omega arith in
        record {
          counted = count_open f.counted h next (ap length e) l q r;
          ports_long = ap length x ∙ length-sets ports hops w ∙ f.ports_long;
          index_long = ap length y ∙ length-sets index (6 * circuits) (line_bytes n hops (length w)) ∙ f.index_long;
          ports_bytes = rw (x, r) (sym (sets_append ports hops w (port_bytes later)) ∙ ap (λ (xs : List BookCircuit). sets ports hops (port_bytes xs)) (sym first) ∙ f.ports_bytes);
          index_bytes_lem = rw (y, q, r, ← place)
              (sym (sets_append index (6 * circuits) (line_bytes n hops (length w)) (index_from (hops + length w) later))
              ∙ ap (λ (xs : List BookCircuit). sets index (6 * circuits) (index_from hops xs)) (sym first) ∙ f.index_bytes_lem);
        }

  -- none is left
  module _ (none : book_from v c (last + 1 - c) ≡ []) where
    pub ports_filled : hop_count (book_of v) ≤ length ports₀ → ports ≡ traced_into (port_bytes (book_of v)) ports₀
    unfolding port_bytes
    ports_filled p = ap (λ (xs : List BookCircuit). sets ports hops (port_bytes xs)) (sym none) ∙ f.ports_bytes ∙ written_whole (port_bytes (book_of v)) ports₀ p

    pub index_filled : 6 * length (book_of v) ≤ length index₀ → index ≡ traced_into (index_bytes (book_of v)) index₀
    unfolding index_from
    index_filled i =
        ap (λ (xs : List BookCircuit). sets index (6 * circuits) (index_from hops xs)) (sym none) ∙ f.index_bytes_lem
        ∙ written_whole (index_bytes (book_of v)) index₀ (omega (arith, index_length 0 (book_of v), i))
