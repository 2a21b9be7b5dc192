-- The book of a table, circuit number by circuit number.
-- Assumes nothing.
use mathlib.Core.Path.{◌≡◌, refl, ap, ◌∙◌}
use mathlib.Core.Bool.{Bool, true, false}
use mathlib.Core.List.{List, [], ◌∷◌, ◌++◌}
use Prim.Native.Nat.{ℕ, zero, suc, ◌+◌, ◌-◌, ◌*◌, ◌≤◌, ◌<◌}
use native.Mathlib.Nat.{zero-add}
use native.Mathlib.Numerals.{add-one}
use native.Mathlib.Omega.{arith}
use lib.ListN.{length, length-append}
use Rattle.cube.specs.Cube.{largest_dimension}
use Rattle.layout.specs.Layout.{dimension_at}
use Rattle.common.specs.Lists.{keep, from}
use Rattle.table.specs.View.{View, view}
use Rattle.circuit_path.specs.PathOf.{path_of}
use Rattle.circuit_path.specs.OpenCircuit.{is_open_in}
use Rattle.circuit_path.specs.Follow.{HasSourceIn}
use Rattle.book.specs.Book.{BookCircuit, port_bytes, hop_count}
use Rattle.book.specs.BookOf.{open_numbers, book_of}
use Rattle.table_book.specs.Writing.{last_of, book_from, circuit_if}

-- a number of a table has its source in it
pub numbered : {long : ℕ} {b : List ℕ} {c : ℕ} → length b ≡ long → dimension_at b ≤ largest_dimension → 1 ≤ c → c ≤ last_of b → HasSourceIn long b c
numbered bytes fits low high = record { bytes = bytes; fits = fits; circuit = low; source = omega arith }

-- the part of the book from a number on: its circuit, if that is open, and the part behind it
pub book_on_lem : (v : View) (c k : ℕ) → book_from v c (suc k) ≡ circuit_if v c ++ book_from v (suc c) k
unfolding book_from from keep
book_on_lem v c k = go (is_open_in v c) refl
  where
    go : (b : Bool) → is_open_in v c ≡ b → book_from v c (suc k) ≡ circuit_if v c ++ book_from v (suc c) k
    go true e = rw e
    go false e = rw e

-- the same of a number of a table, where its circuit is open and where it is not
module _ (v : View) (c last : ℕ) (h : c ≤ last) where
  abbrev pub later : List BookCircuit
  later = book_from v (c + 1) (last + 1 - (c + 1))

  pub next_open : is_open_in v c ≡ true → book_from v c (last + 1 - c) ≡ record { number = c; ports = path_of v c } ∷ later
  unfolding book_from from keep
  next_open e = let k : last + 1 - c ≡ suc (last + 1 - (c + 1)) = omega arith in rw (k, e, add-one c)

  pub next_closed : is_open_in v c ≡ false → book_from v c (last + 1 - c) ≡ later
  unfolding book_from from keep
  next_closed e = let k : last + 1 - c ≡ suc (last + 1 - (c + 1)) = omega arith in rw (k, e, add-one c)

-- none behind the last
pub book_end : (v : View) (c last : ℕ) → last < c → book_from v c (last + 1 - c) ≡ []
unfolding book_from from keep
book_end v c last h = let k : last + 1 - c ≡ 0 = omega arith in ap (book_from v c) k

-- from a number on, up to the next that is open
module _ (v : View) (last : ℕ) where
  pub skip : (n c : ℕ) → c + n ≤ last + 1 → ((k : ℕ) → c ≤ k → k < c + n → is_open_in v k ≡ false) → book_from v c (last + 1 - c) ≡ book_from v (c + n) (last + 1 - (c + n))
  skip zero c h none = let e : c + 0 ≡ c = omega arith in rw e refl
  skip (suc n) c h none =
      let e : c + 1 + n ≡ c + suc n = omega arith in
      next_closed v c last (omega arith) (none c (omega arith) (omega arith))
      ∙ skip n (c + 1) (omega arith) (λ k a b. none k (omega arith) (omega arith)) ∙ ap (λ (m : ℕ). book_from v m (last + 1 - m)) e

  pub none_open : (c : ℕ) → c ≤ last + 1 → ((k : ℕ) → c ≤ k → k < last + 1 → is_open_in v k ≡ false) → book_from v c (last + 1 - c) ≡ []
  none_open c h none =
      let e : c + (last + 1 - c) ≡ last + 1 = omega arith in
      skip (last + 1 - c) c (omega arith) (λ k a b. none k a (omega arith)) ∙ ap (λ (m : ℕ). book_from v m (last + 1 - m)) e ∙ book_end v (last + 1) last (omega arith)

  pub first_open : (c n : ℕ) → c ≤ n → n < last + 1 → is_open_in v n ≡ true → ((k : ℕ) → c ≤ k → k < n → is_open_in v k ≡ false)
      → book_from v c (last + 1 - c) ≡ record { number = n; ports = path_of v n } ∷ book_from v (n + 1) (last + 1 - (n + 1))
  first_open c n a h opens none =
      let e : c + (n - c) ≡ n = omega arith in
      skip (n - c) c (omega arith) (λ k l m. none k l (omega arith)) ∙ ap (λ (m : ℕ). book_from v m (last + 1 - m)) e ∙ next_open v n last (omega arith) opens

-- all numbers of a table
pub book_whole : (b : List ℕ) → book_from (view b) 1 (last_of b + 1 - 1) ≡ book_of (view b)
unfolding book_of open_numbers book_from view
book_whole b = let k : last_of b + 1 - 1 ≡ last_of b = omega arith in ap (book_from (view b) 1) k

-- A book while it is counted: the circuits of the numbers from c on are left.
pub record CountingBook (v : View) (last circuits hops c : ℕ) : Type 0 where
  pub few : circuits < c
  pub short : hops ≤ 9 * circuits
  pub count : circuits + length (book_from v c (last + 1 - c)) ≡ length (book_of v)
  pub sum : hops + hop_count (book_from v c (last + 1 - c)) ≡ hop_count (book_of v)

-- before the first number
pub nothing_counted : (b : List ℕ) → CountingBook (view b) (last_of b) 0 0 1
nothing_counted b =
    let whole = book_whole b in record { few = omega arith; short = omega arith; count = zero-add _ ∙ ap length whole; sum = zero-add _ ∙ ap hop_count whole }

module _ {v : View} {last circuits hops c : ℕ} (f : CountingBook v last circuits hops c) where
  -- an open circuit more, of those behind which the numbers from d on are left
  pub count_open : {i d : ℕ} → c < d → book_from v c (last + 1 - c) ≡ record { number = i; ports = path_of v i } ∷ book_from v d (last + 1 - d)
      → {more n m : ℕ} → n ≡ length (path_of v i) → n ≤ 9 → more ≡ circuits + 1 → m ≡ hops + n → CountingBook v last more m d
  unfolding port_bytes
  count_open {i} {d} h next e l q r =
      record {
        few = omega (arith, f.few);
        short = omega (arith, f.short);
        count = omega (arith, f.count, ap length next);
        sum = omega (arith, f.sum, ap hop_count next, length-append (path_of v i) (port_bytes (book_from v d (last + 1 - d))));
      }

  -- none is left
  pub all_counted : book_from v c (last + 1 - c) ≡ [] → (circuits ≡ length (book_of v)) × (hops ≡ hop_count (book_of v))
  unfolding port_bytes
  all_counted none = (omega (arith, ap length none, f.count), omega (arith, ap hop_count none, f.sum))
