-- The book of a table that agrees with a valid history is the book of the history.
-- Assumes nothing.
use mathlib.Core.Path.{◌≡◌, refl, ap, ap₂, sym, ◌∙◌}
use mathlib.Core.Bool.{true}
use mathlib.Core.List.Memᴰ
use mathlib.Core.List.{List, [], ◌∷◌, map}
use Prim.Native.Nat.{ℕ, ◌≤◌}
use native.Mathlib.Omega.{arith}
use Rattle.common.specs.Lists.{◌∈◌, keep, from}
use Rattle.common.proofs.Lists.{keep_same, keep_mem}
use Rattle.common.proofs.From.{from_mem}
use Rattle.cube.specs.Cube.{source_of, channel_of}
use Rattle.cube.proofs.Circuits.{circuit_of_parts}
use Rattle.paths.specs.CubeNetwork.{circuit_count}
use Rattle.circuit_path.specs.PathOf.{path_of}
use Rattle.circuit_path.specs.OpenCircuit.{is_open_in}
use Rattle.book.specs.BookOf.{open_numbers, book_of}
use Rattle.ownership.specs.TableFacts.{open_in}
use Rattle.ownership.specs.History.{History, shape_on, open_on, listed, book_on}
use Rattle.ownership.specs.Invariant.{Valid}
use Rattle.ownership.specs.HistoryView.{view_of}
use Rattle.ownership.proofs.OpenSame.{path_listed, open_same}

-- two functions that agree on the members of a list
map_same : {A B : Type 0} (f g : A → B) (xs : List A) → ((x : A) → x ∈ xs → f x ≡ g x) → map f xs ≡ map g xs
map_same f g [] h = refl
map_same f g (x ∷ xs) h = ap₂ ◌∷◌ (h x (Memᴰ.head refl)) (map_same f g xs (λ y m. h y (Memᴰ.tail m)))

module _ (h : History) (valid : Valid h) where
  open_number_lem : (c : ℕ) → 1 ≤ c → is_open_in (view_of h) c ≡ open_on h (source_of c) (channel_of c)
  unfolding open_in
  open_number_lem c l = ap (is_open_in (view_of h)) (sym (circuit_of_parts c l)) ∙ open_same h valid (source_of c) (channel_of c) (omega arith)

  path_number : (c : ℕ) → 1 ≤ c → open_on h (source_of c) (channel_of c) ≡ true → path_of (view_of h) c ≡ listed h.circuits (source_of c) (channel_of c)
  path_number c l o = ap (path_of (view_of h)) (sym (circuit_of_parts c l)) ∙ path_listed h valid (source_of c) (channel_of c) (omega arith) o

  pub book_same : book_of (view_of h) ≡ book_on h
  unfolding book_of book_on open_numbers view_of
  book_same =
      let numbers = from 1 (circuit_count (shape_on h)) in
      let kept = keep_same (is_open_in (view_of h)) (λ c. open_on h (source_of c) (channel_of c)) numbers (λ c m. open_number_lem c (from_mem 1 _ m).0) in
      ap (map (λ (c : ℕ). record { number = c; ports = path_of (view_of h) c })) kept
      ∙ map_same _ _ (keep (λ c. open_on h (source_of c) (channel_of c)) numbers)
      (λ c m. let r = keep_mem _ numbers m in ap (λ (w : List ℕ). record { number = c; ports = w }) (path_number c (from_mem 1 _ r.0).0 r.1))
