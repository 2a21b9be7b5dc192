-- The size of a book by counting: a sound table has as many open circuits as held receive channels, and their paths have as many hops as links are held.
-- Assumes nothing.
use mathlib.Core.Path.{◌≡◌, refl, ap, ap₂, sym, ◌∙◌}
use mathlib.Core.Logic.{inl, ⊎_elim}
use mathlib.Core.Bool.{Bool, true, false, ◌&&◌, ◌||◌, not}
use mathlib.Core.List.{List, [], ◌∷◌, ◌++◌, map, append_assoc}
use Prim.Native.Nat.{ℕ, zero, suc, ◌+◌, ◌/◌, ◌%◌, ◌≤◌, ◌<◌}
use native.Mathlib.Omega.{arith}
use native.Mathlib.Nat.{zero-add, add-zero}
use lib.Dec.{eqb, leb, ltb}
use lib.ListN.{length, length-append}
use borrow.Author.Tests.{eqb-true, eq-eqb, ne_eqb, le-leb, leb-true, lt-ltb, ltb-true}
use Rattle.common.specs.Tests.{refusal}
use Rattle.common.specs.Lists.{◌∈◌, keep, from}
use Rattle.common.proofs.Lists.{keep_yes, keep_no, any_some}
use Rattle.common.proofs.Tests.{clash, is_false, both, and, or_left, or_right, either, below_or}
use Rattle.cube.specs.Cube.{largest_dimension, channels, source_of, NodeOf}
use Rattle.cube.proofs.Ports.{most_nodes}
use Rattle.layout.specs.Layout.{entry_count}
use Rattle.layout.specs.Resources.{LayoutLaws, Width}
use Rattle.paths.specs.Network.{Link, links}
use Rattle.paths.specs.CubeNetwork.{ports, circuit_count}
use Rattle.paths.proofs.Apart.{permitted_inside}
use Rattle.paths.proofs.CubeNetwork.{port_there, cube_nearing}
use Rattle.paths.proofs.HelixLinks.{length_links}
use Rattle.paths.proofs.Links.{On, link_true, true_link, permitted_distinct}
use Rattle.table.specs.TableContracts.{place_count}
use Rattle.table.specs.View.{View, view, shape_of, net, held_by}
use Rattle.table.proofs.CubeRows.{RowOf, table_row}
use Rattle.circuit_path.specs.PathOf.{path_of}
use Rattle.circuit_path.specs.OpenCircuit.{is_open_in}
use Rattle.circuit_path.specs.CircuitSound.{end_for, CircuitSound}
use Rattle.circuit_path.proofs.CircuitSound.{path_is, sound_open}
use Rattle.soundness.specs.Sound.{Nowhere, Sound}
use Rattle.soundness.specs.TableTests.{table_tests}
use Rattle.soundness.proofs.LinkCount.{link_more, links_none, links_added, same_count}
use Rattle.book.specs.Book.{BookCircuit, port_bytes, hop_count}
use Rattle.book.specs.BookOf.{open_numbers, book_of}
use Rattle.table_book.specs.Writing.{held_count, book_from, circuit_if}
use Rattle.table_book.proofs.BookFrom.{book_on_lem}
use Rattle.booking.proofs.BookStep.{book_table}

-- two tests that never pass together pass as often as either does
kept_parts : {A : Type 0} (f g h : A → Bool) (xs : List A) → ((x : A) → h x ≡ f x || g x) → ((x : A) → f x ≡ true → g x ≡ true → ⊥) → length (keep h xs) ≡ length (keep f xs) + length (keep g xs)
kept_parts f g h [] e apart = unfold keep in refl
kept_parts f g h (x ∷ xs) e apart = go (f x) (g x) refl refl (kept_parts f g h xs e apart)
  where
    go : (a b : Bool) → f x ≡ a → g x ≡ b → length (keep h xs) ≡ length (keep f xs) + length (keep g xs) → length (keep h (x ∷ xs)) ≡ length (keep f (x ∷ xs)) + length (keep g (x ∷ xs))
    go true true d c ih = absurd (apart x d c)
    go true false d c ih = rw (keep_yes h x xs (e x ∙ ap₂ ◌||◌ d c), keep_yes f x xs d, keep_no g x xs c) (omega (arith, ih))
    go false true d c ih = rw (keep_yes h x xs (e x ∙ ap₂ ◌||◌ d c), keep_no f x xs d, keep_yes g x xs c) (omega (arith, ih))
    go false false d c ih = rw (keep_no h x xs (e x ∙ ap₂ ◌||◌ d c), keep_no f x xs d, keep_no g x xs c) ih

place_parts : (q i : ℕ) (f g h : ℕ → ℕ → Bool) → ((n k : ℕ) → h n k ≡ f n k || g n k) → ((n k : ℕ) → f n k ≡ true → g n k ≡ true → ⊥) → place_count q h i ≡ place_count q f i + place_count q g i
unfolding place_count
place_parts q i f g h e apart = kept_parts (λ l. f (l / q) (l % q)) (λ l. g (l / q) (l % q)) (λ l. h (l / q) (l % q)) (from 0 i) (λ l. e (l / q) (l % q)) (λ l. apart (l / q) (l % q))

port_bytes_append : (xs ys : List BookCircuit) → port_bytes (xs ++ ys) ≡ port_bytes xs ++ port_bytes ys
unfolding port_bytes
port_bytes_append [] ys = refl
port_bytes_append (x ∷ xs) ys = ap (x.ports ++◌) (port_bytes_append xs ys) ∙ sym (append_assoc x.ports (port_bytes xs) (port_bytes ys))

-- a test that passes where another does, and nowhere else
same_test : {a b : Bool} → (a ≡ true → b ≡ true) → (b ≡ true → a ≡ true) → a ≡ b
same_test {a} {b} h k = go a b h k
  where
    go : (a b : Bool) → (a ≡ true → b ≡ true) → (b ≡ true → a ≡ true) → a ≡ b
    go true b h k = sym (h refl)
    go false true h k = k refl
    go false false h k = refl

-- a place has one of k circuits from number c on
among : (ℕ → ℕ → ℕ) → ℕ → ℕ → ℕ → ℕ → Bool
among owner c k n p = leb c (owner n p) && ltb (owner n p) (c + k)

-- where each number from c on has so many places, those of k numbers together have the sum
module _ (q : ℕ) (owner : ℕ → ℕ → ℕ) where
  none_among : (c : ℕ) → place_count q (among owner c 0) (entry_count q) ≡ 0
  unfolding among
  none_among c = same_count q (λ n p. is_false _ (λ e. let r = both (leb c (owner n p)) (ltb (owner n p) (c + 0)) e in omega (arith, leb-true c (owner n p) r.0, ltb-true (owner n p) (c + 0) r.1))) (entry_count q) ∙ links_none q (entry_count q)

  one_more : (c k : ℕ) → place_count q (among owner c (suc k)) (entry_count q) ≡ place_count q (λ n p. eqb (owner n p) c) (entry_count q) + place_count q (among owner (suc c) k) (entry_count q)
  unfolding among
  one_more c k = place_parts q (entry_count q) (λ n p. eqb (owner n p) c) (among owner (suc c) k) (among owner c (suc k)) (λ n p. split (owner n p)) (λ n p e f. apart (owner n p) (eqb-true _ c e) (both (leb (suc c) (owner n p)) _ f).0)
    where
      apart : (x : ℕ) → x ≡ c → leb (suc c) x ≡ true → ⊥
      apart x e l = omega (arith, e, leb-true (suc c) x l)

      split : (x : ℕ) → leb c x && ltb x (c + suc k) ≡ eqb x c || (leb (suc c) x && ltb x (suc c + k))
      split x = go (leb c x && ltb x (c + suc k)) (eqb x c || (leb (suc c) x && ltb x (suc c + k))) refl refl
        where
          here : eqb x c || (leb (suc c) x && ltb x (suc c + k)) ≡ true → leb c x && ltb x (c + suc k) ≡ true
          here e =
              ⊎_elim (λ f. let d = eqb-true x c f in and (le-leb c x (omega (arith, d))) (lt-ltb x (c + suc k) (omega (arith, d))))
              (λ f. let r = both (leb (suc c) x) (ltb x (suc c + k)) f in let l = leb-true (suc c) x r.0 in let m = ltb-true x (suc c + k) r.1 in and (le-leb c x (omega (arith, l))) (lt-ltb x (c + suc k) (omega (arith, m))))
              (either (eqb x c) _ e)

          there : leb c x && ltb x (c + suc k) ≡ true → eqb x c || (leb (suc c) x && ltb x (suc c + k)) ≡ true
          there e =
              let r = both (leb c x) (ltb x (c + suc k)) e in
              let l = leb-true c x r.0 in
              let m = ltb-true x (c + suc k) r.1 in
              ⊎_elim (λ low. or_left _ (eq-eqb x c (omega (arith, l, low)))) (λ high. or_right (eqb x c) (and (le-leb (suc c) x high) (lt-ltb x (suc c + k) (omega (arith, m))))) (below_or (suc c) x)

          go : (a b : Bool) → leb c x && ltb x (c + suc k) ≡ a → eqb x c || (leb (suc c) x && ltb x (suc c + k)) ≡ b → (leb c x && ltb x (c + suc k)) ≡ (eqb x c || (leb (suc c) x && ltb x (suc c + k)))
          go true b d e = d ∙ sym (there d)
          go false true d e = absurd (clash (here e) d)
          go false false d e = d ∙ sym e

  -- all of them are held
  all_among : (last : ℕ) → ((n p : ℕ) → owner n p ≤ last) → place_count q (among owner 1 last) (entry_count q) ≡ held_count q owner
  unfolding held_count among
  all_among last small = same_count q (λ n p. some (owner n p) (small n p)) (entry_count q)
    where
      nonzero : (x : ℕ) → not (eqb x 0) ≡ true → 1 ≤ x
      nonzero zero e = absurd (clash e refl)
      nonzero (suc x) e = omega arith

      some : (x : ℕ) → x ≤ last → leb 1 x && ltb x (1 + last) ≡ not (eqb x 0)
      some x l = same_test (λ e. ap not (ne_eqb x 0 (λ z. absurd (omega (arith, leb-true 1 x (both (leb 1 x) (ltb x (1 + last)) e).0))))) (λ e. and (le-leb 1 x (omega (arith, nonzero x e))) (lt-ltb x (1 + last) (omega arith)))

module _ (q : ℕ) (width : Width q) (v : View) (row : RowOf (shape_of v) q) (fits : v.dimension ≤ largest_dimension) (sound : Sound v) where
  last : ℕ
  last = circuit_count (shape_of v)

  -- the links and the receive channel of a circuit that stands
  module _ (c : ℕ) (some : 1 ≤ c) (high : c ≤ last) (s : CircuitSound v c) where
    way : List Link
    way = links (net v) (source_of c) s.path

    source_inside : NodeOf v.dimension (source_of c)
    unfolding last
    source_inside = omega (arith, some, high)

    inside : (l : Link) → l ∈ way → (l.0 < 256) × (l.1 < q) × (false ≡ false)
    inside l i =
        let r = (permitted_inside (shape_of v) (source_of c) (end_for v c s.path) s.path source_inside s.permitted).0 l.0 l.1 (unfold way On in i) in
        (omega (arith, r.0, most_nodes fits), row l.1 (port_there (shape_of v) l.1 r.1), refl)

    links_counted : place_count q (held_by v c) (entry_count q) ≡ length (path_of v c)
    unfolding way
    links_counted =
        same_count q (λ m p. same_test (λ e. link_true _ m p (s.exactly.only m p e)) (λ e. s.exactly.all m p (true_link _ m p e))) (entry_count q)
        ∙ links_added q width (λ m p. false) way (permitted_distinct (cube_nearing (shape_of v) (end_for v c s.path)) (source_of c) (ports (shape_of v)) s.path s.permitted) inside
        ∙ ap₂ ◌+◌ (links_none q (entry_count q)) (length_links (net v) (source_of c) s.path ∙ ap length (sym (path_is v c s))) ∙ zero-add _

    channel_counted : place_count channels (λ n k. eqb (v.receiver n k) c) (entry_count channels) ≡ 1
    channel_counted =
        link_more channels (inl refl) (λ n k. false) (λ n k. eqb (v.receiver n k) c) (end_for v c s.path) s.receive node_few s.small refl (eq-eqb _ c s.receives)
        (λ n k h. sym (is_false _ (λ e. h (s.once n k (eqb-true _ c e)))))
        ∙ ap suc (links_none channels (entry_count channels))
      where
        node_few : end_for v c s.path < 256
        node_few = let r = (permitted_inside (shape_of v) (source_of c) (end_for v c s.path) s.path source_inside s.permitted).1 in omega (arith, r, most_nodes fits)

  -- and those of a number that stands nowhere
  module _ (c : ℕ) (none : Nowhere v c) where
    closed : is_open_in v c ≡ false
    unfolding is_open_in
    closed = is_false _ (λ o. let held = any_some (held_by v c (source_of c)) _ o in none.0 (source_of c) held.0 (eqb-true _ c held.2))

    no_links : place_count q (held_by v c) (entry_count q) ≡ 0
    no_links = same_count q (λ m p. is_false _ (λ e. none.0 m p (eqb-true _ c e))) (entry_count q) ∙ links_none q (entry_count q)

    no_channel : place_count channels (λ n k. eqb (v.receiver n k) c) (entry_count channels) ≡ 0
    no_channel = same_count channels (λ n k. is_false _ (λ e. none.1 n k (eqb-true _ c e))) (entry_count channels) ∙ links_none channels (entry_count channels)

  -- the part of the book that has one number
  one_number : (c : ℕ) → 1 ≤ c → c ≤ last → (hop_count (circuit_if v c) ≡ place_count q (held_by v c) (entry_count q)) × (length (circuit_if v c) ≡ place_count channels (λ n k. eqb (v.receiver n k) c) (entry_count channels))
  unfolding book_from port_bytes from keep
  one_number c some high =
      ⊎_elim
      (λ none. (ap (λ xs. length (port_bytes (map (λ (n : ℕ). record { number = n; ports = path_of v n }) xs))) (keep_no (is_open_in v) c [] (closed c none)) ∙ sym (no_links c none), ap (λ (xs : List ℕ). length {A = BookCircuit} (map (λ (n : ℕ). record { number = n; ports = path_of v n }) xs)) (keep_no (is_open_in v) c [] (closed c none)) ∙ sym (no_channel c none)))
      (λ s. let open_one = keep_yes (is_open_in v) c [] (sound_open v c s) in
      (ap (λ xs. length (port_bytes (map (λ (n : ℕ). record { number = n; ports = path_of v n }) xs))) open_one ∙ length-append (path_of v c) [] ∙ add-zero _ ∙ sym (links_counted c some high s), ap (λ (xs : List ℕ). length {A = BookCircuit} (map (λ (n : ℕ). record { number = n; ports = path_of v n }) xs)) open_one ∙ sym (channel_counted c some high s)))
      (sound.numbers c (λ z. omega (arith, some, z)))

  -- and those of k numbers from c on
  counted : (k c : ℕ) → 1 ≤ c → c + k ≤ last + 1
      → (hop_count (book_from v c k) ≡ place_count q (among v.owner c k) (entry_count q)) × (length (book_from v c k) ≡ place_count channels (among v.receiver c k) (entry_count channels))
  counted zero c some high = unfold book_from port_bytes from keep in (sym (none_among q v.owner c), sym (none_among channels v.receiver c))
  counted (suc k) c some high =
      let one = one_number c some (omega (arith, high)) in
      let more = counted k (suc c) (omega arith) (omega (arith, high)) in (
        ap hop_count (book_on_lem v c k) ∙ ap length (port_bytes_append (circuit_if v c) (book_from v (suc c) k)) ∙ length-append (port_bytes (circuit_if v c)) (port_bytes (book_from v (suc c) k)) ∙ ap₂ ◌+◌ one.0 more.0 ∙ sym (one_more q v.owner c k),
        ap length (book_on_lem v c k) ∙ length-append (circuit_if v c) (book_from v (suc c) k) ∙ ap₂ ◌+◌ one.1 more.1 ∙ sym (one_more channels v.receiver c k),
      )

  -- so of the whole book
  pub book_counted : (hop_count (book_of v) ≡ held_count q v.owner) × (length (book_of v) ≡ held_count channels v.receiver)
  unfolding book_of open_numbers book_from last
  book_counted =
      let all = counted last 1 (omega arith) (omega arith) in
      (all.0 ∙ all_among q v.owner last (λ n p. sound.link_number n p), all.1 ∙ all_among channels v.receiver last (λ n k. sound.receive_number n k))

-- of a table that passes its tests
pub size_of_table : {long q enable links receives arms : ℕ} (laws : LayoutLaws long q enable links receives arms) (b : List ℕ) → 0 ≡ refusal (table_tests q b) → Sound (view b) → {circuits hops : ℕ}
    → circuits ≡ held_count channels (view b).receiver → hops ≡ held_count q (view b).owner → (circuits ≡ length (book_of (view b))) × (hops ≡ hop_count (book_of (view b)))
unfolding view
size_of_table {q = q} laws b z sound c h =
    let table = book_table laws b z in
    let counted = book_counted q laws.ports_are (view b) (table_row laws b table.0 table.1) table.1 sound in
    (c ∙ sym counted.1, h ∙ sym counted.0)
