-- What the functions that write parts of the joined table leave.
-- Assumes nothing.
use mathlib.Core.Path.{◌≡◌, refl, ap, sym, ap₂, ◌∙◌}
use mathlib.Core.List.{List}
use Prim.Native.Nat.{ℕ, ◌+◌, ◌/◌, ◌%◌, ◌*◌, ◌^◌, ◌≤◌, ◌<◌}
use native.Mathlib.Omega.{arith}
use lib.ListN.{length, take, drop, get_or}
use lib.Bits.{bit_or}
use Rattle.std.proofs.lemmas.List.{get_or-take, get_or-drop}
use borrow.Rule.Slice.PartMut.{put_mid}
use Rattle.layout.specs.Layout.{table_length, word_at, mask_place, entry_place, entry_at}
use Rattle.layout.specs.LayoutContracts.{node_rows}
use Rattle.cube.specs.Cube.{port_count}
use Rattle.layout.proofs.Entries.{entry_is, rows_word}
use Rattle.layout.proofs.Parts.{part_long, part_at, part_others}
use Rattle.joining.specs.Joined.{renumbered}
use Rattle.joining.specs.JoinContracts.{WordsFit, WordsGained, RowsFit, RowsBehind, PortSet, PortEnabled}

-- The rows of the second half lie in its bytes, and their circuits have room.
pub rows_have_room : (b : List ℕ) (part nodes : ℕ) {rows : List ℕ} → part + 4096 ≤ length b → 2 * nodes ≤ 256 → rows ≡ node_rows 8 part b 0 nodes → RowsFit part nodes b
    → (length rows ≡ 16 * nodes) × WordsFit rows (8 * nodes)
unfolding RowsFit WordsFit
rows_have_room b part nodes {rows} room most e fit = (long, words)
  where
    long : length rows ≡ 16 * nodes
    long = ap length e ∙ part_long b (entry_place 8 part 0 0) (2 * (8 * nodes)) (omega arith) ∙ omega arith

    words : (i : ℕ) → 2 * i + 1 < length rows → word_at rows (2 * i) + 8 * nodes < 65536
    words i h =
        let inside : i < 8 * nodes = omega (arith, long) in
        let word : word_at rows (2 * i) ≡ word_at b (entry_place 8 part 0 0 + 2 * i) = ap (λ ys. word_at ys (2 * i)) e ∙ rows_word 8 part b 0 nodes i inside in
        let entry = entry_is 8 b (i / 8) (i % 8) (omega arith) (omega arith) part (word_at rows (2 * i)) (entry_place 8 part 0 0 + 2 * i) (omega arith) word in
        omega (arith, entry, fit (i / 8) (i % 8) (omega arith) (omega arith))

-- So renumbering them into the part behind the first half's rows leaves them there.
pub rows_written : (second b ys : List ℕ) (part nodes : ℕ) {rows : List ℕ} {at k : ℕ} → part + 4096 ≤ length second → part + 4096 ≤ length b → 2 * nodes ≤ 256
    → rows ≡ node_rows 8 part second 0 nodes → at ≡ part + 16 * nodes → k ≡ 16 * nodes → length ys ≡ length (take k (drop at b)) → WordsGained rows (8 * nodes) ys
    → RowsBehind part nodes second b (put_mid at k b ys)
unfolding WordsGained
rows_written second b ys part nodes {rows} {at} {k} room room' most e place count same words =
    record { others = part_others at k b ys (omega arith) (entry_place 8 part nodes 0) (entry_place 8 part (2 * nodes) 0) (omega arith) (omega arith) (long ∙ sym count); entries = each }
  where
    long : length ys ≡ 16 * nodes
    long = same ∙ part_long b at k (omega arith) ∙ count

    rows_long : length rows ≡ 16 * nodes
    rows_long = ap length e ∙ part_long second (entry_place 8 part 0 0) (2 * (8 * nodes)) (omega arith) ∙ omega arith

    new : List ℕ
    new = put_mid at k b ys

    -- the word of entry i of the part, of the rows, and of the rows that they come from
    word : (i : ℕ) → i < 8 * nodes → word_at new (at + 2 * i) ≡ renumbered (8 * nodes) (word_at second (entry_place 8 part 0 0 + 2 * i))
    word i h =
        let next : at + 2 * i + 1 ≡ at + (2 * i + 1) = omega arith in
        let low = part_at at k b ys (omega arith) (2 * i) (omega (arith, long)) in
        let high = ap (λ j. get_or new j 0) next ∙ part_at at k b ys (omega arith) (2 * i + 1) (omega (arith, long)) in
        ap₂ (λ x y. x + 256 * y) low high ∙ words i (omega (arith, rows_long)) ∙ ap (renumbered (8 * nodes)) (ap (λ zs. word_at zs (2 * i)) e ∙ rows_word 8 part second 0 nodes i h)

    each : (n c : ℕ) → n < nodes → c < port_count → entry_at 8 part new (nodes + n) c ≡ renumbered (8 * nodes) (entry_at 8 part second n c)
    each n c h l =
        sym (entry_is 8 new (nodes + n) c (omega arith) l part (word_at new (at + 2 * (8 * n + c))) (at + 2 * (8 * n + c)) (omega arith) refl) ∙ word (8 * n + c) (omega arith)
        ∙ ap (renumbered (8 * nodes)) (entry_is 8 second n c (omega arith) l part (word_at second (entry_place 8 part 0 0 + 2 * (8 * n + c))) (entry_place 8 part 0 0 + 2 * (8 * n + c)) (omega arith) refl)

-- A bit set in each mask of the first nodes.
pub port_enabled : (b ys : List ℕ) (p nodes : ℕ) {k : ℕ} → nodes ≤ 256 → length b ≡ table_length → k ≡ nodes → length ys ≡ length (take k (drop 1 b)) → PortSet p (take k (drop 1 b)) ys
    → PortEnabled p nodes b (put_mid 1 k b ys)
unfolding PortSet
port_enabled b ys p nodes {k} most long count same bits =
    record { others = part_others 1 k b ys (omega arith) (mask_place 8 1 0) (mask_place 8 1 nodes) (omega arith) (omega arith) ys_long; masks = λ n h. ap (λ i. get_or (put_mid 1 k b ys) i 0) (place n) ∙ each n h ∙ ap (λ i. bit_or (get_or b i 0) (2 ^ p)) (sym (place n)) }
  where
    ys_long : length ys ≡ k
    ys_long = same ∙ part_long b 1 k (omega arith)

    place : (n : ℕ) → mask_place 8 1 n ≡ 1 + n
    place n = omega arith

    each : (n : ℕ) → n < nodes → get_or (put_mid 1 k b ys) (1 + n) 0 ≡ bit_or (get_or b (1 + n) 0) (2 ^ p)
    each n h =
        part_at 1 k b ys (omega arith) n (omega (arith, ys_long)) ∙ bits n (omega (arith, part_long b 1 k))
        ∙ ap (λ x. bit_or x (2 ^ p)) (get_or-take k (drop 1 b) n 0 (omega arith) ∙ get_or-drop 1 b n 0)
