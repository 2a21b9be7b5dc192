-- What the functions over the bytes of a table ask, answer and write. Nobody has to believe these: the proofs join them to what a table shows.
-- Assumes nothing.
use Rattle.std.specs.Prelude.{Bool, true, false, cond, ◌≡◌, List, ℕ, ◌+◌, ◌*◌, ◌/◌, ◌%◌, ◌^◌, ◌<◌, ◌≤◌, eqb, length, take, drop, get_or, set}
use Rattle.common.specs.Lists.{keep, from}
use Rattle.cube.specs.Bits.{has, with_bit}
use Rattle.cube.specs.Cube.{channels}
use Rattle.layout.specs.Layout.{wide_ports, ports_in, mask_place, mask_number, enable_part, arm_part, entry_place, link_part, receive_part, word_at}

-- the bytes after a word is written at place i
abbrev pub put_word : List ℕ → ℕ → ℕ → List ℕ
put_word b i c = set (set b i (c % 256)) (i + 1) (c / 256)

-- and after a mask is, one byte or three
unfoldable pub put_number : ℕ → List ℕ → ℕ → ℕ → List ℕ
put_number width b i x = cond (eqb width wide_ports) (set (set (set b i (x % 256)) (i + 1) (x / 256 % 256)) (i + 2) (x / 65536)) (set b i x)

-- bytes that were written between two places alone
pub record SameOutside (start end : ℕ) (old new : List ℕ) : Type 0 where
  pub before : (j : ℕ) → j < start → get_or new j 0 ≡ get_or old j 0
  pub behind : (j : ℕ) → end ≤ j → get_or new j 0 ≡ get_or old j 0

-- the bytes after one of these is written: a link or receive channel held by a circuit (0: by nobody), a link enabled or not, a channel armed or not
unfoldable pub put_entry : ℕ → ℕ → List ℕ → ℕ → ℕ → ℕ → List ℕ
put_entry width part b n k c = put_word b (entry_place width part n k) c

unfoldable pub put_owner : List ℕ → ℕ → ℕ → ℕ → List ℕ
put_owner b n p c = put_entry (ports_in b) (link_part (ports_in b)) b n p c

unfoldable pub put_receiver : List ℕ → ℕ → ℕ → ℕ → List ℕ
put_receiver b n k c = put_entry channels (receive_part (ports_in b)) b n k c

unfoldable pub put_mask : ℕ → ℕ → List ℕ → ℕ → ℕ → Bool → List ℕ
put_mask width part b n k on = put_number width b (mask_place width part n) (with_bit (mask_number width b (mask_place width part n)) k on)

unfoldable pub put_enabled : List ℕ → ℕ → ℕ → Bool → List ℕ
put_enabled b n p on = put_mask (ports_in b) (enable_part (ports_in b)) b n p on

unfoldable pub put_armed : List ℕ → ℕ → ℕ → Bool → List ℕ
put_armed b n k on = put_mask channels (arm_part (ports_in b)) b n k on

-- the rows of so many nodes, from node n on, of one part
abbrev pub node_rows : ℕ → ℕ → List ℕ → ℕ → ℕ → List ℕ
node_rows width part b n nodes = take (2 * (width * nodes)) (drop (entry_place width part n 0) b)

-- a number that has the bits of each byte of a run and no others, so that none of them is above it
pub record RunOr (run : List ℕ) (all : ℕ) : Type 0 where
  pub joined : (j p : ℕ) → j < length run → has (get_or run j 0) p ≡ true → has all p ≡ true
  pub clear : (p : ℕ) → ((j : ℕ) → j < length run → has (get_or run j 0) p ≡ false) → has all p ≡ false
  pub none_above : (j : ℕ) → j < length run → get_or run j 0 ≤ all

-- a number that has the bits of each mask of the nodes from `from` on before `to` and no others
pub record MasksOr (width part : ℕ) (b : List ℕ) (from to all : ℕ) : Type 0 where
  pub joined : (n p : ℕ) → from ≤ n → n < to → has (mask_number width b (mask_place width part n)) p ≡ true → has all p ≡ true
  pub clear : (p : ℕ) → ((n : ℕ) → from ≤ n → n < to → has (mask_number width b (mask_place width part n)) p ≡ false) → has all p ≡ false

-- Which entries of a row are circuit c's: as a vector, and how many. A row has a node's links or its receive channels.
pub record RowVector (width : ℕ) (row : List ℕ) (c vector : ℕ) : Type 0 where
  pub small : vector < 2 ^ width
  pub bits : (k : ℕ) → k < width → has vector k ≡ eqb (word_at row (2 * k)) c

unfoldable pub row_count : ℕ → List ℕ → ℕ → ℕ
row_count width row c = length (keep (λ k. eqb (word_at row (2 * k)) c) (from 0 width))
