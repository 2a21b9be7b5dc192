-- Tables 10: the bytes of a table that shows a given view, the parts of its layout one after another.
-- Assumes nothing.
use Rattle.std.specs.Prelude.{Bool, false, cond, List, [], ◌∷◌, ◌++◌, ◌≡◌, ℕ, zero, suc, ◌+◌, ◌*◌, ◌/◌, ◌%◌, ◌^◌, ◌<◌, eqb, length, get_or}
use Rattle.cube.specs.Cube.{port_count, channels}
use Rattle.layout.specs.Layout.{wide_ports, length_of, mask_size, in_table, entry_count}
use Rattle.table.specs.View.{View}

-- a byte with bit p set where a test passes, for the w bits from p on
unfoldable pub bits_from : (ℕ → Bool) → ℕ → ℕ → ℕ
bits_from f p zero = 0
bits_from f p (suc w) = cond (f p) (2 ^ p) 0 + bits_from f (suc p) w

-- the mask of a node as a number, of enabled links or of armed channels
unfoldable pub mask_of : ℕ → (ℕ → ℕ → Bool) → ℕ → ℕ
mask_of width f n = bits_from (f n) 0 (8 * mask_size width)

-- its bytes, one or three, the low one first
unfoldable pub number_bytes : ℕ → ℕ → List ℕ
number_bytes width x = cond (eqb width wide_ports) (x % 256 ∷ x / 256 % 256 ∷ x / 65536 ∷ []) (x ∷ [])

-- Tables 3, Tables 6, Wide 4, Wide 7: the masks of k nodes from node n on
unfoldable pub mask_bytes : ℕ → (ℕ → ℕ → Bool) → ℕ → ℕ → List ℕ
mask_bytes width f n zero = []
mask_bytes width f n (suc k) = number_bytes width (mask_of width f n) ++ mask_bytes width f (suc n) k

-- Tables 4, Tables 5, Tables 7, Tables 8, Wide 5, Wide 6: circuit numbers row by row, so many entries to a row: k entries from entry i on
unfoldable pub entry_bytes : ℕ → (ℕ → ℕ → ℕ) → ℕ → ℕ → List ℕ
entry_bytes width f i zero = []
entry_bytes width f i (suc k) = f (i / width) (i % width) % 256 ∷ f (i / width) (i % width) / 256 ∷ entry_bytes width f (suc i) k

-- Wide 3: the fold mask of a wide table
unfoldable pub fold_bytes : ℕ → ℕ → List ℕ
fold_bytes q fold = cond (eqb q wide_ports) (fold ∷ []) []

-- Wide 1, Wide 2: 1 byte, in a wide table the fold mask, and then the parts in their order: the bytes of a table with so many ports to a node
unfoldable pub encode_over : ℕ → View → List ℕ
encode_over q v =
    v.dimension ∷ fold_bytes q v.fold ++ mask_bytes q v.enabled 0 256 ++ entry_bytes q v.owner 0 (entry_count q) ++ entry_bytes channels v.receiver 0 (entry_count channels) ++ mask_bytes channels v.armed 0 256

-- Tables 1, Tables 2: of a narrow table, 1 byte, 256 bytes, 4,096 bytes, 4,096 bytes and 256 bytes
abbrev pub encode : View → List ℕ
encode v = encode_over port_count v

-- every number of a list is a byte
abbrev pub AllBytes : List ℕ → Type 0
AllBytes b = (i : ℕ) → get_or b i 0 < 256

-- Where `view` and `encode` are inverse to each other: on the bytes of a table, and on the views that have room in them, with a dimension of one byte, circuit
-- numbers of two, and nothing outside 256 nodes and the entries of a row; and with nothing folded in a narrow table.
pub record BytesOver (q : ℕ) (b : List ℕ) : Type 0 where
  pub long : length b ≡ length_of q
  pub small : AllBytes b

abbrev pub Bytes : List ℕ → Type 0
Bytes b = BytesOver port_count b

pub record EntriesFit (width : ℕ) (f : ℕ → ℕ → ℕ) : Type 0 where
  pub small : (n k : ℕ) → f n k < 65536
  pub outside : (n k : ℕ) → in_table width n k ≡ false → f n k ≡ 0

pub record ViewFits (q : ℕ) (v : View) : Type 0 where
  pub dimension : v.dimension < 256
  pub fold : v.fold < 256
  pub unfolded : q ≡ port_count → v.fold ≡ 0
  pub enabled : (n p : ℕ) → in_table (8 * mask_size q) n p ≡ false → v.enabled n p ≡ false
  pub owner : EntriesFit q v.owner
  pub receiver : EntriesFit channels v.receiver
  pub armed : (n k : ℕ) → in_table channels n k ≡ false → v.armed n k ≡ false
