-- Where each value lies in the bytes of a table, the narrow one (Tables) and the wide one (Wide), and how it is read there.
-- No other definition knows an offset, and no code outside this crate has one as a number.
-- A table tells by its length which of the two it is. Each place is a function of q, the ports of a node: 8 or 18.
-- Assumes nothing.
use Rattle.std.specs.Prelude.{Bool, cond, ◌&&◌, List, ℕ, ◌+◌, ◌*◌, ◌/◌, eqb, ltb, length, get_or}
use Rattle.cube.specs.Bits.{has}
use Rattle.cube.specs.Cube.{port_count, channels}

-- Wide 4, Wide 5: a node of a wide table has 18 ports.
abbrev pub wide_ports : ℕ
wide_ports = 18

-- Tables 1 and Wide 1: how many bytes.
abbrev pub table_length : ℕ
table_length = 8705

abbrev pub wide_length : ℕ
wide_length = 14338

-- how many ports a node of a table has: that it is a wide one shows in its length
unfoldable pub ports_in : List ℕ → ℕ
ports_in b = cond (eqb (length b) wide_length) wide_ports port_count

-- Tables 8: a table has room for 256 nodes, each with so many ports, or receive channels.
abbrev pub in_table : ℕ → ℕ → ℕ → Bool
in_table width n p = ltb n 256 && ltb p width

-- Tables 2, Wide 2
unfoldable pub dimension_at : List ℕ → ℕ
dimension_at b = get_or b 0 0

-- Wide 3. A narrow table has no fold mask, and nothing is folded there (Cube 3).
unfoldable pub fold_at : List ℕ → ℕ
fold_at b = cond (eqb (length b) wide_length) (get_or b 1 0) 0

-- The masks of enabled links and those of armed receive channels: two parts of the same form, each from its own place on, with a mask for each node: a byte for 8
-- ports or channels, and three for 18 ports, the low one first.
abbrev pub mask_size : ℕ → ℕ
mask_size width = (width + 7) / 8

abbrev pub mask_place : ℕ → ℕ → ℕ → ℕ
mask_place width part n = part + mask_size width * n

-- Tables 3, Wide 4: the masks of enabled links begin behind the dimension, in a wide table behind the fold mask.
abbrev pub enable_part : ℕ → ℕ
enable_part q = 1 + q / wide_ports

-- The circuits that hold links and those that hold receive channels: two parts of the same form, each from its own place on.
-- Tables 8: rows stand node by node, two bytes for each port or channel.
abbrev pub entry_place : ℕ → ℕ → ℕ → ℕ → ℕ
entry_place width part n k = part + 2 * (width * n) + 2 * k

-- a part has so many entries: 8 for each of 256 nodes, or 18
abbrev pub entry_count : ℕ → ℕ
entry_count width = 256 * width

-- Tables 4, Wide 5: behind them the circuits that hold the links,
abbrev pub link_part : ℕ → ℕ
link_part q = enable_part q + 256 * mask_size q

-- Tables 5, Wide 6: then those that hold the receive channels,
abbrev pub receive_part : ℕ → ℕ
receive_part q = link_part q + 2 * entry_count q

-- Tables 6, Wide 7: and last the masks of armed receive channels.
abbrev pub arm_part : ℕ → ℕ
arm_part q = receive_part q + 2 * entry_count channels

-- the bytes in all
abbrev pub length_of : ℕ → ℕ
length_of q = arm_part q + 256

-- Tables 7: two bytes, the low one first.
abbrev pub word_at : List ℕ → ℕ → ℕ
word_at b i = get_or b i 0 + 256 * get_or b (i + 1) 0

-- Tables 3, Tables 6, Wide 4: a mask as a number: one byte or three, the low one first.
unfoldable pub mask_number : ℕ → List ℕ → ℕ → ℕ
mask_number width b i = cond (eqb width wide_ports) (get_or b i 0 + 256 * get_or b (i + 1) 0 + 65536 * get_or b (i + 2) 0) (get_or b i 0)

-- The values at a node and a port or channel; nothing lies outside 256 nodes and the entries of a row. Tables 10: a mask shows all its bits. Wide 8: the upper 6
-- of the 24 of a wide table's enable mask are no port's.
unfoldable pub mask_at : ℕ → ℕ → List ℕ → ℕ → ℕ → Bool
mask_at width part b n k = in_table (8 * mask_size width) n k && has (mask_number width b (mask_place width part n)) k

unfoldable pub enabled_at : List ℕ → ℕ → ℕ → Bool
enabled_at b n p = mask_at (ports_in b) (enable_part (ports_in b)) b n p

unfoldable pub armed_at : List ℕ → ℕ → ℕ → Bool
armed_at b n k = mask_at channels (arm_part (ports_in b)) b n k

unfoldable pub entry_at : ℕ → ℕ → List ℕ → ℕ → ℕ → ℕ
entry_at width part b n k = cond (in_table width n k) (word_at b (entry_place width part n k)) 0

unfoldable pub owner_at : List ℕ → ℕ → ℕ → ℕ
owner_at b n p = entry_at (ports_in b) (link_part (ports_in b)) b n p

unfoldable pub receiver_at : List ℕ → ℕ → ℕ → ℕ
receiver_at b n k = entry_at channels (receive_part (ports_in b)) b n k
