-- Tables 7, Tables 8: read of a circuit number that needs both its bytes.
-- Circuit 1604 is 6 · 256 + 68. It holds the link out of port 5 of node 200 and receive channel 6 of node 232. The first stands behind 1 + 256 bytes,
-- 200 rows of 16 and 5 entries of 2, at place 3,467; the second behind 1 + 256 + 4,096 bytes, 232 rows and 6 entries, at place 8,077.
-- Tables 6: of node 232 the channels 6 and 7 are armed, so 64 + 128, behind 1 + 256 + 4,096 + 4,096 bytes and 232 more, at place 8,681.
-- Assumes nothing.
use Rattle.std.specs.Prelude.{◌≡◌, refl, true, false, List, [], ◌∷◌, ◌++◌, map, ℕ, length, replicate}
use Rattle.common.specs.Lists.{from}
use Rattle.cube.specs.Bits.{has}
use Rattle.layout.specs.Layout.{ports_in, entry_at, owner_at, receiver_at, mask_number, mask_at, armed_at}

-- the bytes of such a table
abbrev pub bytes : List ℕ
bytes = replicate 3467 0 ++ 68 ∷ 6 ∷ replicate 4608 0 ++ 68 ∷ 6 ∷ replicate 602 0 ++ 192 ∷ replicate 23 0

all_bytes : length bytes ≡ 8705
all_bytes = refl

-- the entries of these two rows, and the mask of the second node
read_low_first :
    (map (owner_at bytes 200) (from 0 8) ≡ 0 ∷ 0 ∷ 0 ∷ 0 ∷ 0 ∷ 1604 ∷ 0 ∷ 0 ∷ [])
    × (map (receiver_at bytes 232) (from 0 8) ≡ 0 ∷ 0 ∷ 0 ∷ 0 ∷ 0 ∷ 0 ∷ 1604 ∷ 0 ∷ [])
unfolding from ports_in owner_at receiver_at entry_at
read_low_first = (refl, refl)

read_armed : map (armed_at bytes 232) (from 0 8) ≡ false ∷ false ∷ false ∷ false ∷ false ∷ false ∷ true ∷ true ∷ []
unfolding from ports_in armed_at mask_at mask_number has
read_armed = refl
