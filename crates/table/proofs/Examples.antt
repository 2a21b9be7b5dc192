-- The table of layout/Examples, in which circuit 1604 holds a link of node 200 and a receive channel of node 232, at which two channels are armed: what
-- its bytes show, what `encode` and the calls write of it, which channel is its lowest, and what a close leaves.
-- Assumes nothing.
use Rattle.std.specs.Prelude.{◌≡◌, refl, true, false, List, [], ◌∷◌, map, ℕ, get_or, replicate}
use Rattle.common.specs.Lists.{from, lowest}
use Rattle.cube.specs.Bits.{has, flip, with_bit}
use Rattle.paths.specs.Send.{lowest_available, none_available, lowest_of}
use Rattle.layout.specs.LayoutContracts.{put_number}
use Rattle.layout.specs.Layout.{ports_in, mask_number, entry_at, owner_at, receiver_at, mask_at, armed_at}
use Rattle.layout.proofs.Examples.{bytes}
use Rattle.entries.specs.EntryContracts.{put_entry, put_owner, put_receiver, put_mask, put_armed}
use Rattle.table.specs.TableContracts.{lowest_channel}
use Rattle.table.specs.View.{View, view, set_at, available, receive, without_circuit}
use Rattle.table.specs.Encode.{bits_from, mask_of, number_bytes, mask_bytes, entry_bytes, fold_bytes, encode_over, encode}

-- what such a table shows
abbrev held : View
held =
    record {
      dimension = 8;
      fold = 0;
      enabled = λ n p. true;
      owner = set_at (λ n p. 0) 200 5 1604;
      receiver = set_at (λ n k. 0) 232 6 1604;
      armed = set_at (set_at (λ n k. false) 232 6 true) 232 7 true;
    }

-- the bytes from one entry before to one entry behind
abbrev around : List ℕ → ℕ → List ℕ
around b i = map (λ j. get_or b j 0) (from i 6)

encode_low_first : (around (encode held) 3465 ≡ 0 ∷ 0 ∷ 68 ∷ 6 ∷ 0 ∷ 0 ∷ []) × (around (encode held) 8075 ≡ 0 ∷ 0 ∷ 68 ∷ 6 ∷ 0 ∷ 0 ∷ [])
unfolding from bits_from mask_of number_bytes mask_bytes fold_bytes entry_bytes encode_over set_at
encode_low_first = (refl, refl)

encode_armed : around (encode held) 8678 ≡ 0 ∷ 0 ∷ 0 ∷ 192 ∷ 0 ∷ 0 ∷ []
unfolding from bits_from mask_of number_bytes mask_bytes fold_bytes entry_bytes encode_over set_at
encode_armed = refl

-- what these bytes show, at these entries and those beside them
view_low_first :
    (map ((view bytes).owner 200) (from 0 8) ≡ 0 ∷ 0 ∷ 0 ∷ 0 ∷ 0 ∷ 1604 ∷ 0 ∷ 0 ∷ [])
    × (map ((view bytes).receiver 232) (from 0 8) ≡ 0 ∷ 0 ∷ 0 ∷ 0 ∷ 0 ∷ 0 ∷ 1604 ∷ 0 ∷ [])
unfolding from view ports_in owner_at receiver_at entry_at
view_low_first = (refl, refl)

view_armed : map ((view bytes).armed 232) (from 0 8) ≡ false ∷ false ∷ false ∷ false ∷ false ∷ false ∷ true ∷ true ∷ []
unfolding from view ports_in armed_at mask_at mask_number has
view_armed = refl

-- what the calls write into an empty table; arming an armed channel changes nothing
abbrev written : List ℕ
written = put_armed (put_armed (put_receiver (put_owner (replicate 8705 0) 200 5 1604) 232 6 1604) 232 6 true) 232 7 true

put_low_first : written ≡ bytes
unfolding ports_in mask_number put_number put_entry put_owner put_receiver put_mask put_armed with_bit flip has
put_low_first = refl

armed_twice : (put_armed bytes 232 6 true ≡ bytes) × (get_or (put_armed bytes 232 6 false) 8681 0 ≡ 128)
unfolding ports_in mask_number put_number put_mask put_armed with_bit flip has
armed_twice = (refl, refl)

-- the lowest available channel (Searches 9): 0 is not armed, and 6 is held; none where none is armed
lowest_armed : (lowest_channel held 232 ≡ 7) × (lowest_channel held 231 ≡ 8)
unfolding lowest lowest_channel available set_at
lowest_armed = (refl, refl)

receives_lowest : (receive held 232 ≡ lowest_available 7) × (receive held 231 ≡ none_available)
unfolding lowest lowest_of receive available set_at
receives_lowest = (refl, refl)

-- Calls 15: a close disarms the circuit's channel.
closing_disarms : map ((without_circuit held 1604).armed 232) (from 0 8) ≡ false ∷ false ∷ false ∷ false ∷ false ∷ false ∷ false ∷ true ∷ []
unfolding from without_circuit set_at
closing_disarms = refl
