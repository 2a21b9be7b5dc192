-- Examples 20: two cubes of two nodes joined into one of four, computed.
-- Assumes nothing.
use Rattle.std.specs.Prelude.{◌≡◌, refl, true, false, List, [], ◌∷◌, map, ℕ}
use Rattle.common.specs.Lists.{from}
use Rattle.cube.specs.Bits.{has, bit_at}
use Rattle.cube.specs.Axes.{present, axis}
use Rattle.table.specs.View.{View}
use Rattle.paths.specs.Network.{has_link, links}
use Rattle.ownership.specs.History.{History, holds_link, holds_receive, enabled_on, armed_on}
use Rattle.ownership.specs.HistoryView.{view_of, first_circuit}
use Rattle.joining.specs.Joined.{of_halves, renumbered, at_new_port, joined_view, joined_history}

-- In the first half the link from node 1 is blocked, and a circuit goes from node 0 to node 1.
abbrev first_half : History
first_half = record { dimension = 1; fold = 0; blocked = (1, 0) ∷ []; circuits = record { source = 0; channel = 0; ports = 0 ∷ []; target = 1; receive = 2 } ∷ []; armed = (1, 2) ∷ [] }

-- In the second a circuit goes from node 1 to node 0, and channel 5 of node 1 is armed.
abbrev second_half : History
second_half = record { dimension = 1; fold = 0; blocked = []; circuits = record { source = 1; channel = 7; ports = 0 ∷ []; target = 0; receive = 0 } ∷ []; armed = (0, 0) ∷ (1, 5) ∷ [] }

-- all that a function of node and place says of four nodes, each with so many places
unfoldable rows_of : {A : Type 0} → (ℕ → ℕ → A) → ℕ → List (List A)
rows_of f k = map (λ n. map (f n) (from 0 k)) (from 0 4)

-- the history of both: nodes 0 and 1 of the second half are nodes 2 and 3 of the four
both_histories : joined_history first_half second_half
    ≡ record {
      dimension = 2;
      fold = 0;
      blocked = (1, 0) ∷ [];
      circuits = record { source = 0; channel = 0; ports = 0 ∷ []; target = 1; receive = 2 }
          ∷ record { source = 3; channel = 7; ports = 0 ∷ []; target = 2; receive = 0 }
          ∷ [];
      armed = (1, 2) ∷ (2, 0) ∷ (3, 5) ∷ [];
    }
unfolding joined_history
both_histories = refl

abbrev joined : View
joined = joined_view (view_of first_half) (view_of second_half)

-- Circuit 1 is that of channel 0 of node 0. The second half's 16 is that of channel 7 of its node 1, so 32, that of channel 7 of node 3. Port 1 is new, and free.
owners_joined : rows_of joined.owner 3 ≡ (1 ∷ 0 ∷ 0 ∷ []) ∷ (0 ∷ 0 ∷ 0 ∷ []) ∷ (0 ∷ 0 ∷ 0 ∷ []) ∷ (32 ∷ 0 ∷ 0 ∷ []) ∷ []
unfolding rows_of from joined_view of_halves view_of at_new_port renumbered first_circuit holds_link has_link links
owners_joined = refl

-- the link from node 1 is blocked as before; those of port 1 are enabled
links_enabled : rows_of joined.enabled 3 ≡ (true ∷ true ∷ false ∷ []) ∷ (false ∷ true ∷ false ∷ []) ∷ (true ∷ true ∷ false ∷ []) ∷ (true ∷ true ∷ false ∷ []) ∷ []
unfolding rows_of from joined_view of_halves view_of at_new_port enabled_on has_link present axis has bit_at
links_enabled = refl

channels_taken : rows_of joined.receiver 3 ≡ (0 ∷ 0 ∷ 0 ∷ []) ∷ (0 ∷ 0 ∷ 1 ∷ []) ∷ (32 ∷ 0 ∷ 0 ∷ []) ∷ (0 ∷ 0 ∷ 0 ∷ []) ∷ []
unfolding rows_of from joined_view of_halves view_of renumbered first_circuit holds_receive
channels_taken = refl

channels_armed : rows_of joined.armed 6 ≡ (false ∷ false ∷ false ∷ false ∷ false ∷ false ∷ []) ∷ (false ∷ false ∷ true ∷ false ∷ false ∷ false ∷ [])
    ∷ (true ∷ false ∷ false ∷ false ∷ false ∷ false ∷ []) ∷ (false ∷ false ∷ false ∷ false ∷ false ∷ true ∷ []) ∷ []
unfolding rows_of from joined_view of_halves view_of armed_on has_link
channels_armed = refl
