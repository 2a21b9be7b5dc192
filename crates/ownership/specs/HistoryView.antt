-- What a table that agrees with a history shows, and its bytes.
-- Assumes nothing.
use Rattle.std.specs.Prelude.{Bool, cond, List, [], ◌∷◌, ℕ}
use Rattle.cube.specs.Cube.{circuit_of}
use Rattle.table.specs.View.{View}
use Rattle.table.specs.Encode.{encode_over}
use Rattle.ownership.specs.History.{Circuit, History, net_on, holds_link, holds_receive, enabled_on, armed_on}

-- Cube 11: the number of the first circuit that passes a test; 0, for no circuit, where none does
unfoldable pub first_circuit : (Circuit → Bool) → List Circuit → ℕ
first_circuit f [] = 0
first_circuit f (x ∷ xs) = cond (f x) (circuit_of x.source x.channel) (first_circuit f xs)

-- History 11: what a table that agrees with the history shows,
unfoldable pub view_of : History → View
view_of h =
    record {
      dimension = h.dimension;
      fold = h.fold;
      enabled = enabled_on h;
      owner = λ n p. first_circuit (holds_link (net_on h) n p) h.circuits;
      receiver = λ n k. first_circuit (holds_receive n k) h.circuits;
      armed = armed_on h;
    }

-- and its bytes (Tables 10), with q ports to a node
unfoldable pub bytes_of : ℕ → History → List ℕ
bytes_of q h = encode_over q (view_of h)
