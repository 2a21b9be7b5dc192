-- What the users rely on where two halves are joined (Promises 16), one statement for each promise. Each is the contract of a function of this crate (src/lib.rt), and is proved
-- with it.
-- Assumes nothing.
use Rattle.std.specs.Prelude.{◌≡◌, List, ℕ}
use Rattle.cube.specs.Cube.{port_count}
use Rattle.table.specs.View.{view}
use Rattle.table.specs.Encode.{AllBytes}
use Rattle.ownership.specs.History.{History}
use Rattle.ownership.specs.Invariant.{Represents}
use Rattle.joining.specs.Joined.{joined_history, join_step}
use Rattle.joining.specs.JoinSays.{JoinNumber, JoinSays}

-- Joining 2: each number comes where it should, and a refused call leaves the third as it was.
abbrev pub JoinsAnswer : Type 0
JoinsAnswer = (a b c : List ℕ) → JoinNumber a b c (join_step a b c).result.number (join_step a b c).state

-- Joining 3 to 6, Joining 9: what an accepted one leaves: the third is sound, shows what both halves show, and traces as they do.
abbrev pub JoinsSay : Type 0
JoinsSay = (a b c : List ℕ) → AllBytes a → AllBytes b → (join_step a b c).result.number ≡ 0 → JoinSays (view a).dimension a b (join_step a b c).state

-- Joining 10: the third agrees with the history of both halves.
abbrev pub JoinsAgree : Type 0
JoinsAgree =
    (a b c : List ℕ) (h g : History) → Represents port_count a h → Represents port_count b g → (join_step a b c).result.number ≡ 0
    → Represents port_count (join_step a b c).state (joined_history h g)
