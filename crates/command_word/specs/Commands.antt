-- The fields of a command word, and the commands that exist.
-- Assumes nothing.
use Rattle.std.specs.Prelude.{Bool, cond, List, [], ◌∷◌, ℕ, suc, ◌+◌, ◌*◌, ◌/◌, ◌%◌, eqb, leb}

-- Words 1
abbrev pub word_of : ℕ → ℕ → ℕ → ℕ
word_of type command status = type * 1024 + command * 64 + status

-- the three fields of a word: 16 commands and 64 statuses fit below the type
abbrev pub type_of : ℕ → ℕ
type_of word = word / 1024

abbrev pub command_of : ℕ → ℕ
command_of word = word / 64 % 16

abbrev pub status_of : ℕ → ℕ
status_of word = word % 64

-- Words 2: commands below 8 go with type 2, the others with type 3.
abbrev pub type_for : ℕ → ℕ
type_for command = cond (leb command 7) 2 3

-- Words 3: the commands by name
abbrev pub packet_acknowledge : ℕ
packet_acknowledge = 0

abbrev pub route_acknowledge : ℕ
route_acknowledge = 1

abbrev pub route_rejected : ℕ
route_rejected = 2

abbrev pub receive_rejected : ℕ
receive_rejected = 4

abbrev pub forwarded_route_rejected : ℕ
forwarded_route_rejected = 5

abbrev pub end_to_end_acknowledge : ℕ
end_to_end_acknowledge = 6

abbrev pub end_to_end_not_acknowledged : ℕ
end_to_end_not_acknowledged = 7

abbrev pub end_of_message : ℕ
end_of_message = 8

abbrev pub end_of_transmission : ℕ
end_of_transmission = 9

abbrev pub reset_cpu : ℕ
reset_cpu = 12

abbrev pub reset_node : ℕ
reset_node = 13

abbrev pub flush_path : ℕ
flush_path = 14

-- a command that exists: its number, and the largest number that it carries
pub record Command : Type 0 where
  pub number : ℕ
  pub largest : ℕ

abbrev carrying : ℕ → ℕ → Command
carrying c l = record { number = c; largest = l }

-- Words 3: the commands, with the largest number that each carries, and what it says (Words 6). Words 4: reserved ones are not in the list.
unfoldable pub commands : List Command
commands =
    carrying packet_acknowledge 0
    ∷ carrying route_acknowledge 0
    ∷ carrying route_rejected 0
    -- 0: receive rejected; 1: parity error flushed back
    ∷ carrying receive_rejected 1
    ∷ carrying forwarded_route_rejected 0
    -- a six-bit receive code
    ∷ carrying end_to_end_acknowledge 63
    -- upper two bits a code, lower four an error
    ∷ carrying end_to_end_not_acknowledged 63
    ∷ carrying end_of_message 0
    -- 1: end-to-end is requested
    ∷ carrying end_of_transmission 1
    ∷ carrying reset_cpu 0
    ∷ carrying reset_node 0
    -- 0: flush path; 1: parity error flushed forward
    ∷ carrying flush_path 1
    ∷ []

-- Words 6: the code and the error in what command 7 carries
abbrev pub code_of : ℕ → ℕ
code_of carried = carried / 16

abbrev pub error_of : ℕ → ℕ
error_of carried = carried % 16

-- Words 5: how many numbers, from 0 upward, a command of a list carries; none where the list does not have it
unfoldable pub values_in : List Command → ℕ → ℕ
values_in [] c = 0
values_in (x ∷ xs) c = cond (eqb c x.number) (suc x.largest) (values_in xs c)

unfoldable pub values : ℕ → ℕ
unfolding commands values_in
values c = values_in commands c

-- Words 4: a command that is not in the list
unfoldable pub reserved : ℕ → Bool
unfolding values
reserved c = eqb (values c) 0
