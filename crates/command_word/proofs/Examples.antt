-- Examples 8, and what is seen of each of the sixteen commands: the definitions compute to what they say.
-- Assumes nothing.
use Rattle.std.specs.Prelude.{◌≡◌, refl, List, [], ◌∷◌, map, ℕ, ◌+◌, ◌*◌, eqb, length}
use Rattle.common.specs.Lists.{keep, from}
use Rattle.common.specs.Tests.{Test, refusal}
use Rattle.command_word.specs.Commands.{commands, values_in, values, reserved}
use Rattle.command_word.specs.Word.{WordRead, WordWritten, read_tests, reading, read_word, write_tests, writing, write_word}

abbrev read : ℕ → ℕ → ℕ → WordRead
read n c k = record { number = n; command = c; carried = k }

abbrev written : ℕ → ℕ → WordWritten
written n w = record { number = n; word = w }

-- Examples 8: the words that are read,
example_8_read : map read_word (2175 ∷ 2437 ∷ 3649 ∷ 3136 ∷ 2240 ∷ []) ≡ read 0 1 0 ∷ read 0 6 5 ∷ read 0 9 1 ∷ read 17 0 0 ∷ read 18 0 0 ∷ []
unfolding refusal commands values_in values reserved read_tests reading read_word
example_8_read = refl

-- and the one that is written.
example_8_written : write_word 1 0 ≡ written 0 2112
unfolding refusal commands values_in values reserved write_tests writing write_word
example_8_written = refl

-- Words 7, Words 9: the numbers of the tests, in their order
read_numbers : (word : ℕ) → map (λ (t : Test). t.number) (read_tests word) ≡ 15 ∷ 16 ∷ 17 ∷ 18 ∷ []
unfolding read_tests
read_numbers word = refl

write_numbers : (command carried : ℕ) → map (λ (t : Test). t.number) (write_tests command carried) ≡ 18 ∷ 19 ∷ []
unfolding write_tests
write_numbers command carried = refl

-- Words 4
reserved_commands : keep reserved (from 0 16) ≡ 3 ∷ 10 ∷ 11 ∷ 15 ∷ []
unfolding keep from commands values_in values reserved
reserved_commands = refl

-- What a caller sees of a command by reading and writing words, with no look at the list of commands.
record FieldsSeen : Type 0 where
  -- what reading answers for the command in packet types 0, 1, 2 and 3
  types : List ℕ
  -- with which of the numbers 0 to 99 it is written, and what writing answers to the next number and to 65,535
  carries : List ℕ
  above : List ℕ
  -- its word with 0
  word : ℕ
  -- which numbers are read from the statuses 0, 1, 62 and 63, in the packet type of that word
  reads : List ℕ

abbrev seen : ℕ → FieldsSeen
seen c =
    let word = (write_word c 0).word in
    let carries = keep (λ k. eqb (write_word c k).number 0) (from 0 100) in
    record {
      types = map (λ type. (read_word (type * 1024 + c * 64)).number) (from 0 4);
      carries = carries;
      above = map (λ k. (write_word c k).number) (length carries ∷ 65535 ∷ []);
      word = word;
      reads = map (λ status. (read_word (word + status)).carried) (0 ∷ 1 ∷ 62 ∷ 63 ∷ []);
    }

-- Rules of Words, each by what is seen where it holds.
-- Words 2: packet types 0 and 1 give 16, the other command type 17.
abbrev type2 : List ℕ
type2 = 16 ∷ 16 ∷ 0 ∷ 17 ∷ []

abbrev type3 : List ℕ
type3 = 16 ∷ 16 ∷ 17 ∷ 0 ∷ []

-- Words 4: 18, in the type that the command goes with
abbrev reserved2 : FieldsSeen
reserved2 = record { types = 16 ∷ 16 ∷ 18 ∷ 17 ∷ []; carries = []; above = 18 ∷ 18 ∷ []; word = 0; reads = 0 ∷ 0 ∷ 0 ∷ 0 ∷ [] }

abbrev reserved3 : FieldsSeen
reserved3 = record { types = 16 ∷ 16 ∷ 17 ∷ 18 ∷ []; carries = []; above = 18 ∷ 18 ∷ []; word = 0; reads = 0 ∷ 0 ∷ 0 ∷ 0 ∷ [] }

-- Words 5: any larger number than the command carries is refused with 19, and other status bits are ignored.
abbrev carrying0 : List ℕ → ℕ → FieldsSeen
carrying0 types word = record { types = types; carries = 0 ∷ []; above = 19 ∷ 19 ∷ []; word = word; reads = 0 ∷ 0 ∷ 0 ∷ 0 ∷ [] }

abbrev carrying1 : List ℕ → ℕ → FieldsSeen
carrying1 types word = record { types = types; carries = 0 ∷ 1 ∷ []; above = 19 ∷ 19 ∷ []; word = word; reads = 0 ∷ 1 ∷ 0 ∷ 1 ∷ [] }

abbrev carrying63 : List ℕ → ℕ → FieldsSeen
carrying63 types word = record { types = types; carries = from 0 64; above = 19 ∷ 19 ∷ []; word = word; reads = 0 ∷ 1 ∷ 62 ∷ 63 ∷ [] }

-- Words 3, Words 4: commands 0 to 15 in turn.
commands_seen : map seen (from 0 16) ≡
    -- packet acknowledge, route acknowledge, route rejected
    carrying0 type2 (2 * 1024)
    ∷ carrying0 type2 (2 * 1024 + 64)
    ∷ carrying0 type2 (2 * 1024 + 2 * 64)
    ∷ reserved2
    -- receive rejected or parity error flushed back
    ∷ carrying1 type2 (2 * 1024 + 4 * 64)
    -- forwarded route rejected
    ∷ carrying0 type2 (2 * 1024 + 5 * 64)
    -- end-to-end acknowledge, end-to-end not acknowledged
    ∷ carrying63 type2 (2 * 1024 + 6 * 64)
    ∷ carrying63 type2 (2 * 1024 + 7 * 64)
    -- end of message
    ∷ carrying0 type3 (3 * 1024 + 8 * 64)
    -- end of transmission
    ∷ carrying1 type3 (3 * 1024 + 9 * 64)
    ∷ reserved3
    ∷ reserved3
    -- reset CPU, reset node
    ∷ carrying0 type3 (3 * 1024 + 12 * 64)
    ∷ carrying0 type3 (3 * 1024 + 13 * 64)
    -- flush path or parity error flushed forward
    ∷ carrying1 type3 (3 * 1024 + 14 * 64)
    ∷ reserved3
    ∷ []
unfolding keep from refusal commands values_in values reserved read_tests reading read_word write_tests writing write_word
commands_seen = refl
