-- What reading and writing a word answer.
-- Assumes nothing.
use Rattle.std.specs.Prelude.{cond, not, ◌||◌, List, [], ◌∷◌, ℕ, ◌+◌, ◌*◌, ◌/◌, ◌%◌, eqb, leb, ltb, Result, Ok, Err}
use Rattle.common.specs.Tests.{Test, test, refusal}
use Rattle.common.specs.Refusals.{number_of}
use Rattle.common.specs.declared.refusal.Refusal.{Refusal}
use Rattle.command_word.specs.declared.CommandWord.{CommandWord}
use Rattle.command_word.specs.declared.Reading.{Reading}
use Rattle.command_word.specs.Commands.{word_of, type_of, command_of, status_of, type_for, values, reserved}
use Rattle.command_word.specs.Kinds.{command_number}

-- Words 8: what a reading answers: a number, the command and the number carried
pub record WordRead : Type 0 where
  pub number : ℕ
  pub command : ℕ
  pub carried : ℕ

-- Words 10: what a writing answers: a number and the word
pub record WordWritten : Type 0 where
  pub number : ℕ
  pub word : ℕ

-- Words 7: the tests of reading, in their order
unfoldable pub read_tests : ℕ → List Test
read_tests word =
    test (ltb 4095 word) 15
    ∷ test (leb (type_of word) 1) 16
    ∷ test (not (eqb (type_of word) (type_for (command_of word)))) 17
    ∷ test (reserved (command_of word)) 18
    ∷ []

-- Words 5: what the command carries stands lowest in the status. Words 8: the other status bits are ignored.
abbrev pub carried_of : ℕ → ℕ
carried_of word = status_of word % values (command_of word)

-- Words 8: 0, the command and the number carried
unfoldable pub reading : ℕ → WordRead
reading word = record { number = 0; command = command_of word; carried = carried_of word }

-- Words 8: refused, command and carried number are 0.
abbrev pub no_reading : ℕ → WordRead
no_reading number = record { number = number; command = 0; carried = 0 }

-- what reading answers
unfoldable pub read_word : ℕ → WordRead
read_word word = let number = refusal (read_tests word) in cond (eqb number 0) (reading word) (no_reading number)

-- Words 9: the tests of writing, in their order
unfoldable pub write_tests : ℕ → ℕ → List Test
write_tests command carried =
    test (ltb 15 command || reserved command) 18 ∷ test (leb (values command) carried) 19 ∷ []

-- Words 10: 0 and the word, which has the type of its command, and as its status the number carried. Refused, the word is 0. Words 11: it reads back (Theorems).
unfoldable pub writing : ℕ → ℕ → WordWritten
writing command carried = record { number = 0; word = word_of (type_for command) command carried }

abbrev pub no_writing : ℕ → WordWritten
no_writing number = record { number = number; word = 0 }

-- what writing answers
unfoldable pub write_word : ℕ → ℕ → WordWritten
write_word command carried = let number = refusal (write_tests command carried) in cond (eqb number 0) (writing command carried) (no_writing number)

-- what the code's answers tell C: the numbers of what was read or written, or of the refusal
abbrev pub read_answer : Result Reading Refusal → WordRead
read_answer (Ok r) = record { number = 0; command = command_number r.command; carried = r.carried }
read_answer (Err e) = no_reading (number_of e)

abbrev pub write_answer : Result CommandWord Refusal → WordWritten
write_answer (Ok word) = record { number = 0; word = word.0 }
write_answer (Err e) = no_writing (number_of e)

-- Words 12: the word with its ignored bits cleared: below the command, only what the command carries is left
unfoldable pub cleared : ℕ → ℕ
cleared word = word / 64 * 64 + word % 64 % values (command_of word)
