-- Why a reading or a writing is refused: each of the numbers 15 to 19 with its reason, the earlier reasons not applying (Words 7, Words 9).
-- Assumes nothing.
use Rattle.std.specs.Prelude.{◌≡◌, ◌≢◌, ℕ, ◌≤◌, ◌<◌}
use Rattle.command_word.specs.Commands.{type_of, command_of, type_for, values}

pub data ReadReason (word : ℕ) : ℕ → Type 0 where
  -- Refusals 15: the word is above 4,095.
  too_large : 4095 < word → ReadReason word 15
  -- Refusals 16: its packet type is 0 or 1.
  no_command : word ≤ 4095 → type_of word ≤ 1 → ReadReason word 16
  -- Refusals 17: its packet type does not go with its command.
  wrong_type : word ≤ 4095 → 1 < type_of word → type_of word ≢ type_for (command_of word) → ReadReason word 17
  -- Refusals 18: the command is reserved.
  reserved_command : word ≤ 4095 → 1 < type_of word → type_of word ≡ type_for (command_of word) → values (command_of word) ≡ 0 → ReadReason word 18
  -- 0: the word reads
  readable : word ≤ 4095 → 1 < type_of word → type_of word ≡ type_for (command_of word) → values (command_of word) ≢ 0 → ReadReason word 0

pub data WriteReason (command carried : ℕ) : ℕ → Type 0 where
  -- Refusals 18: the command is reserved, in writing also above 15.
  above_15 : 15 < command → WriteReason command carried 18
  reserved_number : command ≤ 15 → values command ≡ 0 → WriteReason command carried 18
  -- Refusals 19: the command cannot carry the number.
  too_much : command ≤ 15 → values command ≢ 0 → values command ≤ carried → WriteReason command carried 19
  -- 0: the word is written
  writable : command ≤ 15 → carried < values command → WriteReason command carried 0
