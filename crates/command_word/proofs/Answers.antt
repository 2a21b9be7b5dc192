-- The answers of reading and writing, by what the code's branches have decided.
-- Assumes nothing.
use mathlib.Core.Path.{◌≡◌, ap, ◌∙◌}
use mathlib.Core.Bool.{false, not}
use Prim.Native.Nat.{ℕ}
use native.Mathlib.Omega.{arith}
use lib.Dec.{eqb}
use borrow.Author.Tests.{lt-ltb, le-ltb, le-leb, lt-leb, eq-eqb, ne_eqb}
use Rattle.common.specs.Tests.{refusal}
use Rattle.common.proofs.Tests.{refused, passed, accepted}
use Rattle.command_word.specs.Commands.{word_of, type_of, command_of, type_for, values, reserved}
use Rattle.command_word.specs.Word.{read_tests, carried_of, reading, no_reading, read_word, write_tests, writing, no_writing, write_word}
use Rattle.command_word.specs.Reasons.{ReadReason, too_large, no_command, wrong_type, reserved_command, readable, WriteReason, above_15, reserved_number, too_much, writable}

-- the number that the tests of reading give is the one whose reason holds
pub reason_number : (word : ℕ) {n : ℕ} → ReadReason word n → refusal (read_tests word) ≡ n
unfolding read_tests reserved
reason_number word (too_large h) = refused 15 _ (lt-ltb 4095 word h)
reason_number word (no_command h t) = passed 15 _ (le-ltb 4095 word h) ∙ refused 16 _ (le-leb (type_of word) 1 t)
reason_number word (wrong_type h t m) =
    passed 15 _ (le-ltb 4095 word h) ∙ passed 16 _ (lt-leb (type_of word) 1 t) ∙ refused 17 _ (ap not (ne_eqb _ _ m))
reason_number word (reserved_command h t m z) =
    passed 15 _ (le-ltb 4095 word h) ∙ passed 16 _ (lt-leb (type_of word) 1 t) ∙ passed 17 _ (ap not (eq-eqb _ _ m)) ∙ refused 18 _ (eq-eqb _ 0 z)
reason_number word (readable h t m z) =
    passed 15 _ (le-ltb 4095 word h) ∙ passed 16 _ (lt-leb (type_of word) 1 t) ∙ passed 17 _ (ap not (eq-eqb _ _ m)) ∙ passed 18 _ (ne_eqb _ 0 z) ∙ accepted

pub read_refused : (word : ℕ) (n : ℕ) → ReadReason word n → eqb n 0 ≡ false → no_reading n ≡ read_word word
unfolding read_word
read_refused word n r z = rw (reason_number word r, z)

pub read_accepted : (word command carried : ℕ) → ReadReason word 0 → command ≡ command_of word → carried ≡ carried_of word
    → record { number = 0; command = command; carried = carried } ≡ read_word word
unfolding read_word reading
read_accepted word command carried r e k = rw (e, k, reason_number word r)

-- the same for writing
pub write_number : (command carried : ℕ) {n : ℕ} → WriteReason command carried n → refusal (write_tests command carried) ≡ n
unfolding write_tests reserved
write_number command carried (above_15 h) = refused 18 _ (rw (lt-ltb 15 command h))
write_number command carried (reserved_number h z) = refused 18 _ (rw (le-ltb 15 command h) (eq-eqb _ 0 z))
write_number command carried (too_much h z l) =
    passed 18 _ (rw (le-ltb 15 command h) (ne_eqb _ 0 z)) ∙ refused 19 _ (le-leb (values command) carried l)
write_number command carried (writable h l) =
    passed 18 _ (rw (le-ltb 15 command h) (ne_eqb (values command) 0 (λ e. omega arith))) ∙ passed 19 _ (lt-leb (values command) carried l) ∙ accepted

pub write_refused : (command carried n : ℕ) → WriteReason command carried n → eqb n 0 ≡ false → no_writing n ≡ write_word command carried
unfolding write_word
write_refused command carried n r z = rw (write_number command carried r, z)

pub write_accepted : (command carried word : ℕ) → WriteReason command carried 0 → word ≡ word_of (type_for command) command carried
    → record { number = 0; word = word } ≡ write_word command carried
unfolding write_word writing
write_accepted command carried word r e = rw (e, write_number command carried r)
