-- Reading and writing together (Promises 19).
-- Assumes nothing.
use mathlib.Core.Path.{◌≡◌, refl, ap, sym, ◌∙◌, subst}
use mathlib.Core.Logic.{◌≢◌}
use mathlib.Core.Bool.{Bool, true, false, cond}
use Prim.Native.Nat.{ℕ, ◌/◌, ◌%◌, ◌≤◌, ◌<◌}
use native.Mathlib.Omega.{arith}
use native.Mathlib.Nat.{mod-lt, mod-eq_of_lt}
use lib.Dec.{eqb, leb, ltb}
use borrow.Author.Tests.{ltb-true, ltb-false, leb-true, leb-false, eqb-true, eqb-false}
use Rattle.common.specs.Tests.{refusal}
use Rattle.command_word.specs.Commands.{word_of, type_of, command_of, status_of, type_for, end_to_end_not_acknowledged, code_of, error_of, commands, values_in, values}
use Rattle.command_word.specs.Word.{WordRead, read_tests, carried_of, reading, no_reading, read_word, write_tests, writing, no_writing, write_word, cleared}
use Rattle.command_word.specs.Reasons.{ReadReason, too_large, no_command, wrong_type, reserved_command, readable, WriteReason, above_15, reserved_number, too_much, writable}
use Rattle.command_word.proofs.Answers.{reason_number, read_accepted, write_number, write_accepted}
use Rattle.command_word.proofs.Values.{values_small}

-- each word has a reason, and each pair to be written
reason : (word : ℕ) → (n : ℕ) × ReadReason word n
reason word = go (ltb 4095 word) refl (leb (type_of word) 1) refl (eqb (type_of word) (type_for (command_of word))) refl (eqb (values (command_of word)) 0) refl
  where
    go : (a : Bool) → ltb 4095 word ≡ a → (b : Bool) → leb (type_of word) 1 ≡ b → (m : Bool) → eqb (type_of word) (type_for (command_of word)) ≡ m
        → (z : Bool) → eqb (values (command_of word)) 0 ≡ z → (n : ℕ) × ReadReason word n
    go true e b f m g z k = (15, too_large (ltb-true _ _ e))
    go false e true f m g z k = (16, no_command (ltb-false _ _ e) (leb-true _ _ f))
    go false e false f false g z k = (17, wrong_type (ltb-false _ _ e) (leb-false _ _ f) (eqb-false _ _ g))
    go false e false f true g true k = (18, reserved_command (ltb-false _ _ e) (leb-false _ _ f) (eqb-true _ _ g) (eqb-true _ _ k))
    go false e false f true g false k = (0, readable (ltb-false _ _ e) (leb-false _ _ f) (eqb-true _ _ g) (eqb-false _ _ k))

reason_to_write : (command carried : ℕ) → (n : ℕ) × WriteReason command carried n
reason_to_write command carried = go (ltb 15 command) refl (eqb (values command) 0) refl (leb (values command) carried) refl
  where
    go : (a : Bool) → ltb 15 command ≡ a → (z : Bool) → eqb (values command) 0 ≡ z → (l : Bool) → leb (values command) carried ≡ l
        → (n : ℕ) × WriteReason command carried n
    go true e z k l g = (18, above_15 (ltb-true _ _ e))
    go false e true k l g = (18, reserved_number (ltb-false _ _ e) (eqb-true _ _ k))
    go false e false k true g = (19, too_much (ltb-false _ _ e) (eqb-false _ _ k) (leb-true _ _ g))
    go false e false k false g = (0, writable (ltb-false _ _ e) (leb-false _ _ g))

-- an answer's number is what its tests give
number_read : (word : ℕ) → (read_word word).number ≡ refusal (read_tests word)
unfolding read_word reading
number_read word = go (refusal (read_tests word)) (eqb (refusal (read_tests word)) 0) refl
  where
    go : (n : ℕ) (b : Bool) → eqb n 0 ≡ b → (cond b (reading word) (no_reading n)).number ≡ n
    go n true e = sym (eqb-true n 0 e)
    go n false e = refl

number_written : (command carried : ℕ) → (write_word command carried).number ≡ refusal (write_tests command carried)
unfolding write_word writing
number_written command carried = go (refusal (write_tests command carried)) (eqb (refusal (write_tests command carried)) 0) refl
  where
    go : (n : ℕ) (b : Bool) → eqb n 0 ≡ b → (cond b (writing command carried) (no_writing n)).number ≡ n
    go n true e = sym (eqb-true n 0 e)
    go n false e = refl

-- Every word reads or is refused for a reason that holds, no earlier one holding: a word below 4,096 for 16, 17 or 18.
pub every_word : (word : ℕ) → ReadReason word (read_word word).number
every_word word = let r = reason word in subst (ReadReason word) (sym (number_read word ∙ reason_number word r.1)) r.1

-- And there is no other: whatever reason holds is the answer's.
pub one_reason : (word : ℕ) {n : ℕ} → ReadReason word n → (read_word word).number ≡ n
one_reason word r = number_read word ∙ reason_number word r

-- The same of a command and a number to be written.
pub every_pair : (command carried : ℕ) → WriteReason command carried (write_word command carried).number
every_pair command carried =
    let r = reason_to_write command carried in
    subst (WriteReason command carried) (sym (number_written command carried ∙ write_number command carried r.1)) r.1

pub one_write_reason : (command carried : ℕ) {n : ℕ} → WriteReason command carried n → (write_word command carried).number ≡ n
one_write_reason command carried r = number_written command carried ∙ write_number command carried r

-- a pair that is written is in the list
accepted_pair : (command carried : ℕ) → (write_word command carried).number ≡ 0 → (command ≤ 15) × (carried < values command)
accepted_pair command carried e = go (subst (WriteReason command carried) e (every_pair command carried))
  where
    go : WriteReason command carried 0 → (command ≤ 15) × (carried < values command)
    go (writable h l) = (h, l)

type_bounds : (command : ℕ) → (2 ≤ type_for command) × (type_for command ≤ 3)
type_bounds command = go (leb command 7)
  where
    go : (b : Bool) → (2 ≤ cond b 2 3) × (cond b 2 3 ≤ 3)
    go true = omega arith
    go false = omega arith

-- the fields of a word made of a type, a command and a status
module _ (t c k : ℕ) (h : c ≤ 15) (l : k < 64) where
  made_type : type_of (word_of t c k) ≡ t
  made_type = omega arith

  made_command : command_of (word_of t c k) ≡ c
  made_command = omega arith

  made_status : status_of (word_of t c k) ≡ k
  made_status = omega arith

-- Words 11.
pub written_reads_back : (command carried : ℕ) → (write_word command carried).number ≡ 0
    → read_word (write_word command carried).word ≡ record { number = 0; command = command; carried = carried }
written_reads_back command carried e =
    rw (← write_accepted command carried word (writable h l) refl)
    (sym (read_accepted word command carried (readable (omega (arith, h, fits, type_bounds command)) (omega (arith, h, fits, type_bounds command)) goes some) (sym command_is) (sym carried_is)))
  where
    h : command ≤ 15
    h = (accepted_pair command carried e).0

    l : carried < values command
    l = (accepted_pair command carried e).1

    fits : carried < 64
    fits = omega (arith, values_small command (omega (arith, h)), l)

    word : ℕ
    word = word_of (type_for command) command carried

    command_is : command_of word ≡ command
    command_is = made_command (type_for command) command carried h fits

    goes : type_of word ≡ type_for (command_of word)
    goes = made_type (type_for command) command carried h fits ∙ ap type_for (sym command_is)

    some : values (command_of word) ≢ 0
    some z = omega (arith, l, sym (ap values command_is) ∙ z)

    carried_is : carried_of word ≡ carried
    carried_is = rw (command_is, made_status (type_for command) command carried h fits) (mod-eq_of_lt l)

-- a word that reads has the fields of a command in the list
accepted_word : (word : ℕ) → (read_word word).number ≡ 0 → ReadReason word 0
accepted_word word e = subst (ReadReason word) e (every_word word)

-- Words 12.
pub read_writes_cleared : (word : ℕ) → (read_word word).number ≡ 0
    → write_word (read_word word).command (read_word word).carried ≡ record { number = 0; word = cleared word }
unfolding cleared
read_writes_cleared word e = go (accepted_word word e)
  where
    go : ReadReason word 0 → write_word (read_word word).command (read_word word).carried ≡ record { number = 0; word = cleared word }
    go (readable h t m z) =
        let k : ℕ = carried_of word in
        let below : k < values (command_of word) = mod-lt _ (omega arith) in
        let same : cleared word ≡ word_of (type_for (command_of word)) (command_of word) k = rw (← m) (omega arith) in
        rw (← read_accepted word (command_of word) (carried_of word) (readable h t m z) refl refl)
        (sym (write_accepted (command_of word) k (cleared word) (writable (omega arith) below) same))

-- Words 6: command 7 carries its whole status, a code above an error.
seven_carries : (word : ℕ) → command_of word ≡ end_to_end_not_acknowledged → carried_of word ≡ status_of word
unfolding commands values_in values
seven_carries word e = rw e (omega arith)

pub code_and_error : (word : ℕ) → (read_word word).number ≡ 0 → (read_word word).command ≡ end_to_end_not_acknowledged
    → (code_of (read_word word).carried ≡ status_of word / 16) × (error_of (read_word word).carried ≡ status_of word % 16)
code_and_error word e c =
    let same = read_accepted word (command_of word) (carried_of word) (accepted_word word e) refl refl in
    let carried : (read_word word).carried ≡ status_of word = sym (ap (λ (r : WordRead). r.carried) same) ∙ seven_carries word (ap (λ (r : WordRead). r.command) same ∙ c) in
    (ap code_of carried, ap error_of carried)
