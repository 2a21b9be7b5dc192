-- One packet: its number and the channel after it, by what the code's branches have decided.
-- Assumes nothing.
use Rattle.std.proofs.Common.{◌≡◌, ℕ, ◌+◌, ◌%◌, ◌^◌, ◌<◌, false, not, ◌≢◌, refl, ap, ◌∙◌, arith, eq-eqb, ne_eqb}
use Rattle.common.proofs.Tests.{refused, passed, accepted}
use Rattle.command_word.specs.Word.{read_word}
use Rattle.receiver.specs.declared.Channel.{Channel}
use Rattle.receiver.specs.Receive.{Packet, data_packet, command_word, packet_tests, reading_number, packet_number, after_packet, received, one_less, after_data, stops, after_command}

-- the number of a packet, by which of its tests applies
pub unread_number : (c : Channel) (p : Packet) (n : ℕ) → n ≡ reading_number p → n ≢ 0 → packet_number c p ≡ n
unfolding packet_number packet_tests
unread_number c p n e h = rw (← e) (refused n _ (ap not (ne_eqb n 0 h)))

pub stopped_number : (c : Channel) (p : Packet) → reading_number p ≡ 0 → c.running ≡ 0 → packet_number c p ≡ 30
unfolding packet_number packet_tests
stopped_number c p e r = rw e (passed 0 _ refl ∙ refused 30 _ (eq-eqb c.running 0 r))

pub taken_number : (c : Channel) (p : Packet) → reading_number p ≡ 0 → c.running ≢ 0 → packet_number c p ≡ 0
unfolding packet_number packet_tests
taken_number c p e r = rw e (passed 0 _ refl ∙ passed 30 _ (ne_eqb c.running 0 r) ∙ accepted)

-- a packet that is refused leaves the channel, and one that is accepted is taken
refused_as : (c : Channel) (p : Packet) (n : ℕ) → packet_number c p ≡ n → n ≢ 0 → record { channel = c; number = n } ≡ received c p
unfolding received
refused_as c p n e h = rw (e, ne_eqb n 0 h)

accepted_as : (c : Channel) (p : Packet) → packet_number c p ≡ 0 → record { channel = after_packet c p; number = 0 } ≡ received c p
unfolding received
accepted_as c p e = rw e

-- Receiver 9: whatever the channel, a refused packet leaves it.
pub refused_leaves : (c : Channel) (p : Packet) → (received c p).number ≢ 0 → (received c p).channel ≡ c
unfolding received
refused_leaves c p h = rw (ne_eqb (packet_number c p) 0 h)

-- A number to which one is added, modulo 2^32, is the sum with one taken from it.
pub one_less_lem : (k r : ℕ) → r < 2 ^ 32 → k < 2 ^ 32 → (r + 1) % 2 ^ 32 ≡ k → r ≡ one_less k
one_less_lem k r h l e = omega arith

-- data
pub data_stopped : (c : Channel) → c.running ≡ 0 → record { channel = c; number = 30 } ≡ received c data_packet
unfolding reading_number
data_stopped c e = refused_as c data_packet 30 (stopped_number c data_packet refl e) (λ z. omega arith)

pub data_taken : (c d : Channel) → c.running ≢ 0 → d ≡ after_data c → record { channel = d; number = 0 } ≡ received c data_packet
unfolding reading_number after_packet
data_taken c d h e = rw e (accepted_as c data_packet (taken_number c data_packet refl h))

-- command words
pub word_unread : (c : Channel) (word n : ℕ) → n ≡ (read_word word).number → n ≢ 0 → record { channel = c; number = n } ≡ received c (command_word word)
unfolding reading_number
word_unread c word n e h = refused_as c (command_word word) n (unread_number c (command_word word) n e h) h

pub word_stopped : (c : Channel) (word : ℕ) → (read_word word).number ≡ 0 → c.running ≡ 0 → record { channel = c; number = 30 } ≡ received c (command_word word)
unfolding reading_number
word_stopped c word r e = refused_as c (command_word word) 30 (stopped_number c (command_word word) r e) (λ z. omega arith)

pub word_taken : (c d : Channel) (word command : ℕ) → (read_word word).number ≡ 0 → command ≡ (read_word word).command → c.running ≢ 0 → d ≡ after_command c command
    → record { channel = d; number = 0 } ≡ received c (command_word word)
unfolding reading_number after_packet
word_taken c d word command r k h e = rw (e, k) (accepted_as c (command_word word) (taken_number c (command_word word) r h))

-- A command that stops nothing changes nothing.
pub unchanged_by : (c : Channel) (command : ℕ) → stops c command ≡ false → c ≡ after_command c command
unfolding after_command
unchanged_by c command e = rw e
