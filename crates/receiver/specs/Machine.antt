-- The machine of Receiver 12, which counts without end, and what it is to agree with it.
-- Assumes nothing.
use Rattle.std.specs.Prelude.{◌≡◌, ℕ, suc, ◌+◌, ◌-◌, ◌*◌, ◌%◌, ◌^◌, ◌<◌, min, Bool, true, false, cond, ◌&&◌, ◌||◌, List, [], ◌∷◌, ◌==◌, nat_lt}
use Rattle.command_word.specs.Word.{read_word}
use Rattle.receiver.specs.declared.Channel.{Channel}
use Rattle.receiver.specs.Receive.{Packet, data_packet, command_word, started, overshoot, after_packets, packet_numbers}

-- what a channel is given at its start; of `ignores` 0 alone says that ends of message are not ignored
pub record Start : Type 0 where
  pub address : ℕ
  pub count : ℕ
  pub ignores : ℕ

-- what has happened since the start
pub record Machine : Type 0 where
  -- data packets accepted
  pub packets : ℕ
  -- the overflow mark
  pub overflowed : Bool
  pub stopped : Bool

abbrev pub at_start : Machine
at_start = record { packets = 0; overflowed = false; stopped = false }

-- a packet that ends the circuit's message or transmission for this channel: readable, command 9, or command 8 where those are not ignored
unfoldable pub is_end : Start → Packet → Bool
is_end s data_packet = false
is_end s (command_word word) =
    ((read_word word).number == 0) && cond ((read_word word).command == 9) true (cond ((read_word word).command == 8) (s.ignores == 0) false)

abbrev pub is_data : Packet → Bool
is_data data_packet = true
is_data (command_word word) = false

-- the number that a packet gets
unfoldable pub machine_number : Machine → Packet → ℕ
machine_number m data_packet = cond m.stopped 30 0
machine_number m (command_word word) = cond ((read_word word).number == 0) (cond m.stopped 30 0) (read_word word).number

-- what a packet does: a data packet that is not refused is one more, and sets the mark where as many had come as were counted
unfoldable pub next_machine : Start → Machine → Packet → Machine
next_machine s m data_packet =
    cond
    m.stopped
    m
    (record { packets = suc m.packets; overflowed = m.overflowed || (m.packets == s.count); stopped = false })
next_machine s m (command_word word) = record { packets = m.packets; overflowed = m.overflowed; stopped = m.stopped || is_end s (command_word word) }

unfoldable pub machine_after : Start → Machine → List Packet → Machine
machine_after s m [] = m
machine_after s m (p ∷ ps) = machine_after s (next_machine s m p) ps

unfoldable pub machine_numbers : Start → Machine → List Packet → List ℕ
machine_numbers s m [] = []
machine_numbers s m (p ∷ ps) = machine_number m p ∷ machine_numbers s (next_machine s m p) ps

-- of packets and their numbers: how many data packets were accepted, and whether an end was
unfoldable pub data_accepted : List Packet → List ℕ → ℕ
data_accepted (p ∷ ps) (n ∷ ns) = cond (is_data p && n == 0) 1 0 + data_accepted ps ns
data_accepted [] ns = 0
data_accepted (p ∷ ps) [] = 0

unfoldable pub end_accepted : Start → List Packet → List ℕ → Bool
end_accepted s (p ∷ ps) (n ∷ ns) = (is_end s p && n == 0) || end_accepted s ps ns
end_accepted s [] ns = false
end_accepted s (p ∷ ps) [] = false

-- A channel shows what the machine says: every field of it.
pub record Shows (s : Start) (m : Machine) (c : Channel) : Type 0 where
  -- the first address with 8 added for each data packet up to the count, modulo 2^32
  pub address : c.address ≡ (s.address + 8 * min m.packets s.count) % 2 ^ 32
  -- the count given less the data packets, modulo 2^32: with them it is the count given again
  pub count : (c.count + m.packets) % 2 ^ 32 ≡ s.count
  pub count_fits : c.count < 2 ^ 32
  pub overflow : c.overflow ≡ cond m.overflowed 1 0
  pub running : c.running ≡ cond m.stopped 0 1
  pub ignores : c.ignores ≡ cond (s.ignores == 0) 0 1

-- Receiver 12, of a start and a list of packets: the channel after the list shows the machine after it, each number is the machine's;
-- and, of the numbers themselves,
pub record AgreesWithMachine (s : Start) (ps : List Packet) (m : Machine) (c : Channel) (ns : List ℕ) : Type 0 where
  pub shows : Shows s m c
  pub answers : ns ≡ machine_numbers s at_start ps
  -- the machine has counted the data packets that were accepted
  pub counted : m.packets ≡ data_accepted ps ns
  -- the mark is set exactly when more of them came than were counted
  pub mark : m.overflowed ≡ nat_lt s.count m.packets
  -- the channel is stopped exactly after an end that was accepted
  pub ended : m.stopped ≡ end_accepted s ps ns
  -- the overshoot is how many came too many, modulo 2^32
  pub overshot : overshoot c ≡ (m.packets - s.count) % 2 ^ 32

abbrev pub AgreesAfter : Start → List Packet → Type 0
AgreesAfter s ps =
    let c = started s.address s.count s.ignores in
    AgreesWithMachine s ps (machine_after s at_start ps) (after_packets c ps) (packet_numbers c ps)
