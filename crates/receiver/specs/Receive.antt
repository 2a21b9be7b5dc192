-- What a receive channel does with each packet (Receiver 1). The contracts cite `started`, `received`, `overshoot` and `followed`.
-- Assumes nothing.
use Rattle.std.specs.Prelude.{ℕ, ◌+◌, ◌-◌, ◌%◌, ◌^◌, Bool, cond, not, ◌&&◌, ◌||◌, List, [], ◌∷◌, ◌==◌, Result, Ok, Err}
use Rattle.common.specs.Tests.{Test, test, refusal}
use Rattle.common.specs.Refusals.{number_of}
use Rattle.common.specs.declared.refusal.Refusal.{Refusal}
use Rattle.command_word.specs.Commands.{end_of_message, end_of_transmission}
use Rattle.command_word.specs.Word.{read_word}
use Rattle.answers.specs.declared.Acknowledged.{Acknowledged}
use Rattle.answers.specs.declared.Rejected.{Rejected}
use Rattle.receiver.specs.declared.Channel.{Channel}
use Rattle.receiver.specs.declared.Followed.{Followed}

-- a packet's number, and the channel after it
pub record Received : Type 0 where
  pub channel : Channel
  pub number : ℕ

-- a packet, data or command
pub data Packet : Type 0 where
  data_packet : Packet
  -- any number that came as a command word
  command_word : ℕ → Packet

-- Receiver 11: a flag is a number, of which 0 alone says no.
abbrev pub is_set : ℕ → Bool
is_set flag = not (flag == 0)

abbrev pub flag : Bool → ℕ
flag b = cond b 1 0

-- Receiver 2: the address, the count and the flag given; it runs, and its mark is clear.
unfoldable pub started : ℕ → ℕ → ℕ → Channel
started address count ignores = record { address = address; count = count; running = 1; overflow = 0; ignores = flag (is_set ignores) }

-- Receiver 3, Receiver 6: 8 more, modulo 2^32
abbrev pub eight_more : ℕ → ℕ
eight_more address = (address + 8) % 2 ^ 32

-- Receiver 3, Receiver 6: 1 less, modulo 2^32
abbrev pub one_less : ℕ → ℕ
one_less count = (count + (2 ^ 32 - 1)) % 2 ^ 32

-- Receiver 4: a data packet that finds the count 0 sets the mark, which stays set.
unfoldable pub overflows : Channel → Bool
overflows c = is_set c.overflow || c.count == 0

-- Receiver 3, Receiver 5: a data packet. From the one that sets the mark on the address stands: the mark decides, since the count is not zero any more once it has
-- wrapped.
unfoldable pub after_data : Channel → Channel
after_data c =
    record {
      address = cond (overflows c) c.address (eight_more c.address);
      count = one_less c.count;
      running = c.running;
      overflow = flag (overflows c);
      ignores = c.ignores;
    }

-- Receiver 7: an end of transmission stops the channel, and an end of message unless it ignores those.
unfoldable pub stops : Channel → ℕ → Bool
stops c command = command == end_of_transmission || (command == end_of_message && c.ignores == 0)

-- A command word, by its command. Receiver 8: any other that can be read changes nothing.
unfoldable pub after_command : Channel → ℕ → Channel
after_command c command =
    record {
      address = c.address;
      count = c.count;
      running = cond (stops c command) 0 c.running;
      overflow = c.overflow;
      ignores = c.ignores;
    }

-- what reading a packet answers: data is not read
unfoldable pub reading_number : Packet → ℕ
reading_number data_packet = 0
reading_number (command_word word) = (read_word word).number

-- Receiver 9: the tests of a packet, by what its reading answered: 15 to 18, and then 30, the channel is stopped (Refusals 30).
unfoldable pub packet_tests : Channel → ℕ → List Test
packet_tests c number = test (is_set number) number ∷ test (c.running == 0) 30 ∷ []

unfoldable pub packet_number : Channel → Packet → ℕ
packet_number c p = refusal (packet_tests c (reading_number p))

-- what an accepted packet does
unfoldable pub after_packet : Channel → Packet → Channel
after_packet c data_packet = after_data c
after_packet c (command_word word) = after_command c (read_word word).command

-- Receiver 9: what a packet does, and its number; a refused one leaves the channel as it is.
unfoldable pub received : Channel → Packet → Received
received c p = record { channel = cond (packet_number c p == 0) (after_packet c p) c; number = packet_number c p }

-- what the code answers a packet: the channel after it, or a refusal, which leaves the channel as it is
abbrev pub received_as : Channel → Result Channel Refusal → Received
received_as c (Ok d) = record { channel = d; number = 0 }
received_as c (Err e) = record { channel = c; number = number_of e }

-- Receiver 10: how many doublewords came too many, modulo 2^32, read from the wrapped count: none while the mark is clear.
unfoldable pub overshoot : Channel → ℕ
overshoot c = cond (is_set c.overflow) ((2 ^ 32 - c.count) % 2 ^ 32) 0

-- Receiver 13: the channel that an open named, started. A refused open names none, and hands on its refusal.
unfoldable pub followed : Result Acknowledged Rejected → ℕ → ℕ → ℕ → Result Followed Refusal
followed (Ok a) address count ignores = Ok (record { receive = a.receive; channel = started address count ignores })
followed (Err r) address count ignores = Err r.refusal

-- a list of packets, one after another: the channel afterwards, and the number of each
unfoldable pub after_packets : Channel → List Packet → Channel
after_packets c [] = c
after_packets c (p ∷ ps) = after_packets (received c p).channel ps

unfoldable pub packet_numbers : Channel → List Packet → List ℕ
packet_numbers c [] = []
packet_numbers c (p ∷ ps) = (received c p).number ∷ packet_numbers (received c p).channel ps
