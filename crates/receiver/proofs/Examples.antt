-- Small runs of a channel, computed: the edges of the count, the address that wraps, what stops a channel, and which number comes first. Examples 21 is among them.
-- Assumes nothing.
use Rattle.std.specs.Prelude.{◌≡◌, ℕ, [], ◌∷◌, map, refl}
use Rattle.common.specs.Tests.{refusal}
use Rattle.receiver.specs.declared.Channel.{Channel}
use Rattle.receiver.specs.Receive.{data_packet, started, overflows, after_data, stops, after_command, reading_number, packet_tests, packet_number, after_packet, received, overshoot, after_packets}

abbrev state : ℕ → ℕ → ℕ → ℕ → ℕ → Channel
state address count running overflow ignores = record { address = address; count = count; running = running; overflow = overflow; ignores = ignores }

-- Count 2 from the last address but one: the second packet brings the address round to 0, the third finds count zero, sets the mark and leaves it there.
count_two : map (after_packets (started 4294967280 2 0)) ((data_packet ∷ []) ∷ (data_packet ∷ data_packet ∷ []) ∷ (data_packet ∷ data_packet ∷ data_packet ∷ []) ∷ [])
    ≡ state 4294967288 1 1 0 0 ∷ state 0 0 1 0 0 ∷ state 0 4294967295 1 1 0 ∷ []
unfolding refusal started overflows after_data reading_number packet_tests packet_number after_packet received after_packets
count_two = refl

-- Count 0: the first packet sets the mark, and the address never moves, though the count behind it is not zero.
count_zero : map (after_packets (started 64 0 1)) ((data_packet ∷ []) ∷ (data_packet ∷ data_packet ∷ []) ∷ [])
    ≡ state 64 4294967295 1 1 1 ∷ state 64 4294967294 1 1 1 ∷ []
unfolding refusal started overflows after_data reading_number packet_tests packet_number after_packet received after_packets
count_zero = refl

-- the overshoot: none while the mark is clear, whatever the count; then one, two; and 0 again where the count has wrapped whole
overshoots : map overshoot (state 0 7 1 0 0 ∷ state 0 0 1 0 0 ∷ state 0 4294967295 1 1 0 ∷ state 0 4294967294 0 1 0 ∷ state 0 0 1 1 0 ∷ [])
    ≡ 0 ∷ 0 ∷ 1 ∷ 2 ∷ 0 ∷ []
unfolding overshoot
overshoots = refl

-- commands 8, 9 and 12 where ends of message are not ignored, and where they are; any mark but 0 is set, and any `ignores` but 0 ignores
ends : map (after_command (started 8 3 0)) (8 ∷ 9 ∷ 12 ∷ []) ≡ state 8 3 0 0 0 ∷ state 8 3 0 0 0 ∷ state 8 3 1 0 0 ∷ []
unfolding started stops after_command
ends = refl

ignored_ends : map (after_command (started 8 3 256)) (8 ∷ 9 ∷ 12 ∷ []) ≡ state 8 3 1 0 1 ∷ state 8 3 0 0 1 ∷ state 8 3 1 0 1 ∷ []
unfolding started stops after_command
ignored_ends = refl

-- what reading a word answered comes before 30
running_numbers : map (λ (n : ℕ). refusal (packet_tests (state 0 0 1 0 0) n)) (0 ∷ 15 ∷ 18 ∷ []) ≡ 0 ∷ 15 ∷ 18 ∷ []
unfolding refusal packet_tests
running_numbers = refl

stopped_numbers : map (λ (n : ℕ). refusal (packet_tests (state 0 0 0 0 0) n)) (0 ∷ 15 ∷ 18 ∷ []) ≡ 30 ∷ 15 ∷ 18 ∷ []
unfolding refusal packet_tests
stopped_numbers = refl

-- a data packet to a stopped channel
stopped_data : received (state 8 3 0 0 0) data_packet ≡ record { channel = state 8 3 0 0 0; number = 30 }
unfolding refusal overflows after_data reading_number packet_tests packet_number after_packet received
stopped_data = refl
