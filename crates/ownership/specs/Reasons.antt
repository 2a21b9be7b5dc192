-- Why a call is stopped: each number of Refusals that a call can answer for its arguments, with its reason.
-- What these tests answer is the first number by rank whose reason holds, and 0 where none does (proved: Reasons.refused_for, first_reason). The lent table's
-- numbers, 1 to 3, come before them (OnTable); of an open, 10, 11 and 22 are the search's.
-- Of judging, the reasons of 26, 27 and 11 stand here by its tests; by rules they are in Judging.JudgingSays.
-- Assumes nothing.
use Rattle.std.specs.Prelude.{◌≡◌, ◌⊎◌, ◌≢◌, cond, true, false, List, [], map, ℕ, ◌-◌, ◌*◌, ◌^◌, ◌%◌, ◌≤◌, ◌<◌, eqb, length}
use Rattle.std.specs.List.{list_all}
use Rattle.cube.specs.Bits.{has}
use Rattle.book.specs.Book.{hop_count}
use Rattle.book.specs.WellFormed.{WellFormed}
use Rattle.judging.specs.Judged.{judge_net, circuits_in, circuit_fits, links_fit, all_links, targets_fit, target_in}
use Rattle.ownership.specs.Calls.{Call, making, blocking, unblocking, opening, closing, tracing, arming, disarming, opening_all, booking, judging, folding, CallFacts, judged_by}
use Rattle.judging.specs.Loadable.{PortOf}

pub data Reason (a : CallFacts) : Call → ℕ → Type 0 where
  -- make, Refusals 2: the dimension given is not 1 to 8
  making_dimension : {D : ℕ} → (D < 1) ⊎ (8 < D) → Reason a (making D) 2
  -- block, Refusals 4: the node is not below 2^D
  blocking_node : {n p : ℕ} → 2 ^ a.dimension ≤ n → Reason a (blocking n p) 4
  -- block, Refusals 6: the cube does not have the port
  blocking_port : {n p : ℕ} → (PortOf a.dimension a.fold p → ⊥) → Reason a (blocking n p) 6
  -- block, Refusals 13: a circuit holds the link
  blocking_held : {n p : ℕ} → a.held n p ≡ true → Reason a (blocking n p) 13
  -- unblock, Refusals 4: the node is not below 2^D
  unblocking_node : {n p : ℕ} → 2 ^ a.dimension ≤ n → Reason a (unblocking n p) 4
  -- unblock, Refusals 6: the cube does not have the port
  unblocking_port : {n p : ℕ} → (PortOf a.dimension a.fold p → ⊥) → Reason a (unblocking n p) 6
  -- open, Refusals 4: the source or the target is not below 2^D
  opening_node : {s c t y v : ℕ} → (2 ^ a.dimension ≤ s) ⊎ (2 ^ a.dimension ≤ t) → Reason a (opening s c t y v) 4
  -- open, Refusals 5: the channel is above 7
  opening_channel : {s c t y v : ℕ} → 7 < c → Reason a (opening s c t y v) 5
  -- open, Refusals 7: the type is 2, or 5 or more
  opening_type : {s c t y v : ℕ} → (y ≡ 2) ⊎ (5 ≤ y) → Reason a (opening s c t y v) 7
  -- open, Refusals 8: the vector is 0, or has a bit at or above D
  opening_vector : {s c t y v : ℕ} → (v ≡ 0) ⊎ ((p : ℕ) × (a.dimension ≤ p) × (has v p ≡ true)) → Reason a (opening s c t y v) 8
  -- open, Refusals 9: the send channel has an open circuit
  opening_in_use : {s c t y v : ℕ} → a.is_open s c ≡ true → Reason a (opening s c t y v) 9
  -- close, Refusals 4: the node is not below 2^D
  closing_node : {s c : ℕ} → 2 ^ a.dimension ≤ s → Reason a (closing s c) 4
  -- close, Refusals 5: the channel is above 7
  closing_channel : {s c : ℕ} → 7 < c → Reason a (closing s c) 5
  -- close, Refusals 12: the send channel has no open circuit
  closing_none : {s c : ℕ} → a.is_open s c ≡ false → Reason a (closing s c) 12
  -- trace, Refusals 4: the node is not below 2^D
  tracing_node : {s c : ℕ} {buffer : List ℕ} → 2 ^ a.dimension ≤ s → Reason a (tracing s c buffer) 4
  -- trace, Refusals 5: the channel is above 7
  tracing_channel : {s c : ℕ} {buffer : List ℕ} → 7 < c → Reason a (tracing s c buffer) 5
  -- trace, Refusals 12: the send channel has no open circuit
  tracing_none : {s c : ℕ} {buffer : List ℕ} → a.is_open s c ≡ false → Reason a (tracing s c buffer) 12
  -- trace, Refusals 14: the buffer has less than 9 bytes
  tracing_short : {s c : ℕ} {buffer : List ℕ} → length buffer < 9 → Reason a (tracing s c buffer) 14
  -- arm, Refusals 4 and Refusals 5: the node is not below 2^D, the channel is above 7
  arming_node : {n k : ℕ} → 2 ^ a.dimension ≤ n → Reason a (arming n k) 4
  arming_channel : {n k : ℕ} → 7 < k → Reason a (arming n k) 5
  -- disarm, Refusals 4 and Refusals 5, and then Refusals 21: a circuit holds the receive channel
  disarming_node : {n k : ℕ} → 2 ^ a.dimension ≤ n → Reason a (disarming n k) 4
  disarming_channel : {n k : ℕ} → 7 < k → Reason a (disarming n k) 5
  disarming_held : {n k : ℕ} → a.is_taken n k ≡ true → Reason a (disarming n k) 21
  -- a job, Refusals 28: the length of its list does not divide by ten, or is larger than 640
  job_length : {sends : List ℕ} → (length sends % 10 ≢ 0) ⊎ (640 < length sends) → Reason a (opening_all sends) 28
  -- a book, Refusals 23: a buffer cannot hold its part
  booking_short : {ports index : List ℕ} → (length ports < hop_count a.book) ⊎ (length index < 6 * length a.book) → Reason a (booking ports index) 23
  -- judging, Refusals 25: the book is not well formed
  judging_book : {ports index : List ℕ} {circuits hops : ℕ} → (WellFormed ports index circuits hops → ⊥) → Reason a (judging ports index circuits hops) 25
  -- judging, Refusals 26: the source, the path or the send channel of a circuit will not do
  judging_circuit : {ports index : List ℕ} {circuits hops : ℕ} → list_all (circuit_fits (judged_by a)) (circuits_in ports index circuits) ≡ false
      → Reason a (judging ports index circuits hops) 26
  -- judging, Refusals 27: a link is blocked, held or shared
  judging_link : {ports index : List ℕ} {circuits hops : ℕ} → links_fit a.free [] (all_links (judge_net (judged_by a)) (circuits_in ports index circuits)) ≡ false
      → Reason a (judging ports index circuits hops) 27
  -- judging, Refusals 11: more circuits end at a node than it has available channels
  judging_receive : {ports index : List ℕ} {circuits hops : ℕ} → targets_fit a.available [] (map (target_in (judge_net (judged_by a))) (circuits_in ports index circuits)) ≡ false
      → Reason a (judging ports index circuits hops) 11
  -- fold, Refusals 6: the mask has a bit at or above D
  folding_bits : {mask : ℕ} → (p : ℕ) × (a.dimension ≤ p) × (has mask p ≡ true) → Reason a (folding mask) 6
  -- fold, Refusals 13: a circuit holds a partner link of a dimension that would be unfolded
  folding_held : {mask : ℕ} → (p : ℕ) × (p < a.dimension) × (has a.fold p ≡ true) × (has mask p ≡ false) × ((n : ℕ) × (n < 2 ^ a.dimension) × (a.held n (17 - p) ≡ true))
      → Reason a (folding mask) 13

-- Calls 4: the order of a call's tests: by number, and 11, which of all tests only judging has (Judging 3), behind all others (32 is above every number)
abbrev pub rank : ℕ → ℕ
rank n = cond (eqb n 11) 32 n
