-- Receiver 12: every sequence of packets agrees with the machine, refused packets included.
-- Assumes nothing.
use Rattle.std.proofs.Common.{◌≡◌, ℕ, ◌+◌, ◌-◌, ◌%◌, ◌^◌, ◌<◌, ◌≤◌, Bool, true, false, cond, not, ◌&&◌, ◌||◌, eqb, List, [], ◌∷◌, sym, refl, ap, ◌∙◌, ap₂, arith, ltb-false, ltb-true, le-ltb}
use mathlib.Core.Bool.{or-false, or_assoc}
use native.Mathlib.Nat.{zero-min}
use Rattle.command_word.specs.Word.{read_word}
use Rattle.receiver.specs.declared.Channel.{Channel}
use Rattle.receiver.specs.Receive.{Packet, data_packet, command_word, started, received, overshoot, after_packets, packet_numbers}
use Rattle.receiver.specs.Machine.{Start, Machine, at_start, is_end, is_data, machine_number, next_machine, machine_after, machine_numbers, data_accepted, end_accepted, AgreesAfter}
use Rattle.receiver.proofs.Held.{Held, number_same, number_is, one_more, step_held}

-- A list of packets, from any machine and channel that hold.
module _ (s : Start) (fits : s.count < 2 ^ 32) where
  after_held : (ps : List Packet) (m : Machine) (c : Channel) → Held s m c → Held s (machine_after s m ps) (after_packets c ps)
  unfolding machine_after after_packets
  after_held [] m c h = h
  after_held (p ∷ ps) m c h = after_held ps (next_machine s m p) (received c p).channel (step_held s m c p fits h)

  numbers_same : (ps : List Packet) (m : Machine) (c : Channel) → Held s m c → packet_numbers c ps ≡ machine_numbers s m ps
  unfolding machine_numbers packet_numbers
  numbers_same [] m c h = refl
  numbers_same (p ∷ ps) m c h = ap₂ ◌∷◌ (number_is c p ∙ number_same m c p h.shows.running) (numbers_same ps (next_machine s m p) (received c p).channel (step_held s m c p fits h))

-- what the machine has counted, and whether it is stopped, told by the numbers
counts : (s : Start) (m : Machine) (p : Packet) → (next_machine s m p).packets ≡ m.packets + cond (is_data p && eqb (machine_number m p) 0) 1 0
unfolding next_machine machine_number
counts s m data_packet = go m.stopped
  where
    go : (b : Bool) → (cond b m (one_more s m)).packets ≡ m.packets + cond (eqb (cond b 30 0) 0) 1 0
    go true = omega arith
    go false = omega arith
counts s m (command_word word) = omega arith

counted_by : (s : Start) (ps : List Packet) (m : Machine) → (machine_after s m ps).packets ≡ m.packets + data_accepted ps (machine_numbers s m ps)
unfolding machine_after machine_numbers data_accepted
counted_by s [] m = omega arith
counted_by s (p ∷ ps) m = let e = counts s m p in let f = counted_by s ps (next_machine s m p) in omega arith

halts : (s : Start) (m : Machine) (p : Packet) → (next_machine s m p).stopped ≡ m.stopped || (is_end s p && eqb (machine_number m p) 0)
unfolding next_machine machine_number is_end
halts s m data_packet = go m.stopped refl
  where
    go : (b : Bool) → m.stopped ≡ b → (cond b m (one_more s m)).stopped ≡ b || false
    go true e = e
    go false e = refl
halts s m (command_word word) = go (read_word word).number (eqb (read_word word).number 0) refl m.stopped _
  where
    go : (r : ℕ) (x : Bool) → eqb r 0 ≡ x → (b end : Bool) → b || (x && end) ≡ b || ((x && end) && eqb (cond x (cond b 30 0) r) 0)
    go r x e true end = refl
    go r true e false true = refl
    go r true e false false = refl
    go r false e false end = refl

ended_by : (s : Start) (ps : List Packet) (m : Machine) → (machine_after s m ps).stopped ≡ m.stopped || end_accepted s ps (machine_numbers s m ps)
unfolding machine_after machine_numbers end_accepted
ended_by s [] m = sym (or-false m.stopped)
ended_by s (p ∷ ps) m = ended_by s ps (next_machine s m p) ∙ ap (◌|| end_accepted s ps (machine_numbers s (next_machine s m p) ps)) (halts s m p) ∙ or_assoc m.stopped _ _

-- the overshoot of a channel that holds
overshot_by : (s : Start) (m : Machine) (c : Channel) → s.count < 2 ^ 32 → Held s m c → overshoot c ≡ (m.packets - s.count) % 2 ^ 32
unfolding overshoot
overshot_by s m c fits h = go m.overflowed refl
  where
    over : (b : Bool) → m.overflowed ≡ b → c.overflow ≡ cond b 1 0
    over b e = h.shows.overflow ∙ ap (λ (b : Bool). cond b 1 0) e

    go : (b : Bool) → m.overflowed ≡ b → overshoot c ≡ (m.packets - s.count) % 2 ^ 32
    go true e =
        let more : s.count < m.packets = ltb-true _ _ (sym h.mark ∙ e) in
        let k : c.count < 2 ^ 32 = h.shows.count_fits in
        let l : (c.count + m.packets) % 2 ^ 32 ≡ s.count = h.shows.count in
        rw (over true e) (omega arith)
    go false e =
        let most : m.packets ≤ s.count = ltb-false _ _ (sym h.mark ∙ e) in
        rw (over false e) (omega arith)

-- a channel at its start
fresh_held : (s : Start) → s.address < 2 ^ 32 → s.count < 2 ^ 32 → Held s at_start (started s.address s.count s.ignores)
unfolding started
fresh_held s a g =
    record {
      shows = record { address = rw zero-min (omega arith); count = omega arith; count_fits = g; overflow = refl; running = refl; ignores = flags (eqb s.ignores 0) };
      mark = sym (le-ltb s.count 0 (omega arith));
    }
  where
    flags : (b : Bool) → ◌≡◌ {A = ℕ} (cond (not b) 1 0) (cond b 0 1)
    flags true = refl
    flags false = refl

-- Every sequence of packets agrees with the machine, refused packets included, however long it is.
pub every_sequence_agrees : (s : Start) → s.address < 2 ^ 32 → s.count < 2 ^ 32 → (ps : List Packet) → AgreesAfter s ps
every_sequence_agrees s a g ps =
    let c = started s.address s.count s.ignores in
    let h = fresh_held s a g in
    let last = after_held s g ps at_start c h in
    let same = numbers_same s g ps at_start c h in
    record {
      shows = last.shows;
      answers = same;
      counted = let e = counted_by s ps at_start in let f = ap (data_accepted ps) same in omega arith;
      mark = last.mark;
      ended = ended_by s ps at_start ∙ ap (end_accepted s ps) (sym same);
      overshot = overshot_by s (machine_after s at_start ps) (after_packets c ps) g last;
    }
