-- What holds of the machine and of the channel together, and that each packet keeps it.
-- Assumes nothing.
use Rattle.std.proofs.Common.{◌≡◌, ℕ, suc, ◌+◌, ◌*◌, ◌%◌, ◌^◌, ◌<◌, ◌≤◌, min, Bool, true, false, cond, ◌&&◌, ◌||◌, eqb, ltb, ◌≢◌, sym, refl, ap, ◌∙◌, arith, ltb-false, ltb-true, le-ltb, lt-ltb, eq-eqb, ne_eqb, eqb-true}
use native.Mathlib.Nat.{min-eq_left, min-eq_right}
use borrow.Author.Tests.{eqb-false}
use Rattle.command_word.specs.Word.{read_word}
use Rattle.receiver.specs.declared.Channel.{Channel}
use Rattle.receiver.specs.Receive.{Packet, data_packet, command_word, eight_more, one_less, overflows, after_data, stops, after_command, reading_number, packet_number, after_packet, received}
use Rattle.receiver.specs.Machine.{Start, Machine, is_end, machine_number, next_machine, Shows}
use Rattle.receiver.proofs.Steps.{unread_number, stopped_number, taken_number}

-- what holds of machine and channel after every packet
pub record Held (s : Start) (m : Machine) (c : Channel) : Type 0 where
  pub shows : Shows s m c
  pub mark : m.overflowed ≡ ltb s.count m.packets

-- the number of a packet
pub number_same : (m : Machine) (c : Channel) (p : Packet) → c.running ≡ cond m.stopped 0 1 → packet_number c p ≡ machine_number m p
unfolding reading_number machine_number
number_same m c data_packet e = go m.stopped e
  where
    go : (b : Bool) → c.running ≡ cond b 0 1 → packet_number c data_packet ≡ cond b 30 0
    go true r = stopped_number c data_packet refl r
    go false r = taken_number c data_packet refl (λ z. omega arith)
number_same m c (command_word word) e = go (eqb (read_word word).number 0) refl m.stopped e
  where
    go : (x : Bool) → eqb (read_word word).number 0 ≡ x → (b : Bool) → c.running ≡ cond b 0 1 → packet_number c (command_word word) ≡ cond x (cond b 30 0) (read_word word).number
    go true f true r = stopped_number c (command_word word) (eqb-true _ 0 f) r
    go true f false r = taken_number c (command_word word) (eqb-true _ 0 f) (λ z. omega arith)
    go false f b r = unread_number c (command_word word) (read_word word).number refl (eqb-false _ 0 f)

pub number_is : (c : Channel) (p : Packet) → (received c p).number ≡ packet_number c p
unfolding received
number_is c p = refl

-- the machine after a data packet that is not refused
abbrev pub one_more : Start → Machine → Machine
one_more s m = record { packets = suc m.packets; overflowed = m.overflowed || eqb m.packets s.count; stopped = false }

-- A data packet to a machine that runs.
module _ (s : Start) (m : Machine) (c : Channel) (fits : s.count < 2 ^ 32) (running : m.stopped ≡ false) (h : Held s m c) where
  -- the counter goes down; it is zero exactly where as many packets have come as were given, as long as no more have
  counts_down : (one_less c.count + suc m.packets) % 2 ^ 32 ≡ s.count
  counts_down = omega arith

  is_zero : m.packets ≡ s.count → c.count ≡ 0
  is_zero e = omega arith

  not_zero : m.packets < s.count → c.count ≢ 0
  not_zero l e = omega arith

  -- the address stands, or moves by 8
  address_stands : s.count ≤ m.packets → c.address ≡ (s.address + 8 * min (suc m.packets) s.count) % 2 ^ 32
  address_stands g =
      let l : s.count ≤ suc m.packets = omega arith in
      rw (min-eq_right l) (rw (min-eq_right g) at h.shows.address)

  moves : m.packets < s.count → eight_more c.address ≡ (s.address + 8 * min (suc m.packets) s.count) % 2 ^ 32
  moves g =
      let l : m.packets ≤ s.count = omega arith in
      let e : c.address ≡ (s.address + 8 * m.packets) % 2 ^ 32 = rw (min-eq_left l) at h.shows.address in
      rw (min-eq_left g) (omega arith)

  -- by whether the packet overflows
  data_by : (o : Bool) → overflows c ≡ o → m.overflowed || eqb m.packets s.count ≡ o → ltb s.count (suc m.packets) ≡ o
      → cond o c.address (eight_more c.address) ≡ (s.address + 8 * min (suc m.packets) s.count) % 2 ^ 32 → Held s (one_more s m) (after_data c)
  unfolding after_data
  data_by o e k l x =
      record {
        shows =
            record {
              address = ap (λ (b : Bool). cond b c.address (eight_more c.address)) e ∙ x;
              count = counts_down;
              count_fits = omega arith;
              overflow = ap (λ (b : Bool). cond b 1 0) (e ∙ sym k);
              running = h.shows.running ∙ ap (λ (b : Bool). cond b 0 1) running;
              ignores = h.shows.ignores;
            };
        mark = k ∙ sym l;
      }

  data_held : Held s (one_more s m) (after_data c)
  unfolding overflows
  data_held = go m.overflowed refl (eqb m.packets s.count) refl
    where
      n : ℕ
      n = m.packets

      g : ℕ
      g = s.count

      over : (b : Bool) → m.overflowed ≡ b → c.overflow ≡ cond b 1 0
      over b e = h.shows.overflow ∙ ap (λ (b : Bool). cond b 1 0) e

      go : (b : Bool) → m.overflowed ≡ b → (z : Bool) → eqb n g ≡ z → Held s (one_more s m) (after_data c)
      go true e z f =
          let more : g < n = ltb-true g n (sym h.mark ∙ e) in
          data_by
          true
          (rw (over true e))
          (rw e)
          (lt-ltb g (suc n) (omega arith))
          (address_stands (omega arith))
      go false e true f =
          let same : n ≡ g = eqb-true n g f in
          let zero : c.count ≡ 0 = is_zero same in
          data_by
          true
          (rw (over false e, eq-eqb c.count 0 zero))
          (rw (e, f))
          (lt-ltb g (suc n) (omega arith))
          (address_stands (omega arith))
      go false e false f =
          let most : n ≤ g = ltb-false g n (sym h.mark ∙ e) in
          let other : n ≢ g = eqb-false n g f in
          let fewer : n < g = omega arith in
          let some : c.count ≢ 0 = not_zero fewer in
          data_by
          false
          (rw (over false e, ne_eqb c.count 0 some))
          (rw (e, f))
          (le-ltb g (suc n) fewer)
          (moves fewer)

-- A packet that changes at most whether the channel runs.
stop_held : (s : Start) (m : Machine) (c : Channel) (t : Bool) (r : ℕ) → Held s m c → r ≡ cond t 0 1
    → Held s (record { packets = m.packets; overflowed = m.overflowed; stopped = t }) (record { address = c.address; count = c.count; running = r; overflow = c.overflow; ignores = c.ignores })
stop_held s m c t r h e =
    record {
      shows =
          record {
            address = h.shows.address;
            count = h.shows.count;
            count_fits = h.shows.count_fits;
            overflow = h.shows.overflow;
            running = e;
            ignores = h.shows.ignores;
          };
      mark = h.mark;
    }

-- which commands stop, said twice
same_end : (s : Start) (c : Channel) (command : ℕ) → c.ignores ≡ cond (eqb s.ignores 0) 0 1
    → stops c command ≡ cond (eqb command 9) true (cond (eqb command 8) (eqb s.ignores 0) false)
unfolding stops
same_end s c command e = rw e (go (eqb command 9) (eqb command 8) (eqb s.ignores 0))
  where
    go : (x y z : Bool) → x || (y && eqb (cond z 0 1) 0) ≡ cond x true (cond y z false)
    go true y z = refl
    go false true true = refl
    go false true false = refl
    go false false z = refl

-- One packet.
pub step_held : (s : Start) (m : Machine) (c : Channel) (p : Packet) → s.count < 2 ^ 32 → Held s m c → Held s (next_machine s m p) (received c p).channel
unfolding received machine_number next_machine is_end after_packet after_command
step_held s m c data_packet fits h = rw (number_same m c data_packet h.shows.running) (go m.stopped refl)
  where
    go : (b : Bool) → m.stopped ≡ b → Held s (cond b m (one_more s m)) (cond (eqb (cond b 30 0) 0) (after_data c) c)
    go true e = h
    go false e = data_held s m c fits e h
step_held s m c (command_word word) fits h =
    rw (number_same m c (command_word word) h.shows.running) (go (read_word word).number (eqb (read_word word).number 0) refl m.stopped refl)
  where
    end : Bool
    end = cond (eqb (read_word word).command 9) true (cond (eqb (read_word word).command 8) (eqb s.ignores 0) false)

    go : (r : ℕ) (x : Bool) → eqb r 0 ≡ x → (b : Bool) → m.stopped ≡ b
        → Held s (record { packets = m.packets; overflowed = m.overflowed; stopped = b || (x && end) }) (cond (eqb (cond x (cond b 30 0) r) 0) (after_command c (read_word word).command) c)
    go r false e true f = rw e (stop_held s m c true c.running h (h.shows.running ∙ ap (λ (b : Bool). cond b 0 1) f))
    go r false e false f = rw e (stop_held s m c false c.running h (h.shows.running ∙ ap (λ (b : Bool). cond b 0 1) f))
    go r true e true f = stop_held s m c true c.running h (h.shows.running ∙ ap (λ (b : Bool). cond b 0 1) f)
    go r true e false f =
        stop_held s m c end _ h
        (ap (λ (b : Bool). cond b 0 c.running) (same_end s c (read_word word).command h.shows.ignores)
        ∙ ap (cond end 0) (h.shows.running ∙ ap (λ (b : Bool). cond b 0 1) f))
