-- `joining::halves::set_port` meets its contract: the bit is set in each mask before the loop's, and those from it on are as they were.
use Rattle.std.proofs.Common.{◌≡◌, ◌≤◌, ◌<◌, ℕ, get_or}
use lib.Bits.{bit_or}
use Rattle.joining.proofs.halves.set_port.Given as goal

abbrev pub invariant-loop-mask : goal.invariant-loop-mask
invariant-loop-mask l = record {
  marked : (n : ℕ) → n < l.mask-index → get_or l.masks n 0 ≡ bit_or (get_or l.initial.masks n 0) l.bit;
  rest : (n : ℕ) → l.mask-index ≤ n → get_or l.masks n 0 ≡ get_or l.initial.masks n 0;
}
