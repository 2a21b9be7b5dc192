-- Packet types and commands by their numbers.
-- Assumes nothing.
use mathlib.Core.Path.{◌≡◌, refl, ap, sym, ◌∙◌}
use mathlib.Core.Logic.{◌≢◌}
use Prim.Native.Nat.{ℕ, zero, suc, ◌<◌, ◌≤◌}
use native.Mathlib.Omega.{arith}
use mathlib.Core.Logic.{⊎_elim}
use borrow.Author.Tests.{ne_eqb}
use Rattle.common.proofs.Tests.{below_or}
use Rattle.command_word.specs.declared.kinds.PacketType.{PacketType}
use Rattle.command_word.specs.declared.kinds.PacketType.TheVariants.{Address, Data, BackTrack, Forward}
use Rattle.command_word.specs.Kinds.{packet_type_number}
use Rattle.command_word.specs.Commands.{commands, values_in, values}

-- no two packet types have one number
abbrev type_with : ℕ → PacketType
type_with zero = Address
type_with (suc zero) = Data
type_with (suc (suc zero)) = BackTrack
type_with (suc (suc (suc n))) = Forward

with_number : (t : PacketType) → type_with (packet_type_number t) ≡ t
with_number Address = refl
with_number Data = refl
with_number BackTrack = refl
with_number Forward = refl

pub same_number : {s t : PacketType} → packet_type_number s ≡ packet_type_number t → s ≡ t
same_number {s} {t} e = sym (with_number s) ∙ ap type_with e ∙ with_number t

-- a number that no command has is reserved
pub no_command_has : (n : ℕ) → n ≢ 0 → n ≢ 1 → n ≢ 2 → n ≢ 4 → n ≢ 5 → n ≢ 6 → n ≢ 7 → n ≢ 8 → n ≢ 9 → n ≢ 12 → n ≢ 13 → n ≢ 14 → values n ≡ 0
unfolding commands values_in values
no_command_has n h0 h1 h2 h4 h5 h6 h7 h8 h9 h12 h13 h14 =
    rw (ne_eqb n 0 h0, ne_eqb n 1 h1, ne_eqb n 2 h2, ne_eqb n 4 h4, ne_eqb n 5 h5, ne_eqb n 6 h6, ne_eqb n 7 h7, ne_eqb n 8 h8, ne_eqb n 9 h9, ne_eqb n 12 h12, ne_eqb n 13 h13, ne_eqb n 14 h14)

pub command_small : (n : ℕ) → 0 < values n → n ≤ 15
command_small n some =
    ⊎_elim (λ l. omega arith)
    (λ (l : 16 ≤ n). absurd (let none = no_command_has n (λ e. omega arith) (λ e. omega arith) (λ e. omega arith) (λ e. omega arith) (λ e. omega arith) (λ e. omega arith) (λ e. omega arith) (λ e. omega arith) (λ e. omega arith) (λ e. omega arith) (λ e. omega arith) (λ e. omega arith) in omega arith))
    (below_or 16 n)
