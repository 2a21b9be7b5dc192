-- How many numbers a command carries.
-- Assumes nothing.
use mathlib.Core.Path.{refl}
use Prim.Native.Nat.{ℕ, ◌<◌, ◌≤◌}
use lib.Dec.{leb}
use borrow.Author.Tests.{leb-true}
use Rattle.common.proofs.Every.{at}
use Rattle.command_word.specs.Commands.{commands, values_in, values}

-- no command has more than 64 values: they fit the status
pub values_small : (c : ℕ) → c < 16 → values c ≤ 64
unfolding commands values_in values
values_small c h = leb-true _ _ (at 16 (λ c. leb (values c) 64) refl c h)
