-- Promises 12: two tables that differ, of which an open sees the same: what `SameBetween` asks of them is met where they differ outside.
-- Assumes nothing.
use mathlib.Core.Path.{◌≡◌, refl, subst}
use mathlib.Core.Logic.{⊎_elim, ◌≢◌}
use Prim.Native.Nat.{ℕ}
use native.Mathlib.Omega.{arith}
use borrow.Author.Tests.{ne_eqb}
use Rattle.common.proofs.Tests.{same?}
use Rattle.cube.specs.Bits.{bit_at}
use Rattle.paths.specs.Between.{Between}
use Rattle.table.specs.View.{held_in, set_at, set_enabled, set_armed, fresh}
use Rattle.answers.specs.SendOnTable.{state_in}
use Rattle.circuit_path.specs.OpenCircuit.{is_open_in}
use Rattle.ownership.specs.TableFacts.{open_in, taken_in}
use Rattle.ownership.specs.SameOpen.{SameBetween}
use Rattle.ownership.specs.FreedomExamples.{square, far_blocked}

-- node 2 is not between 0 and 1: it differs from both in bit 1
not_between : Between 0 1 2 → ⊥
unfolding Between bit_at
not_between b = let e : ◌≡◌ {A = ℕ} 1 0 = b 1 refl in omega (arith, e)

-- a link out of another node is as it was
elsewhere : (n p : ℕ) → n ≢ 2 → state_in square n p ≡ state_in (far_blocked square) n p
unfolding state_in held_in set_enabled set_at
elsewhere n p f = rw (ne_eqb n 2 f) refl

pub far_agrees : SameBetween 0 0 1 square (far_blocked square)
unfolding set_enabled set_armed fresh taken_in open_in is_open_in
far_agrees =
    record {
      dimension = refl;
      unfolded = refl;
      unfolded_too = refl;
      links = λ n p l i j. ⊎_elim (λ e. absurd (not_between (subst (Between 0 1) e i))) (elsewhere n p) (same? n 2);
      armed = λ k l. refl;
      held = λ k l. refl;
      send_channel = λ l. refl;
    }
