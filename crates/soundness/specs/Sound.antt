-- When a table is sound.
-- Assumes nothing.
use Rattle.std.specs.Prelude.{◌≡◌, ◌⊎◌, ◌≢◌, true, false, ℕ, ◌≤◌, ◌<◌}
use Rattle.cube.specs.Bits.{has}
use Rattle.paths.specs.CubeNetwork.{Node, LinkOf, circuit_count}
use Rattle.table.specs.View.{View, shape_of}
use Rattle.circuit_path.specs.CircuitSound.{CircuitSound}

-- a circuit number that stands nowhere
abbrev pub Nowhere : View → ℕ → Type 0
Nowhere v c = ((n p : ℕ) → v.owner n p ≢ c) × ((n k : ℕ) → v.receiver n k ≢ c)

-- Soundness 1: a table is sound if all of this holds of what it shows. Soundness 10: nothing is asked of how it came about.
pub record Sound (v : View) : Type 0 where
  -- Soundness 2: no fold bit is at or above D.
  pub fold_bits : (p : ℕ) → has v.fold p ≡ true → p < v.dimension
  -- Soundness 3: what the cube lacks is zero.
  pub absent_link : (n p : ℕ) → (LinkOf (shape_of v) n p → ⊥) → (v.enabled n p ≡ false) × (v.owner n p ≡ 0)
  pub absent_receive : (n k : ℕ) → (Node (shape_of v) n → ⊥) → v.receiver n k ≡ 0
  pub absent_armed : (n k : ℕ) → (Node (shape_of v) n → ⊥) → v.armed n k ≡ false
  -- Soundness 4: a held link is enabled.
  pub held_enabled : (n p : ℕ) → v.owner n p ≢ 0 → v.enabled n p ≡ true
  -- Soundness 5: a held receive channel is armed.
  pub held_armed : (n k : ℕ) → v.receiver n k ≢ 0 → v.armed n k ≡ true
  -- Soundness 6: no circuit number is above 8 · 2^D.
  pub link_number : (n p : ℕ) → v.owner n p ≤ circuit_count (shape_of v)
  pub receive_number : (n k : ℕ) → v.receiver n k ≤ circuit_count (shape_of v)
  -- Soundness 7: a number that stands anywhere is that of a circuit that holds its path and one channel (CircuitSound).
  pub numbers : (c : ℕ) → c ≢ 0 → Nowhere v c ⊎ CircuitSound v c
