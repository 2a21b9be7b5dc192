-- Whether the masks of a table fit a cube, from the or of a run of them.
-- Assumes nothing.
use mathlib.Core.Path.{◌≡◌, refl, ap, sym, ◌∙◌}
use mathlib.Core.Logic.{◌⊎◌, inl, inr}
use mathlib.Core.Bool.{Bool, true, false}
use mathlib.Core.List.{List}
use Prim.Native.Nat.{ℕ, ◌+◌, ◌-◌, ◌^◌, ◌≤◌, ◌<◌}
use native.Mathlib.Omega.{arith}
use lib.ListN.{length, take, drop, get_or}
use lib.Dec.{eqb}
use borrow.Author.Tests.{eqb-true, eqb-false}
use Rattle.common.specs.Decides.{Decides}
use Rattle.common.proofs.Tests.{decided_no, below_or, clash, is_false}
use Rattle.cube.specs.Axes.{present}
use Rattle.cube.specs.Bits.{has}
use Rattle.cube.specs.Cube.{cube_nodes}
use Rattle.cube.proofs.Bits.{zero_has, no_bit_above}
use Rattle.layout.specs.Layout.{dimension_at, fold_at, mask_place, mask_number}
use Rattle.layout.specs.LayoutContracts.{RunOr, MasksOr}
use Rattle.layout.specs.Resources.{LayoutLaws}
use Rattle.layout.proofs.Runs.{run_below, run_zero}
use Rattle.entries.specs.EntryContracts.{enable_bits, arm_bits}
use Rattle.entries.proofs.EnableBits.{enable_number, arm_byte}
use Rattle.table.specs.TableContracts.{EnablesFit, ArmsFit}
use Rattle.table.specs.View.{view}

-- the enable bits of a cube's nodes are of its ports, and the others have none
module _ {long q enable links receives arms : ℕ} (laws : LayoutLaws long q enable links receives arms) (b : List ℕ) (l : length b ≡ long) {nodes x : ℕ} (m : nodes ≡ cube_nodes (dimension_at b)) (most : nodes ≤ 256) (g : MasksOr q enable b 0 nodes x) where
  bits : (n : ℕ) → enable_bits b n ≡ mask_number q b (mask_place q enable n)
  bits n = sym (enable_number laws b n l refl refl)

  pub enables_large : (((p : ℕ) → has x p ≡ true → present (dimension_at b) (fold_at b) p ≡ true) → ⊥) → Decides (EnablesFit b) false
  unfolding EnablesFit view
  enables_large h = decided_no (λ fit. h (λ p t. there fit p t (present (dimension_at b) (fold_at b) p) refl))
    where
      there : ((n p : ℕ) → n < 256 → has (enable_bits b n) p ≡ true → (n < 2 ^ dimension_at b) × (present (dimension_at b) (fold_at b) p ≡ true)) → (p : ℕ) → has x p ≡ true → (y : Bool) → present (dimension_at b) (fold_at b) p ≡ y → y ≡ true
      there fit p t true e = refl
      there fit p t false e = absurd (clash t (g.clear p (λ n i k. is_false _ (λ y. clash (fit n p (omega arith) (ap (λ z. has z p) (bits n) ∙ y)).1 e))))

  pub enables_fit : {y : ℕ} → ((p : ℕ) → has x p ≡ true → present (dimension_at b) (fold_at b) p ≡ true) → MasksOr q enable b nodes 256 y → Decides (EnablesFit b) (eqb y 0)
  unfolding EnablesFit view
  enables_fit {y} h f = record { holds = λ z n p i t. go n p i (eqb-true y 0 z) t (below_or nodes n); fails = λ z fit. eqb-false y 0 z (none fit) }
    where
      go : (n p : ℕ) → n < 256 → y ≡ 0 → has (enable_bits b n) p ≡ true → (n < nodes) ⊎ (nodes ≤ n) → (n < 2 ^ dimension_at b) × (present (dimension_at b) (fold_at b) p ≡ true)
      go n p i z t (inl k) = (omega (arith, m), h p (g.joined n p (omega arith) k (ap (λ y. has y p) (sym (bits n)) ∙ t)))
      go n p i z t (inr k) = absurd (clash (f.joined n p k i (ap (λ y. has y p) (sym (bits n)) ∙ t)) (ap (λ y. has y p) z ∙ zero_has p))

      none : ((n p : ℕ) → n < 256 → has (enable_bits b n) p ≡ true → (n < 2 ^ dimension_at b) × (present (dimension_at b) (fold_at b) p ≡ true)) → y ≡ 0
      none fit =
          let small = no_bit_above 0 y (λ p z. f.clear p (λ n k i. is_false _ (λ t. let r = fit n p i (ap (λ z. has z p) (bits n) ∙ t) in omega (arith, m, r.0)))) in
          omega arith

-- no channel is armed from the node on that the cube lacks first
pub arms_fit : {long q enable links receives arms : ℕ} → LayoutLaws long q enable links receives arms → (b : List ℕ) (D nodes i k : ℕ) {x : ℕ} → nodes ≡ cube_nodes D → nodes ≤ 256 → length b ≡ long → i ≡ arms + nodes → k ≡ 256 - nodes → RunOr (take k (drop i b)) x
    → Decides (ArmsFit b D) (eqb x 0)
unfolding ArmsFit
arms_fit {long} {q} {enable} {links} {receives} {arms} laws b D nodes i k {x} m most l at count g =
    record {
      holds = λ e n l h. none n (omega (arith, m, l)) h (eqb-true x 0 e);
      fails = λ e fit. eqb-false x 0 e (let small = run_below b i k g (omega (arith, laws.long_is, laws.arms_is)) 0 (λ j h. rw (place j, arm (nodes + j), fit (nodes + j) (omega (arith, m)) (omega arith)) (omega arith)) in omega arith);
    }
  where
    place : (j : ℕ) → i + j ≡ arms + (nodes + j)
    place j = omega arith

    arm : (n : ℕ) → get_or b (arms + n) 0 ≡ arm_bits b n
    arm n = arm_byte laws b n l

    none : (n : ℕ) → nodes ≤ n → n < 256 → x ≡ 0 → arm_bits b n ≡ 0
    none n h k' z =
        let on : i + (n - nodes) ≡ arms + n = omega arith in
        rw (← arm n, ← on) (run_zero b i k g (omega (arith, laws.long_is, laws.arms_is)) z (n - nodes) (omega arith))
