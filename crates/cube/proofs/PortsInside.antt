-- Whether every port of a vector is one of a cube's.
-- Assumes nothing.
use mathlib.Core.Path.{◌≡◌, refl, ap, sym, ◌∙◌}
use mathlib.Core.Logic.{⊎_elim}
use mathlib.Core.Bool.{Bool, true, false, beq}
use Prim.Native.Nat.{ℕ, ◌-◌, ◌^◌, ◌≤◌, ◌<◌}
use native.Mathlib.Omega.{arith}
use native.Mathlib.Nat.{lt_of_le_of_lt}
use lib.Bits.{bit_and, and_le_l}
use lib.Dec.{eqb, ltb}
use lib.Pow.{pow_pos}
use borrow.Author.Tests.{lt-ltb, ltb-true, eqb-true, eqb-false}
use Rattle.common.proofs.Every.{at₂}
use Rattle.common.proofs.From.{below_kept, kept_below}
use Rattle.common.proofs.Lists.{keep_mem, mem_keep}
use Rattle.common.proofs.Tests.{below_or, both, clash, and}
use Rattle.cube.specs.Axes.{axis, present}
use Rattle.cube.specs.Bits.{has, bit_at}
use Rattle.cube.specs.Cube.{largest_dimension, port_count}
use Rattle.cube.specs.CubeContracts.{WithPartners, PortsInside}
use Rattle.cube.proofs.Axes.{present_axis}
use Rattle.cube.proofs.Bits.{has_and, has_bit, has_no_bit, high_has, no_bit_above, same_bits}
use Rattle.cube.proofs.Order.{low_port, mem_ports, ports_mem}
use Rattle.cube.proofs.PartnerPorts.{same_test, unfolded_present, partners_ports}

-- With nothing folded they are those below D.
pub narrow_inside : (vector nodes : ℕ) {n : ℕ} → n ≡ nodes → PortsInside 0 vector nodes (ltb vector n)
unfolding PortsInside
narrow_inside vector nodes {n} same D d e =
    record {
      holds = λ t p h. unfolded_present D p (omega (arith, d)) ∙ lt-ltb p D (⊎_elim (λ l. l) (λ l. absurd (clash h (high_has D vector p (omega (arith, same, e, ltb-true vector n t)) l))) (below_or D p));
      fails = λ t all. clash (lt-ltb vector n (omega (arith, same, e, no_bit_above D vector (λ p l. not_there all p l)))) t;
    }
  where
    not_there : ((p : ℕ) → has vector p ≡ true → present D 0 p ≡ true) → (p : ℕ) → D ≤ p → has vector p ≡ false
    not_there all p l = go (has vector p) refl
      where
        go : (x : Bool) → has vector p ≡ x → x ≡ false
        go true h = absurd (omega (arith, l, ltb-true p D (sym (unfolded_present D p (omega (arith, d))) ∙ all p h)))
        go false h = refl

-- all D bits, and no other
pub ones : (D p : ℕ) → D ≤ largest_dimension → p < port_count → has (2 ^ D - 1) p ≡ ltb p D
unfolding has
ones D p h l = same_test _ _ (at₂ 9 8 (λ D p. beq (has (2 ^ D - 1) p) (ltb p D)) refl D p (omega arith) l)

-- All ports of a cube are those below D and their partners.
module _ (D fold wide : ℕ) (d : D ≤ largest_dimension) (w : WithPartners fold (2 ^ D - 1) wide) where
  low : 2 ^ D - 1 < 2 ^ D
  low = omega (arith, pow_pos D)

  pub wide_there : (p : ℕ) → has wide p ≡ true → present D fold p ≡ true
  wide_there p t =
      let m = rw (partners_ports D fold (2 ^ D - 1) wide (omega (arith, d)) low w) at (mem_ports 18 wide p (low_port 18 wide p w.small t) t) in
      (kept_below (present D fold) 18 p (keep_mem (λ q. has (2 ^ D - 1) (axis q)) _ m).0).1

  pub there_wide : (p : ℕ) → present D fold p ≡ true → has wide p ≡ true
  there_wide p t =
      let a = present_axis D fold p t in
      let m = mem_keep (λ q. has (2 ^ D - 1) (axis q)) _ (below_kept (present D fold) 18 p a.0 t) (ones D (axis p) d (omega (arith, d, a.1)) ∙ lt-ltb (axis p) D a.1) in
      (ports_mem 18 wide (rw (← partners_ports D fold (2 ^ D - 1) wide (omega (arith, d)) low w) at m)).1

pub wide_inside : (fold vector nodes wide : ℕ) {n : ℕ} → n ≡ nodes - 1 → WithPartners fold n wide → vector < 2 ^ 32 → PortsInside fold vector nodes (eqb (bit_and vector wide) vector)
unfolding PortsInside
wide_inside fold vector nodes wide {n} same w small D d e =
    record {
      holds = λ t p h. wide_there D fold wide d partners p (both (has vector p) (has wide p) (sym (has_and vector wide p) ∙ ap (λ x. has x p) (eqb-true _ vector t) ∙ h)).1;
      fails = λ t all. eqb-false _ vector t (same_bits 32 (bit_and vector wide) vector (lt_of_le_of_lt (and_le_l vector wide) small) small (λ p l. bit all p));
    }
  where
    partners : WithPartners fold (2 ^ D - 1) wide
    partners = rw (← e, ← same) w

    bit : ((p : ℕ) → has vector p ≡ true → present D fold p ≡ true) → (p : ℕ) → bit_at (bit_and vector wide) p ≡ bit_at vector p
    bit all p = go (has vector p) refl
      where
        go : (x : Bool) → has vector p ≡ x → bit_at (bit_and vector wide) p ≡ bit_at vector p
        go true h = has_bit (bit_and vector wide) p (has_and vector wide p ∙ and h (there_wide D fold wide d partners p (all p h))) ∙ sym (has_bit vector p h)
        go false h = has_no_bit (bit_and vector wide) p (has_and vector wide p ∙ rw h refl) ∙ sym (has_no_bit vector p h)
