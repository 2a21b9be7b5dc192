-- The ports of a cube: all of them as a vector, and a position for each on a board.
-- Assumes nothing.
use mathlib.Core.Path.{◌≡◌, refl, ap, ap₂, sym, ◌∙◌}
use mathlib.Core.Logic.{⊎_elim}
use mathlib.Core.Bool.{Bool, true, false, ◌&&◌}
use Prim.Native.Nat.{ℕ, ◌-◌, ◌^◌, ◌≤◌, ◌<◌}
use native.Mathlib.Omega.{arith}
use lib.Dec.{ltb}
use lib.Pow.{pow_pos}
use borrow.Author.Tests.{lt-ltb, le-ltb}
use Rattle.common.proofs.Tests.{below_or}
use Rattle.cube.specs.Axes.{positions, own_axes, partner, present}
use Rattle.cube.specs.Bits.{has}
use Rattle.cube.specs.Cube.{largest_dimension}
use Rattle.cube.specs.CubeContracts.{WithPartners}
use Rattle.cube.proofs.Axes.{present_low, present_axis}
use Rattle.cube.proofs.Bits.{high_has}
use Rattle.cube.proofs.Order.{low_port}
use Rattle.cube.proofs.PartnerPorts.{present_partner, present_above, each_port}
use Rattle.paths.specs.CubeNetwork.{Shape}
use Rattle.cube.proofs.PortsInside.{ones}
use Rattle.judging.specs.JudgeContracts.{CubePorts, BoardOver, in_vector}

module _ (S : Shape) where
  -- The vector of all dimensions, with the partners of those that are folded, has exactly the ports of the cube.
  pub all_ports : S.dimension ≤ largest_dimension → {w f vector wide : ℕ} → w ≤ positions → f ≡ S.fold → vector ≡ 2 ^ S.dimension - 1 → WithPartners f vector wide → wide < 2 ^ w → CubePorts w S wide
  all_ports h {w} {f} {vector} {wide} most same every partners below =
      record { below = below; most = most; bits = each_port (λ p. has wide p ≡ present S.dimension S.fold p) low high }
    where
      all : (p : ℕ) → p < own_axes → has (2 ^ S.dimension - 1) p ≡ ltb p S.dimension
      all p l = ⊎_elim (λ i. ones S.dimension p h i) (λ i. high_has S.dimension (2 ^ S.dimension - 1) p (omega (arith, pow_pos S.dimension)) (omega arith) ∙ sym (le-ltb p S.dimension (omega arith))) (below_or 8 p)

      swap : (a b : Bool) → (a && b) ≡ (b && a)
      swap true true = refl
      swap true false = refl
      swap false true = refl
      swap false false = refl

      low : (p : ℕ) → p < own_axes → has wide p ≡ present S.dimension S.fold p
      low p l = partners.given p l ∙ ap (λ x. has x p) every ∙ all p l ∙ sym (present_low S.dimension S.fold p l)

      high : (p : ℕ) → p < own_axes → has wide (partner p) ≡ present S.dimension S.fold (partner p)
      high p l =
          partners.partners p l ∙ ap₂ (λ (x : ℕ) (b : Bool). has x p && b) same (ap (λ x. has x p) every ∙ all p l) ∙ swap (has S.fold p) (ltb p S.dimension)
          ∙ sym (present_partner S.dimension S.fold p l)

  module _ {w all : ℕ} (ports : CubePorts w S all) where
    -- A board that holds the vector of all ports has a position for each of them,
    pub room : (p : ℕ) → present S.dimension S.fold p ≡ true → p < w
    room p e = low_port w all p ports.below (ports.bits p (present_axis S.dimension S.fold p e).0 ∙ e)

    -- and any number is one of them where it is in the vector.
    pub there : (p : ℕ) → in_vector all p ≡ present S.dimension S.fold p
    there p =
        ⊎_elim (λ l. rw (lt-ltb p 18 l) (ports.bits p l)) (λ l. rw (le-ltb p 18 l) (present_above S.dimension S.fold p l)) (below_or 18 p)

  pub board_over : {rows w f all : ℕ} → w ≤ rows → f ≡ S.fold → CubePorts w S all → BoardOver rows w f S
  board_over row same ports = record { here = record { row = row; most = ports.most; folded = same }; room = room ports }
