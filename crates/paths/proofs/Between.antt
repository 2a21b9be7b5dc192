-- A send whose first hop is uphill stays between its source and its target: so a pass looks at no link outside, of any cube, folded or not.
-- Assumes nothing.
use mathlib.Core.Path.{◌≡◌, refl, ap, sym, ◌∙◌}
use mathlib.Core.Logic.{◌⊎◌, inl, inr, ⊎_elim, ◌↔◌}
use mathlib.Core.Bool.{Bool, true}
use mathlib.Core.List.{[], ◌∷◌, map}
use Prim.Native.Nat.{ℕ, ◌<◌}
use native.Mathlib.Omega.{arith}
use borrow.Author.Tests.{eq-eqb}
use Rattle.common.specs.Lists.{◌∈◌}
use Rattle.common.proofs.Tests.{same?, clash}
use Rattle.cube.specs.Bits.{bit_at}
use Rattle.cube.specs.Cube.{next, uphill}
use Rattle.cube.specs.Axes.{axis}
use Rattle.cube.proofs.Bits.{bit_lt, bit_kept}
use Rattle.paths.specs.Network.{offered}
use Rattle.paths.specs.Pass.{PassResult, pass}
use Rattle.paths.specs.Send.{attempted}
use Rattle.paths.specs.CubeNetwork.{Shape, ports, network, send_ports, attempts}
use Rattle.paths.specs.Between.{Between, EitherBit, VectorUphill}
use Rattle.paths.proofs.CubeNetwork.{offered_port, port_offered, send_port}
use Rattle.paths.proofs.LinksAhead.{pass_within}

-- a bit that is neither of two different bits is none
third_bit : (x y z : ℕ) → x < 2 → y < 2 → z < 2 → (y ≡ z → x ≡ y) → (x ≡ y) ⊎ (x ≡ z)
third_bit x y z i j k h = ⊎_elim inl (λ f. inr (⊎_elim (λ e. absurd (f (h e))) (λ g. omega arith) (same? y z))) (same? x y)

-- To match the source where source and target match is to have, at each place, the bit of one of them.
pub either_bit : (s t n : ℕ) → Between s t n ↔ EitherBit s t n
unfolding Between EitherBit
either_bit s t n = (
  (λ h p. third_bit _ _ _ (bit_lt n p) (bit_lt s p) (bit_lt t p) (h p)),
  (λ h p e. ⊎_elim (λ x. x) (λ x. x ∙ sym e) (h p)),
)

-- The source is between, and
pub between_source : (s t : ℕ) → Between s t s
unfolding Between
between_source s t p e = refl

-- a bit that is uphill is one in which source and target differ
uphill_differs : (s t n p q : ℕ) → Between s t n → uphill t n q ≡ true → bit_at s p ≡ bit_at t p → p ≡ q → ⊥
unfolding Between uphill
uphill_differs s t n p q b u e z = clash u (rw (sym z, eq-eqb (bit_at n p) (bit_at t p) (b p e ∙ e)))

module _ (S : Shape) (s t : ℕ) where
  -- an offered hop leads from a node between to a node between.
  pub between_stays : (n q : ℕ) → Between s t n → q ∈ offered (network S) t n → Between s t (next n q)
  between_stays n q b m = unfold Between in λ p e.
      bit_kept n (axis q) p (uphill_differs s t n p (axis q) b (offered_port S t n q m).1 e) ∙ b p e

  -- So two tests of links that agree between source and target make one pass of each.
  module _ (vector : ℕ) (up : VectorUphill s t vector) (f g : ℕ → ℕ → Bool)
      (same : (n q : ℕ) → q ∈ ports S → Between s t n → Between s t (next n q) → f n q ≡ g n q) where
    pass_between : pass (network S) f s (send_ports S vector) t ≡ pass (network S) g s (send_ports S vector) t
    unfolding VectorUphill
    pass_between =
        pass_within (network S) t (Between s t) (λ n q b m. unfold network in between_stays n q b m) f g
        (λ n q b m. same n q (offered_port S t n q m).0 b (between_stays n q b m)) s (send_ports S vector) (between_source s t)
        (λ q m. let r = (send_port S vector q).0 m in port_offered S t s q r.0 (up (axis q) r.1))

    -- and what the attempts of routing type 0 come to is the same.
    pub attempts_between : map (attempted (network S) f s t) (attempts S 0 vector) ≡ map (attempted (network S) g s t) (attempts S 0 vector)
    unfolding attempts attempted
    attempts_between = ap (λ (x : PassResult). x ∷ []) pass_between
