-- The ports of a vector one by one: the lowest, and those of the vector without it.
-- Assumes nothing.
use mathlib.Core.Path.{◌≡◌, refl, ap, sym, ◌∙◌}
use mathlib.Core.Logic.{◌≢◌}
use mathlib.Core.Bool.{true}
use mathlib.Core.List.{[], ◌∷◌}
use Prim.Native.Nat.{ℕ, ◌-◌, ◌^◌, ◌<◌}
use native.Mathlib.Omega.{arith}
use Rattle.std.specs.Prelude.{Some, None}
use Rattle.common.specs.FirstAfter.{FirstAfter, round}
use Rattle.common.specs.Lists.{keep, from, lowest}
use Rattle.common.specs.SomeBelow.{some_below}
use Rattle.common.proofs.Lowest.{lowest_passes, lowest_before, lowest_found, some_is, none_is}
use Rattle.common.proofs.Tests.{clash}
use Rattle.cube.specs.Bits.{bit_at, has}
use Rattle.cube.specs.Axes.{positions}
use Rattle.cube.specs.CubeContracts.{Without}
use Rattle.cube.specs.Helical.{helical, ports_of}
use Rattle.cube.proofs.Bits.{zero_has, no_ports}
use Rattle.cube.proofs.FirstPort.{by_rule}
use Rattle.cube.proofs.Order.{helical_last, ports_mem, low_port}

module _ (v : ℕ) (byte : v < 2 ^ positions) where
  pub ports_end : None ≡ some_below positions (lowest (has v) positions 0) → ports_of positions v ≡ []
  unfolding ports_of keep from has
  ports_end e =
      let least = none_is e in
      rw (no_ports 18 v byte (λ p l. lowest_before (has v) 18 0 p (omega arith) (omega arith))) refl

  module _ {k : ℕ} (first : Some k ≡ some_below positions (lowest (has v) positions 0)) where
    pub lowest_port : (k < positions) × (has v k ≡ true)
    lowest_port = let f = some_is first in (rw f.0 f.1, rw f.0 (lowest_passes (has v) 18 0 f.1))

    -- in the helical order after port 17 the ports rise, and the lowest is the first
    pub ports_on : {r : ℕ} → Without v k r → ports_of positions v ≡ k ∷ ports_of positions r
    ports_on {r} less =
        sym (rising v) ∙ ((by_rule v 17 k some lowest_first).tried 18 byte).rest ∙ ap (k ∷◌) (rising (v - 2 ^ k)) ∙ ap (λ x. k ∷ ports_of positions x) same
      where
        same : v - 2 ^ k ≡ r
        same = omega (arith, less.value)

        rising : (x : ℕ) → helical 17 (ports_of positions x) ≡ ports_of positions x
        rising x = helical_last 17 (ports_of positions x) (λ p m. omega (arith, (ports_mem 18 x m).0))

        some : v ≢ 0
        some z = clash lowest_port.1 (rw z (zero_has k))

        lowest_first : FirstAfter v 17 k
        lowest_first = unfold has bit_at in round lowest_port.1 (λ j on. omega (arith, low_port 18 v j byte on)) (λ j on. rw (some_is first).0 (lowest_found (has v) 18 0 j (omega arith) on))
