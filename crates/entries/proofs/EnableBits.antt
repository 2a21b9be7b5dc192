-- The masks of a node in a table of a layout.
-- Assumes nothing.
use mathlib.Core.Path.{◌≡◌, refl, sym, ◌∙◌}
use mathlib.Core.List.{List}
use Prim.Native.Nat.{ℕ, ◌+◌, ◌<◌}
use native.Mathlib.Omega.{arith}
use lib.ListN.{length, get_or}
use Rattle.cube.specs.Bits.{has}
use Rattle.cube.specs.Cube.{port_count}
use Rattle.layout.specs.Layout.{ports_in, enable_part, mask_place, mask_number, enabled_at}
use Rattle.layout.specs.Resources.{LayoutLaws, ports_of_long, width_in, width_least}
use Rattle.layout.proofs.Entries.{width_masks, mask_has}
use Rattle.entries.specs.EntryContracts.{enable_bits, arm_bits}

module _ {long q enable links receives arms : ℕ} (laws : LayoutLaws long q enable links receives arms) (b : List ℕ) (n : ℕ) (l : length b ≡ long) where
  pub enable_number : {i x : ℕ} → i ≡ mask_place q enable n → x ≡ mask_number q b i → x ≡ enable_bits b n
  unfolding enable_bits
  enable_number {i} {x} e f = rw (ports_of_long q b laws.ports_are (l ∙ laws.long_is), ← laws.enable_is, ← e) f

  pub arm_byte : get_or b (arms + n) 0 ≡ arm_bits b n
  unfolding arm_bits
  arm_byte = rw (ports_of_long q b laws.ports_are (l ∙ laws.long_is), ← laws.arms_is) refl

-- a link is enabled where its bit is set
pub enabled_has_in : (b : List ℕ) (n p : ℕ) → n < 256 → p < ports_in b → enabled_at b n p ≡ has (enable_bits b n) p
unfolding enabled_at enable_bits
enabled_has_in b n p h l = mask_has (ports_in b) b n p h (omega (arith, width_masks (width_in b))) (enable_part (ports_in b))

pub enabled_has : (b : List ℕ) (n p : ℕ) → n < 256 → p < port_count → enabled_at b n p ≡ has (enable_bits b n) p
enabled_has b n p h l = enabled_has_in b n p h (omega (arith, width_least (width_in b)))
