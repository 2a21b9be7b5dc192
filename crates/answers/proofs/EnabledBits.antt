-- The enable bits of a node, over as many positions as a vector has: past its mask nothing is enabled, and the mask has no bit there.
-- Assumes nothing.
use mathlib.Core.Path.{◌≡◌, ap, sym, ◌∙◌}
use mathlib.Core.Logic.{⊎_elim}
use mathlib.Core.Bool.{false, and-false}
use mathlib.Core.List.{List}
use Prim.Native.Nat.{ℕ, ◌*◌, ◌^◌, ◌≤◌, ◌<◌}
use lib.ListN.{length}
use lib.Dec.{ltb}
use borrow.Author.Tests.{le-ltb}
use Rattle.common.proofs.Tests.{below_or}
use Rattle.cube.specs.Axes.{positions}
use Rattle.cube.specs.Bits.{has}
use Rattle.cube.proofs.Bits.{high_has}
use Rattle.entries.specs.EntryContracts.{enable_bits}
use Rattle.layout.specs.Layout.{ports_in, enable_part, mask_size, enabled_at, mask_at}
use Rattle.layout.specs.Resources.{LayoutLaws, ports_of_long}
use Rattle.layout.proofs.Entries.{mask_has}
use Rattle.table.specs.View.{view}

enabled_past : (b : List ℕ) (n p : ℕ) → 8 * mask_size (ports_in b) ≤ p → (view b).enabled n p ≡ false
unfolding view enabled_at mask_at
enabled_past b n p h = rw (le-ltb p (8 * mask_size (ports_in b)) h, and-false (ltb n 256))

-- in a table of either layout
pub enabled_bits_in : (b : List ℕ) (n x : ℕ) → n < 256 → x ≡ enable_bits b n → x < 2 ^ (8 * mask_size (ports_in b)) → (p : ℕ) → (view b).enabled n p ≡ has x p
unfolding view enabled_at enable_bits
enabled_bits_in b n x i mask small p =
    ⊎_elim (λ k. mask_has (ports_in b) b n p i k (enable_part (ports_in b)) ∙ ap (λ y. has y p) (sym mask)) (λ k. enabled_past b n p k ∙ sym (high_has (8 * mask_size (ports_in b)) x p small k))
    (below_or (8 * mask_size (ports_in b)) p)

pub enabled_bits : {long q enable links receives arms : ℕ} → LayoutLaws long q enable links receives arms → (b : List ℕ) (n x : ℕ) → length b ≡ long → n < 256 → x ≡ enable_bits b n
    → x < 2 ^ (8 * mask_size q) → (p : ℕ) → p < positions → (view b).enabled n p ≡ has x p
enabled_bits {q = q} laws b n x l i mask small p h =
    enabled_bits_in b n x i mask (rw (ports_of_long q b laws.ports_are (l ∙ laws.long_is)) small) p
