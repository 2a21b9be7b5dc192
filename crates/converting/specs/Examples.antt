-- The numbers of conversions, and a node's row and mask in both layouts, computed.
-- Assumes nothing.
use Rattle.std.specs.Prelude.{Bool, cond, not, ◌||◌, ◌≡◌, refl, [], ◌∷◌, map, ℕ, eqb}
use Rattle.common.specs.Tests.{test, refusal}
use Rattle.cube.specs.Cube.{port_count}
use Rattle.layout.specs.Layout.{wide_ports}
use Rattle.table.specs.View.{View, fresh}
use Rattle.table.specs.Encode.{bits_from, mask_of, number_bytes, mask_bytes, entry_bytes, fold_bytes}
use Rattle.converting.specs.Converted.{fold_test, convert_tests}
use Rattle.soundness.specs.SoundTest.{sound_test}
use Rattle.soundness.specs.TableTests.{table_tests}

-- a table with a fold mask
abbrev folded : ℕ → View
folded f = record (fresh 3) { fold = f }

-- Refusals 24: going back is refused where the fold mask is not zero; to a wide table every fold mask goes.
going_back : map (λ f. refusal (fold_test port_count (folded f) ∷ [])) (0 ∷ 1 ∷ 8 ∷ 255 ∷ []) ≡ 0 ∷ 24 ∷ 24 ∷ 24 ∷ []
unfolding refusal fresh
going_back = refl

widening : map (λ f. refusal (fold_test wide_ports (folded f) ∷ [])) (0 ∷ 1 ∷ 8 ∷ 255 ∷ []) ≡ 0 ∷ 0 ∷ 0 ∷ 0 ∷ []
unfolding refusal fresh
widening = refl

-- A fold bit at or above D, here 3, makes a table unsound, so that it is refused as 3 before the fold mask is looked at.
stray_bits : map (λ f. refusal (test (not (sound_test (folded f))) 3 ∷ fold_test port_count (folded f) ∷ [])) (8 ∷ 9 ∷ 255 ∷ []) ≡ 3 ∷ 3 ∷ 3 ∷ []
unfolding refusal fresh sound_test
stray_bits = refl

-- Of no bytes at all the table read is refused first, whatever the one written is.
no_bytes : refusal (convert_tests port_count wide_ports [] []) ∷ refusal (convert_tests wide_ports port_count [] []) ∷ [] ≡ 1 ∷ 1 ∷ []
unfolding refusal convert_tests table_tests
no_bytes = refl

-- Circuit 260 holds the link out of port 1 of node 0, and the links out of ports 0 and 2 are enabled. Its row has 16 bytes in a narrow table, and 36 in a wide one; its mask
-- one byte, and three.
abbrev owner : ℕ → ℕ → ℕ
owner n p = cond (eqb p 1) 260 0

abbrev enabled : ℕ → ℕ → Bool
enabled n p = eqb p 0 || eqb p 2

narrow_row : entry_bytes port_count owner 0 8 ≡ 0 ∷ 0 ∷ 4 ∷ 1 ∷ 0 ∷ 0 ∷ 0 ∷ 0 ∷ 0 ∷ 0 ∷ 0 ∷ 0 ∷ 0 ∷ 0 ∷ 0 ∷ 0 ∷ []
unfolding entry_bytes
narrow_row = refl

wide_row : entry_bytes wide_ports owner 0 18 ≡ 0 ∷ 0 ∷ 4 ∷ 1 ∷ 0 ∷ 0 ∷ 0 ∷ 0 ∷ 0 ∷ 0 ∷ 0 ∷ 0 ∷ 0 ∷ 0 ∷ 0 ∷ 0 ∷ 0 ∷ 0 ∷ 0 ∷ 0 ∷ 0 ∷ 0 ∷ 0 ∷ 0 ∷ 0 ∷ 0 ∷ 0 ∷ 0 ∷ 0 ∷ 0 ∷ 0 ∷ 0 ∷ 0 ∷ 0 ∷ 0 ∷ 0 ∷ []
unfolding entry_bytes
wide_row = refl

masks : mask_bytes port_count enabled 0 1 ≡ 5 ∷ []
unfolding mask_bytes mask_of bits_from number_bytes
masks = refl

wide_masks : mask_bytes wide_ports enabled 0 1 ≡ 5 ∷ 0 ∷ 0 ∷ []
unfolding mask_bytes mask_of bits_from number_bytes
wide_masks = refl

-- the fold mask, which a narrow table has no byte for
fold_masks : fold_bytes port_count 8 ≡ []
unfolding fold_bytes
fold_masks = refl

wide_fold_masks : fold_bytes wide_ports 8 ≡ 8 ∷ []
unfolding fold_bytes
wide_fold_masks = refl
