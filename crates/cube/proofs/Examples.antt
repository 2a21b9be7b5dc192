-- Three entries of the table of first ports, which any table that keeps the rule has; one circuit number; and the ports of small cubes.
-- Assumes nothing.
use Rattle.std.specs.Prelude.{◌≡◌, refl, List, [], ◌∷◌, ℕ, get_or}
use Rattle.std.proofs.Common.{lit<}
use Rattle.common.specs.Lists.{keep, from}
use Rattle.cube.specs.Bits.{has}
use Rattle.cube.specs.Axes.{axis, present}
use Rattle.cube.specs.Cube.{circuit_of}
use Rattle.cube.specs.Helical.{first_port, FirstPorts}

-- Examples 11.
module _ (table : List ℕ) (rule : FirstPorts table) where
  entry_40 : get_or table 40 0 ≡ 2
  unfolding first_port
  entry_40 = rule.entry 5 0 (lit< tt) (lit< tt)

  entry_42 : get_or table 42 0 ≡ 0
  unfolding first_port
  entry_42 = rule.entry 5 2 (lit< tt) (lit< tt)

  entry_8 : get_or table 8 0 ≡ 0
  unfolding first_port
  entry_8 = rule.entry 1 0 (lit< tt) (lit< tt)

-- Examples 33: the circuit of send channel 3 of node 200.
circuit_1604 : circuit_of 200 3 ≡ 1604
circuit_1604 = refl

-- A cube of dimension 3 has ports 0 to 2; with dimensions 0 and 2 folded, 17 and 15 besides. Nothing is there from 18 on.
ports_of_three : keep (present 3 0) (from 0 20) ≡ 0 ∷ 1 ∷ 2 ∷ []
unfolding keep from present axis has
ports_of_three = refl

ports_folded : keep (present 3 5) (from 0 20) ≡ 0 ∷ 1 ∷ 2 ∷ 15 ∷ 17 ∷ []
unfolding keep from present axis has
ports_folded = refl
