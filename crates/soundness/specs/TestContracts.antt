-- What the functions that test a table ask and answer.
-- Assumes nothing.
use Rattle.std.specs.Prelude.{◌≡◌, false, List, ℕ, ◌≤◌, length}
use Rattle.common.specs.Tests.{refusal}
use Rattle.cube.specs.Cube.{largest_dimension, cube_nodes}
use Rattle.layout.specs.Layout.{dimension_at, armed_at}
use Rattle.table.specs.View.{view}
use Rattle.soundness.specs.Sound.{Sound}
use Rattle.soundness.specs.TableTests.{table_tests}

-- what the parts of the test ask: as many bytes as a table of the layout has, and the dimension that they store, 8 at most
pub record Usable (long : ℕ) (b : List ℕ) (dimension : ℕ) : Type 0 where
  pub bytes : length b ≡ long
  pub stored : dimension ≡ dimension_at b
  pub most : dimension ≤ largest_dimension

-- what the counting of hops asks besides: no channel is armed at a node that the cube lacks
abbrev pub AbsentUnarmed : List ℕ → Type 0
AbsentUnarmed b = (n k : ℕ) → cube_nodes (dimension_at b) ≤ n → armed_at b n k ≡ false

-- What checking a table answers, which is to have q ports to a node: the refusal of the first test that applies, 0 where none does (Calls 8). The third test is
-- of soundness as declared (Soundness 1).
pub record TableAnswer (q : ℕ) (b : List ℕ) (answer : ℕ) : Type 0 where
  pub tests : answer ≡ refusal (table_tests q b)
  pub sound : answer ≡ 0 → Sound (view b)
  pub not_sound : answer ≡ 3 → Sound (view b) → ⊥
