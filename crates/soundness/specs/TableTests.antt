-- Calls 8: the tests of a lent table.
-- Assumes nothing.
use Rattle.std.specs.Prelude.{◌&&◌, not, List, [], ◌∷◌, ℕ, eqb, leb, length}
use Rattle.common.specs.Tests.{Test, test}
use Rattle.cube.specs.Cube.{largest_dimension}
use Rattle.layout.specs.Layout.{length_of}
use Rattle.table.specs.View.{view}
use Rattle.soundness.specs.SoundTest.{sound_test}

-- Refusals 1: a table with q ports to a node has another length.
abbrev pub length_test : ℕ → List ℕ → Test
length_test q b = test (not (eqb (length b) (length_of q))) 1

-- Refusals 2: the dimension given or stored is not 1 to 8.
abbrev pub dimension_test : ℕ → Test
dimension_test D = test (not (leb 1 D && leb D largest_dimension)) 2

-- the three in their order; Refusals 3: the table is not sound.
unfoldable pub table_tests : ℕ → List ℕ → List Test
table_tests q b = length_test q b ∷ dimension_test (view b).dimension ∷ test (not (sound_test (view b))) 3 ∷ []
