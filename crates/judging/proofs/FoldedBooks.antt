-- Books that are judged against a cube of dimension 2, whose links are all free, with each fold mask that is named.
-- Assumes nothing.
use mathlib.Core.Path.{◌≡◌, refl}
use mathlib.Core.Bool.{true, false}
use mathlib.Core.List.{List, [], ◌∷◌}
use Prim.Native.Nat.{ℕ}
use lib.ListN.{length}
use Rattle.common.specs.Tests.{refusal}
use Rattle.cube.specs.Axes.{axis, present}
use Rattle.cube.specs.Bits.{has, flip, bit_at}
use Rattle.cube.specs.Cube.{uphill}
use Rattle.paths.specs.Network.{links, end, has_link}
use Rattle.paths.specs.CubeNetwork.{network}
use Rattle.common.specs.Lists.{keep, from}
use Rattle.book.specs.Lookup.{index_lines, lines_fit, line_fits, well_formed}
use Rattle.judging.specs.Judged.{JudgeFacts, goes_on, is_permitted, in_cube, circuit_fits, links_fit, all_links, targets_fit, judge_tests}

abbrev free_cube : ℕ → JudgeFacts
free_cube fold = record { dimension = 2; fold = fold; is_open = λ s c. false; free = λ n p. true; available = λ n c. true }

-- a circuit from send channel 0 of node 0 over these ports
abbrev one : ℕ → List ℕ → ℕ
one fold ports = refusal (judge_tests (free_cube fold) ports (1 ∷ 0 ∷ 0 ∷ 0 ∷ length ports ∷ 0 ∷ []) 1 (length ports))

-- two circuits from node 0, of one hop each
abbrev two : ℕ → ℕ → ℕ → ℕ
two fold p q = refusal (judge_tests (free_cube fold) (p ∷ q ∷ []) (1 ∷ 0 ∷ 0 ∷ 0 ∷ 1 ∷ 0 ∷ 2 ∷ 0 ∷ 1 ∷ 0 ∷ 1 ∷ 0 ∷ []) 2 2)

abbrev judged : List ℕ
judged =
    -- a partner of a folded dimension; of one that is not folded; and ports that no node of this cube has
    one 1 (17 ∷ []) ∷ one 2 (17 ∷ []) ∷ one 0 (17 ∷ []) ∷ one 3 (2 ∷ []) ∷ one 3 (15 ∷ []) ∷ one 255 (8 ∷ [])
    -- back over either link of the first hop's axis; behind the first hop an axis twice, over both links, over one
    ∷ one 1 (0 ∷ 17 ∷ []) ∷ one 1 (17 ∷ 1 ∷ 0 ∷ []) ∷ one 1 (1 ∷ 0 ∷ 17 ∷ []) ∷ one 1 (1 ∷ 17 ∷ 17 ∷ [])
    -- the two links of a pair, and one of them twice
    ∷ two 1 0 17 ∷ two 1 17 17 ∷ []

folded_books : judged ≡ (0 ∷ 26 ∷ 26 ∷ 26 ∷ 26 ∷ 26 ∷ 0 ∷ 0 ∷ 26 ∷ 26 ∷ 0 ∷ 27 ∷ [])
unfolding judge_tests refusal well_formed index_lines lines_fit line_fits circuit_fits in_cube present axis has bit_at is_permitted goes_on network uphill flip end links all_links links_fit has_link targets_fit keep from
folded_books = refl
