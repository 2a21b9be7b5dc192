-- How many beginnings of a send have not arrived at its target. A send that is route rejected has sent no more scouts than there are such beginnings, since a free one that
-- arrives is a path found.
-- Assumes nothing.
use Rattle.std.specs.Prelude.{Bool, true, not, ◌&&◌, List, [], ◌∷◌, ℕ, zero, suc, ◌+◌, ◌-◌, ◌*◌, length}
use Rattle.common.specs.Lists.{keep}
use Rattle.cube.specs.Bits.{has}
use Rattle.cube.specs.Cube.{uphill}
use Rattle.paths.specs.CubeNetwork.{Shape, axes}

-- On from a node that is k hops away, with x uphill axes that are not folded and y that are: the empty beginning, and those over the one link of each of the x axes, and over the
-- two links of each of the y. At the target none is left that has not arrived.
unfoldable pub unarrived_in : ℕ → ℕ → ℕ → ℕ
unarrived_in zero x y = 0
unarrived_in (suc k) x y = suc (x * unarrived_in k (x - 1) y + 2 * y * unarrived_in k x (y - 1))

abbrev pub unarrived : ℕ → ℕ → ℕ
unarrived x y = unarrived_in (x + y) x y

-- Of a send from such a node over all its ports, in a cube with a axes that are not folded and f that are: a first hop over an uphill axis leads one nearer, over another one farther.
unfoldable pub unarrived_from : (a f x y : ℕ) → ℕ
unarrived_from a f x y = x * unarrived (x - 1) y + 2 * y * unarrived x (y - 1) + ((a - x) * unarrived (x + 1) y + 2 * (f - y) * unarrived x (y + 1))

-- the axes of a cube that are not folded, and those that are, which pass a test
unfoldable pub single_axes : Shape → (ℕ → Bool) → ℕ
single_axes S g = length (keep (λ a. g a && not (has S.fold a)) (axes S))

unfoldable pub folded_axes : Shape → (ℕ → Bool) → ℕ
folded_axes S g = length (keep (λ a. g a && has S.fold a) (axes S))

-- By dimension, from 0 to 8: the most that there are of any send in a cube none of whose dimensions is folded, and in a cube whatever is folded.
abbrev pub most_unfolded : List ℕ
most_unfolded = 0 ∷ 1 ∷ 3 ∷ 12 ∷ 50 ∷ 246 ∷ 1442 ∷ 9896 ∷ 77940 ∷ []

abbrev pub most_folded : List ℕ
most_folded = 0 ∷ 2 ∷ 10 ∷ 66 ∷ 528 ∷ 5230 ∷ 62276 ∷ 866898 ∷ 13810600 ∷ []

-- The beginnings of a send from s to t over all ports of s that have not arrived.
abbrev pub most_sent : Shape → (s t : ℕ) → ℕ
most_sent S s t = unarrived_from (single_axes S (λ a. true)) (folded_axes S (λ a. true)) (single_axes S (uphill t s)) (folded_axes S (uphill t s))
