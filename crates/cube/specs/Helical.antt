-- The order in which ports are tried, and the table of first ports.
-- Assumes nothing.
use Rattle.std.specs.Prelude.{◌≡◌, List, [], ◌∷◌, ◌++◌, ℕ, ◌+◌, ◌*◌, ◌<◌, leb, ltb, length, get_or}
use Rattle.common.specs.Lists.{keep, from}
use Rattle.cube.specs.Axes.{positions}
use Rattle.cube.specs.Bits.{has}
use Rattle.cube.specs.Cube.{port_count}

-- the ports that a vector offers among w positions, rising
unfoldable pub ports_of : ℕ → ℕ → List ℕ
unfolding keep from has
ports_of w vector = keep (has vector) (from 0 w)

-- Order 1: behind an arrival on port a, of the ports offered, which rise, first those above a and then those up to a
unfoldable pub helical : ℕ → List ℕ → List ℕ
unfolding keep
helical a ps = keep (λ p. ltb a p) ps ++ keep (λ p. leb p a) ps

-- the first of a list, or `none` where it is empty
unfoldable pub first_or : ℕ → List ℕ → ℕ
first_or none [] = none
first_or none (p ∷ ps) = p

-- what stands where there is no port
abbrev pub no_port : ℕ
no_port = 8

-- Order 6: an entry has the first port of that order, or 8 where the vector is 0.
unfoldable pub first_port : ℕ → ℕ → ℕ
unfolding ports_of helical first_or
first_port vector arrival = first_or no_port (helical arrival (ports_of port_count vector))

-- Order 9: the same port by rule, whatever the number of positions. No vector has a bit at 18 or above, so 18 stands for no port.
unfoldable pub first_of : ℕ → ℕ → ℕ
unfolding ports_of helical first_or
first_of vector arrival = first_or positions (helical arrival (ports_of positions vector))

-- Order 5: the table of first ports has 2,048 entries, and finds one by vector and arrival port. Order 6: so it is of all.
pub record FirstPorts (table : List ℕ) : Type 0 where
  pub entries : length table ≡ 2048
  pub entry : (vector arrival : ℕ) → vector < 256 → arrival < port_count → get_or table (8 * vector + arrival) 0 ≡ first_port vector arrival
