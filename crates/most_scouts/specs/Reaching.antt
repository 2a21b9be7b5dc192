-- Lists of calls whose last, an open, sends the most scouts: they make a cube, block all links into node 0, and open a circuit to it from a node D - 1 hops away, over all ports.
-- Assumes nothing.
use Rattle.std.specs.Prelude.{List, [], ◌∷◌, ◌++◌, map, ℕ, ◌+◌, ◌-◌, ◌*◌, ◌^◌, get_or, replicate}
use Rattle.common.specs.Lists.{from}
use Rattle.ownership.specs.Calls.{Call, making, blocking, opening, folding, CallResult, only}
use Rattle.most_scouts.specs.Unarrived.{most_unfolded, most_folded}

-- the links into node 0 over the ports below D, and over their partners
abbrev pub block_all : List ℕ → List Call
block_all ps = map (λ p. blocking (2 ^ p) p) ps

abbrev pub block_partners : List ℕ → List Call
block_partners ps = map (λ p. blocking (2 ^ p) (17 - p)) ps

-- bits 0 to k - 1: the last k - 1 of D axes; a send vector, or a fold mask, that has all of D
abbrev pub lowest_bits : ℕ → ℕ
lowest_bits k = 2 ^ k - 1

abbrev pub last_open : ℕ → Call
last_open D = opening (lowest_bits (D - 1)) 0 0 0 (lowest_bits D)

abbrev pub reaching : ℕ → List Call
reaching D = making D ∷ block_all (from 0 D) ++ last_open D ∷ []

-- the same with every dimension folded
abbrev pub reaching_folded : ℕ → List Call
reaching_folded D = making D ∷ folding (lowest_bits D) ∷ block_all (from 0 D) ++ block_partners (from 0 D) ++ last_open D ∷ []

-- what an open answers that is route rejected, and that no closing of circuits could help, with so many scouts
abbrev pub rejected_after : ℕ → CallResult
rejected_after scouts = record { number = 22; values = 0 ∷ 0 ∷ scouts ∷ []; buffers = [] }

abbrev pub reached : ℕ → List CallResult
reached D = replicate (D + 1) (only 0) ++ rejected_after (get_or most_unfolded D 0) ∷ []

abbrev pub reached_folded : ℕ → List CallResult
reached_folded D = replicate (2 * D + 2) (only 0) ++ rejected_after (get_or most_folded D 0) ∷ []
