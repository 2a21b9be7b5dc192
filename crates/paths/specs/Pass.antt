-- A pass of a search, computed: the beginnings of permitted paths in their order, and the first of them that is free and whole.
-- That this is what the rules say is proved (Sentences).
-- Assumes nothing.
use Rattle.std.specs.Prelude.{Bool, cond, List, [], ◌∷◌, ◌++◌, map, ℕ, zero, suc, eqb}
use Rattle.cube.specs.Helical.{helical}
use Rattle.paths.specs.Network.{Network, Path, offered, end, free_path}

-- for each port of a list, its single hop and then that hop with each way on from it
unfoldable pub over : (ℕ → List Path) → List ℕ → List Path
over on [] = []
over on (p ∷ ps) = ((p ∷ []) ∷ map (λ (w : Path). p ∷ w) (on p)) ++ over on ps

-- the beginnings, one hop or longer, of the ways to t from an arrival at n on port a, in the helical order; at most k hops
unfoldable pub ways : ℕ → Network → ℕ → ℕ → ℕ → List Path
ways zero N t n a = []
ways (suc k) N t n a = cond (eqb n t) [] (over (λ p. ways k N t (N.next n p) p) (helical a (offered N t n)))

-- Paths 12: the beginnings of the permitted paths of a send over the ports of a vector: a way on has as many hops as the target is far
unfoldable pub beginnings : Network → ℕ → List ℕ → ℕ → List Path
beginnings N s vector t = over (λ p. ways (N.distance t (N.next s p)) N t (N.next s p) p) vector

-- what a pass comes to, a path or none, with the scouts that it sent (Scouts 1): one each time that a free link is tried
pub data PassResult : Type 0 where
  none : ℕ → PassResult
  found : Path → ℕ → PassResult

-- the first of a list that passes both tests, and, on top of c, how many pass the first test up to it: all of them where there is none
unfoldable pub scan : (Path → Bool) → (Path → Bool) → ℕ → List Path → PassResult
scan free whole c [] = none c
scan free whole c (w ∷ ws) = cond (free w) (cond (whole w) (found w (suc c)) (scan free whole (suc c) ws)) (scan free whole c ws)

-- the path ends on the target
unfoldable pub whole : Network → ℕ → ℕ → Path → Bool
whole N t n w = eqb (end N n w) t

-- Searches 2: a pass looks for the first permitted path that is free. Scouts 2: its scouts are the free beginnings up to that path.
-- Scouts 3: where it finds none, all of them. Scouts 4: links that are not free count for nothing.
unfoldable pub pass : Network → (ℕ → ℕ → Bool) → ℕ → List ℕ → ℕ → PassResult
pass N free s vector t = scan (free_path N free s) (whole N t s) 0 (beginnings N s vector t)

unfoldable pub scouts : PassResult → ℕ
scouts (none c) = c
scouts (found w c) = c
