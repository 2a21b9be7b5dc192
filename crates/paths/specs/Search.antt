-- The search as a node makes it (Forms 3): it tries its ports one after another, and over a free one goes on from the arrival behind it.
-- The scouts sent so far, c, go in, and those sent by the end come out. That this is the pass (Searches 17) is proved (Depth).
-- Assumes nothing.
use Rattle.std.specs.Prelude.{Bool, cond, ◌&&◌, not, List, [], ◌∷◌, ℕ, zero, suc, eqb}
use Rattle.cube.specs.Helical.{helical}
use Rattle.paths.specs.Network.{Network, offered}
use Rattle.paths.specs.Pass.{PassResult, none, found}

-- a hop over p: p before the path that the search behind it finds; where that finds none, the search goes on with the scouts sent by then
unfoldable pub hop_or : ℕ → PassResult → (ℕ → PassResult) → PassResult
hop_or p (found w c) more = found (p ∷ w) c
hop_or p (none c) more = more c

-- the ports of a list in turn: `free p` says whether the link is free, `on p c` is the arrival behind it
unfoldable pub trying : (ℕ → Bool) → (ℕ → ℕ → PassResult) → List ℕ → ℕ → PassResult
trying free on [] c = none c
trying free on (p ∷ ps) c = cond (free p) (hop_or p (on p (suc c)) (trying free on ps)) (trying free on ps c)

-- an arrival at n on port a: at the target, or on by the ports offered there, in the helical order
unfoldable pub arriving : ℕ → Network → (ℕ → ℕ → Bool) → ℕ → ℕ → ℕ → ℕ → PassResult
arriving zero N free t n a c = cond (eqb n t) (found [] c) (none c)
arriving (suc k) N free t n a c =
    cond (eqb n t) (found [] c) (trying (free n) (λ p. arriving k N free t (N.next n p) p) (helical a (offered N t n)) c)

-- a send: the ports of a vector in turn, then the arrival behind each
unfoldable pub sending : Network → (ℕ → ℕ → Bool) → ℕ → List ℕ → ℕ → ℕ → PassResult
sending N free s vector t c = trying (free s) (λ p. arriving (N.distance t (N.next s p)) N free t (N.next s p) p) vector c

-- Searches 15: the test of free links once the link out of port q of node m is held. A path takes no link twice (Paths 10).
unfoldable pub holding : (ℕ → ℕ → Bool) → ℕ → ℕ → ℕ → ℕ → Bool
holding free m q n p = free n p && not (eqb n m && eqb p q)
