-- Paths and Order as plain predicates: permitted paths, beginnings, and which path comes first.
-- Assumes nothing.
use Rattle.std.specs.Prelude.{◌≡◌, ◌⊎◌, ◌≢◌, List, [], ◌∷◌, ◌++◌, ℕ, ◌≤◌, ◌<◌}
use Rattle.common.specs.Lists.{◌∈◌}
use Rattle.paths.specs.Network.{Network, Path, Link, offered, end, links}

-- Paths 5, Paths 6: what may follow an arrival at n. Paths 9: n may be the source again.
unfoldable pub Onward : Network → ℕ → ℕ → Path → Type 0
Onward N t n [] = n ≡ t
Onward N t n (p ∷ w) = (n ≢ t) × (p ∈ offered N t n) × Onward N t (N.next n p) w

-- Paths 4: the first hop of a permitted path is over any port that the vector offers, uphill or not. It has at least one hop (Paths 6).
unfoldable pub Permitted : Network → ℕ → List ℕ → ℕ → Path → Type 0
Permitted N s vector t [] = ⊥
Permitted N s vector t (p ∷ w) = (p ∈ vector) × Onward N t (N.next s p) w

-- The same, rule by rule and by places in the path: where w is u, then a hop over q, then v, the hop starts at the end of u.
pub record InWords (N : Network) (s : ℕ) (vector : List ℕ) (t : ℕ) (w : Path) : Type 0 where
  -- Paths 4
  pub first : (p : ℕ) × ((v : Path) × (w ≡ p ∷ v) × (p ∈ vector))
  -- Paths 5
  pub later : (u : Path) (q : ℕ) (v : Path) → u ≢ [] → w ≡ u ++ q ∷ v → q ∈ offered N t (end N s u)
  -- Paths 6
  pub not_before : (u : Path) (q : ℕ) (v : Path) → u ≢ [] → w ≡ u ++ q ∷ v → end N s u ≢ t
  pub arrives : end N s w ≡ t

-- Paths 12: a beginning of a permitted path has one hop at least.
unfoldable pub Beginning : Network → ℕ → List ℕ → ℕ → Path → Type 0
Beginning N s vector t b = (b ≢ []) × ((v : Path) × Permitted N s vector t (b ++ v))

-- Order 1: behind an arrival on port a, p is tried before q
unfoldable pub Sooner : ℕ → ℕ → ℕ → Type 0
Sooner a p q = ((a < p) × (q ≤ a)) ⊎ ((a < p) × (p < q)) ⊎ ((p < q) × (q ≤ a))

-- Order 3: at the first difference the port that is tried sooner decides. Order 4: a path comes behind each of its own beginnings.
-- `tried p q` says that p is tried before q at the first hop; behind a hop over p the order is that of an arrival on p.
unfoldable pub Before : (ℕ → ℕ → Type 0) → Path → Path → Type 0
Before tried w [] = ⊥
Before tried [] (q ∷ v) = Unit
Before tried (p ∷ w) (q ∷ v) = tried p q ⊎ ((p ≡ q) × Before (Sooner p) w v)

-- Order 2: a send tries ports from 0 upward.
abbrev pub ComesBefore : Path → Path → Type 0
ComesBefore = Before ◌<◌

-- Paths 11: two paths from one node have the same links.
unfoldable pub SameLinks : Network → ℕ → Path → Path → Type 0
SameLinks N n w v = ((l : Link) → l ∈ links N n w → l ∈ links N n v) × ((l : Link) → l ∈ links N n v → l ∈ links N n w)
