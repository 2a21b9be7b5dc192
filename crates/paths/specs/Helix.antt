-- Helix paths: behind a first port, at each node the first port offered in the helical order. Then what it comes to when paths are tried one after
-- another, and both once more in plain words. That the computed ones are so is proved (Helix, Tried).
-- Assumes nothing.
use Rattle.std.specs.Prelude.{◌≡◌, ◌⊎◌, ◌≢◌, Bool, true, false, cond, List, [], ◌∷◌, ◌++◌, ℕ, zero, suc, ◌+◌, eqb, length}
use Rattle.common.specs.Lists.{◌∈◌}
use Rattle.cube.specs.Helical.{helical}
use Rattle.paths.specs.Network.{Network, Path, offered, take_first, end, free_path}
use Rattle.paths.specs.Permitted.{Sooner}
use Rattle.paths.specs.Pass.{PassResult, none, found}

-- Searches 6: on from an arrival at n on port a, at each node by the first port offered in the helical order, until the target; at most k hops
unfoldable pub helix_from : ℕ → Network → ℕ → ℕ → ℕ → Path
helix_from zero N t n a = []
helix_from (suc k) N t n a = cond (eqb n t) [] (take_first (helical a (offered N t n)) (λ p. helix_from k N t (N.next n p) p))

-- Searches 6: the helix path from s to t of a first port, uphill or not. Behind it there are as many hops as the target is far (Scouts 10).
unfoldable pub helix_path : Network → ℕ → ℕ → ℕ → Path
helix_path N s t p = p ∷ helix_from (N.distance t (N.next s p)) N t (N.next s p) p

-- Scouts 7: how many free hops there are at the front of a path
unfoldable pub free_front : Network → (ℕ → ℕ → Bool) → ℕ → Path → ℕ
free_front N free n [] = 0
free_front N free n (p ∷ w) = cond (free n p) (suc (free_front N free (N.next n p) w)) 0

-- Searches 8: paths from s tried in turn until one is free, after c scouts. Scouts 7: the free links at the front of each path tried are added.
unfoldable pub try_paths : Network → (ℕ → ℕ → Bool) → ℕ → ℕ → List Path → PassResult
try_paths N free s c [] = none c
try_paths N free s c (w ∷ ws) =
    cond (free_path N free s w) (found w (c + free_front N free s w)) (try_paths N free s (c + free_front N free s w) ws)

-- after an arrival on port a, q is the first that is tried of the ports that n offers
unfoldable pub FirstOffered : Network → ℕ → ℕ → ℕ → ℕ → Type 0
FirstOffered N t n a q = (q ∈ offered N t n) × ((p : ℕ) → p ∈ offered N t n → (p ≡ q) ⊎ Sooner a q p)

-- Searches 6: w is the helix path of port p from s to t, said by places in the path: where w is u, then a hop over a, then one over q, then v, the
-- hop over q starts where u and the hop over a end.
pub record IsHelix (N : Network) (s t p : ℕ) (w : Path) : Type 0 where
  -- it begins with p;
  pub first : (v : Path) × (w ≡ p ∷ v)
  -- behind it, each node adds the one of its uphill ports that comes first in helical order;
  pub later : (u : Path) (a q : ℕ) (v : Path) → w ≡ u ++ a ∷ q ∷ v → FirstOffered N t (end N s (u ++ a ∷ [])) a q
  -- Paths 6: it ends where it first arrives at its target, after at least one hop.
  pub not_before : (u : Path) (q : ℕ) (v : Path) → u ≢ [] → w ≡ u ++ q ∷ v → end N s u ≢ t
  pub arrives : end N s w ≡ t

-- Searches 8: the helix paths of the ports of a list, in its order
pub data HelixPaths (N : Network) (s t : ℕ) : List ℕ → List Path → Type 0 where
  no_path : HelixPaths N s t [] []
  path_more : {p : ℕ} {w : Path} {ps : List ℕ} {ws : List Path} → IsHelix N s t p w → HelixPaths N s t ps ws → HelixPaths N s t (p ∷ ps) (w ∷ ws)

module _ (N : Network) (free : ℕ → ℕ → Bool) (s : ℕ) where
  -- Scouts 7: the free hops at the front of w are c. A part of c hops is free, and the link behind it, where there is one, is not.
  pub record Front (w : Path) (c : ℕ) : Type 0 where
    pub front : Path
    pub rest : Path
    pub parts : w ≡ front ++ rest
    pub is_free : free_path N free s front ≡ true
    pub stopped : (q : ℕ) (v : Path) → rest ≡ q ∷ v → free (end N s front) q ≡ false
    pub hops : length front ≡ c

  -- those of each path of a list, added up
  pub data Fronts : List Path → ℕ → Type 0 where
    no_front : Fronts [] 0
    front_more : {w : Path} {ws : List Path} {c n : ℕ} → Front w c → Fronts ws n → Fronts (w ∷ ws) (c + n)

  -- Searches 8: of paths tried in turn, w is free and none before it is; the paths tried are those up to w.
  pub record TriedFound (paths : List Path) (w : Path) (c : ℕ) : Type 0 where
    pub before : List Path
    pub after : List Path
    pub place : paths ≡ before ++ w ∷ after
    pub is_free : free_path N free s w ≡ true
    pub first : (v : Path) → v ∈ before → free_path N free s v ≡ true → ⊥
    pub scouts : Fronts (before ++ w ∷ []) c

  -- None of them is free; all were tried.
  pub record TriedNone (paths : List Path) (c : ℕ) : Type 0 where
    pub nothing : (v : Path) → v ∈ paths → free_path N free s v ≡ true → ⊥
    pub scouts : Fronts paths c

  abbrev pub TriedSays : List Path → PassResult → Type 0
  TriedSays paths (none c) = TriedNone paths c
  TriedSays paths (found w c) = TriedFound paths w c
