-- What a search comes to sends no more scouts than n where it finds nothing, and one more at most where it finds a path: of a scan, with the members that are not whole; of helix paths,
-- with as many as each has hops behind its first.
-- Assumes nothing.
use mathlib.Core.Path.{◌≡◌, refl}
use mathlib.Core.Bool.{Bool, true, false, cond, not, true≢false}
use mathlib.Core.List.Memᴰ
use mathlib.Core.List.{List, [], ◌∷◌, map}
use Prim.Native.Nat.{ℕ, suc, ◌+◌, ◌≤◌, ◌<◌}
use native.Mathlib.Omega.{arith}
use lib.ListN.{length}
use Rattle.std.specs.List.{sum_by}
use Rattle.std.proofs.lemmas.List.Sums.{sum_by-cons}
use Rattle.common.specs.Lists.{◌∈◌, keep}
use Rattle.paths.specs.Network.{Network, Path, free_path}
use Rattle.paths.specs.Pass.{PassResult, none, found, scan}
use Rattle.paths.specs.Helix.{helix_path, free_front, try_paths}
use Rattle.paths.proofs.Helix.{helix_short}
use Rattle.paths.proofs.Tried.{try_free, try_on, front_free}

unfoldable pub AtMost : ℕ → PassResult → Type 0
AtMost n (none c) = c ≤ n
AtMost n (found w c) = c ≤ suc n

pub within_more : (m n : ℕ) (x : PassResult) → m ≤ n → AtMost m x → AtMost n x
unfolding AtMost
within_more m n (none c) h i = omega arith
within_more m n (found w c) h i = omega arith

pub scan_within : (f g : Path → Bool) (ws : List Path) (c : ℕ) → AtMost (c + length (keep (λ w. not (g w)) ws)) (scan f g c ws)
unfolding keep scan
scan_within f g [] c = unfold AtMost in omega arith
scan_within f g (w ∷ ws) c = go (f w) (g w) (scan_within f g ws (suc c)) (scan_within f g ws c)
  where
    rest : List Path
    rest = keep (λ w. not (g w)) ws

    go : (a b : Bool) → AtMost (suc c + length rest) (scan f g (suc c) ws) → AtMost (c + length rest) (scan f g c ws)
        → AtMost (c + length (cond (not b) (w ∷ rest) rest)) (cond a (cond b (found w (suc c)) (scan f g (suc c) ws)) (scan f g c ws))
    go true true i j = unfold AtMost in omega arith
    go true false i j = within_more _ _ _ (omega arith) i
    go false true i j = j
    go false false i j = within_more _ _ _ (omega arith) j

module _ (N : Network) (free : ℕ → ℕ → Bool) where
  -- a path that is not free has fewer free hops at its front than hops
  front_stops : (n : ℕ) (w : Path) → free_path N free n w ≡ false → free_front N free n w < length w
  unfolding free_front free_path
  front_stops n [] e = absurd (true≢false e)
  front_stops n (p ∷ w) e = go (free n p) refl (front_stops (N.next n p) w)
    where
      go : (b : Bool) → free n p ≡ b → (free_path N free (N.next n p) w ≡ false → free_front N free (N.next n p) w < length w)
          → cond b (suc (free_front N free (N.next n p) w)) 0 < suc (length w)
      go true i h = let r = h (rw i at e) in omega arith
      go false i h = omega arith

  module _ (s t : ℕ) (most : ℕ → ℕ) where
    pub tried_within : (ps : List ℕ) (c : ℕ) → ((p : ℕ) → p ∈ ps → N.distance t (N.next s p) ≤ most p) → AtMost (c + sum_by most ps) (try_paths N free s c (map (helix_path N s t) ps))
    tried_within [] c h = unfold try_paths AtMost in omega arith
    tried_within (p ∷ ps) c h =
        go (free_path N free s (helix_path N s t p)) refl
        (tried_within ps (c + free_front N free s (helix_path N s t p)) (λ q m. h q (Memᴰ.tail m)))
      where
        few : N.distance t (N.next s p) ≤ most p
        few = h p (Memᴰ.head refl)

        w : Path
        w = helix_path N s t p

        ws : List Path
        ws = map (helix_path N s t) ps

        go : (b : Bool) → free_path N free s w ≡ b → AtMost (c + free_front N free s w + sum_by most ps) (try_paths N free s (c + free_front N free s w) ws)
            → AtMost (c + sum_by most (p ∷ ps)) (try_paths N free s c (w ∷ ws))
        go true e ih = rw (try_free N free s c w ws e) (unfold AtMost in omega (arith, front_free N free s w e, helix_short N s t p, few, sum_by-cons most p ps))
        go false e ih = rw (try_on N free s c w ws e) (within_more _ _ _ (omega (arith, front_stops s w e, helix_short N s t p, few, sum_by-cons most p ps)) ih)
