-- A circuit that stands on a path: the path recovered from its links is that one. And an open circuit: its links make a path.
-- Assumes nothing.
use mathlib.Core.Path.{◌≡◌, refl, sym, ◌∙◌, ap}
use mathlib.Core.Logic.{◌≢◌}
use mathlib.Core.Bool.{Bool, true, false, not, false≢true, not-not}
use mathlib.Core.List.{List, [], ◌∷◌, ◌++◌}
use Prim.Native.Nat.{ℕ}
use Rattle.common.specs.Lists.{keep, any}
use Rattle.cube.specs.Cube.{source_of}
use Rattle.paths.specs.Network.{Network, Path, take_first}
use Rattle.paths.specs.CubeNetwork.{ports}
use Rattle.paths.specs.Recover.{first_hop_choices, path_of_links}
use Rattle.paths.specs.Permitted.{Permitted}
use Rattle.paths.proofs.Recover.{path_found}
use Rattle.table.specs.View.{View, shape_of, net, held_by}
use Rattle.circuit_path.specs.CircuitSound.{end_for, CircuitSound}
use Rattle.circuit_path.specs.OpenCircuit.{is_open_in}
use Rattle.circuit_path.specs.PathOf.{path_of, is_empty}

pub not_empty : (w : Path) → not (is_empty w) ≡ true → w ≢ []
unfolding is_empty
not_empty [] e q = false≢true e
not_empty (p ∷ w) e q = let z : is_empty (p ∷ w) ≡ true = ap is_empty q in false≢true z

pub some_hop : (N : Network) (s : ℕ) (vector : List ℕ) (t : ℕ) (w : Path) → Permitted N s vector t w → not (is_empty w) ≡ true
unfolding Permitted is_empty
some_hop N s vector t [] o = elim o [ ]
some_hop N s vector t (p ∷ w) o = refl

module _ (v : View) where
  -- the path recovered is the one on which a circuit stands
  pub path_is : (c : ℕ) (s : CircuitSound v c) → path_of v c ≡ s.path
  unfolding path_of
  path_is c s = path_found (shape_of v) (held_by v c) (source_of c) (end_for v c s.path) s.path s.permitted s.exactly

  -- so it has exactly one path and one receive channel
  pub stands_once : (c : ℕ) (s r : CircuitSound v c) → (s.path ≡ r.path) × (s.receive ≡ r.receive)
  stands_once c s r = (sym (path_is c s) ∙ path_is c r, (r.once (end_for v c s.path) s.receive s.receives).1)

kept_empty : (f : ℕ → Bool) (xs : List ℕ) → is_empty (keep f xs) ≡ not (any f xs)
unfolding is_empty keep any
kept_empty f [] = refl
kept_empty f (x ∷ xs) = go (f x) refl (kept_empty f xs)
  where
    go : (b : Bool) → f x ≡ b → is_empty (keep f xs) ≡ not (any f xs) → is_empty (keep f (x ∷ xs)) ≡ not (any f (x ∷ xs))
    go true e ih = rw e
    go false e ih = rw e ih

first_empty : (g : ℕ → Bool) (ys : List ℕ) (on : ℕ → Path) → is_empty (take_first (keep g ys ++ ys) on) ≡ is_empty ys
unfolding is_empty take_first keep
first_empty g [] on = refl
first_empty g (y ∷ ys) on = go (keep g (y ∷ ys))
  where
    go : (zs : List ℕ) → is_empty (take_first (zs ++ y ∷ ys) on) ≡ false
    go [] = refl
    go (z ∷ zs) = refl

-- The first hop of a circuit's path is taken among the links that it holds out of its source, so it has a path where it holds one.
pub open_path : (v : View) (c : ℕ) → is_open_in v c ≡ not (is_empty (path_of v c))
unfolding is_open_in path_of path_of_links first_hop_choices
open_path v c = sym (not-not _) ∙ ap not (sym (first_empty _ _ _ ∙ kept_empty (held_by v c (source_of c)) (ports (shape_of v))))

-- and one that stands is open
pub sound_open : (v : View) (c : ℕ) → CircuitSound v c → is_open_in v c ≡ true
sound_open v c k = open_path v c ∙ rw (path_is v c k) (some_hop (net v) (source_of c) _ _ k.path k.permitted)
