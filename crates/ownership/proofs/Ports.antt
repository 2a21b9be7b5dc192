-- One cube with two fold masks: a path has the same links in both, and is permitted in the other where its ports are there.
-- Assumes nothing.
use mathlib.Core.Path.{◌≡◌, refl, ap}
use mathlib.Core.Bool.{Bool, true, false, ◌&&◌, ◌||◌, beq}
use mathlib.Core.List.Memᴰ
use mathlib.Core.List.{[], ◌∷◌}
use Prim.Native.Nat.{ℕ}
use lib.Dec.{eqb, ltb}
use Rattle.common.specs.Lists.{◌∈◌}
use Rattle.cube.specs.Bits.{has}
use Rattle.cube.specs.Axes.{axis, present}
use Rattle.cube.specs.Cube.{next}
use Rattle.paths.specs.Network.{Network, Path, Link, links}
use Rattle.paths.specs.Permitted.{Onward, Permitted}
use Rattle.paths.specs.CubeNetwork.{Shape, ports, network}
use Rattle.paths.proofs.CubeNetwork.{offered_port, port_offered}
use Rattle.paths.proofs.FoldedCube.{port_listed}
use Rattle.cube.proofs.PartnerPorts.{same_test}
use Rattle.ownership.specs.History.{keeps_bit}

-- A port that is its own axis, or whose axis has the same bit in both masks, is there with one as with the other.
pub kept_port : (D fold mask p : ℕ) → keeps_bit fold mask p ≡ true → present D fold p ≡ present D mask p
unfolding present
kept_port D fold mask p k = go (eqb p (axis p)) k
  where
    go : (x : Bool) → x || beq (has fold (axis p)) (has mask (axis p)) ≡ true
        → (ltb p 18 && (ltb (axis p) D && (x || has fold (axis p)))) ≡ (ltb p 18 && (ltb (axis p) D && (x || has mask (axis p))))
    go true e = refl
    go false e = ap (λ (b : Bool). ltb p 18 && (ltb (axis p) D && b)) (same_test (has fold (axis p)) (has mask (axis p)) e)

-- the links of a path do not depend on the dimension, nor on the fold mask
pub same_links : (S T : Shape) (n : ℕ) (w : Path) → links (network S) n w ≡ links (network T) n w
unfolding links network
same_links S T n [] = refl
same_links S T n (p ∷ w) = ap ((n, p) ∷◌) (same_links S T (next n p) w)

-- each port of a path is that of one of its links
pub port_link : (N : Network) (n : ℕ) (w : Path) (q : ℕ) → q ∈ w → (m : ℕ) × ◌∈◌ {A = Link} (m, q) (links N n w)
unfolding links
port_link N n [] q i = elim i [ ]
port_link N n (p ∷ w) q (Memᴰ.head e) = (n, Memᴰ.head (ap (λ (x : ℕ). (n, x)) e))
port_link N n (p ∷ w) q (Memᴰ.tail i) = let r = port_link N (N.next n p) w q i in (r.0, Memᴰ.tail r.1)

-- a permitted path whose ports are there in the other cube is permitted in it
module _ (S T : Shape) (t : ℕ) where
  onward_in : (n : ℕ) (w : Path) → ((q : ℕ) → q ∈ w → present T.dimension T.fold q ≡ true) → Onward (network S) t n w → Onward (network T) t n w
  unfolding Onward network
  onward_in n [] there o = o
  onward_in n (p ∷ w) there o =
      (o.0, port_offered T t n p (port_listed T p (there p (Memᴰ.head refl))) (offered_port S t n p o.1).1, onward_in (next n p) w (λ q m. there q (Memᴰ.tail m)) o.2)

  pub permitted_in : (s : ℕ) (w : Path) → ((q : ℕ) → q ∈ w → present T.dimension T.fold q ≡ true) → Permitted (network S) s (ports S) t w → Permitted (network T) s (ports T) t w
  unfolding Permitted network
  permitted_in s [] there o = o
  permitted_in s (p ∷ w) there o = (port_listed T p (there p (Memᴰ.head refl)), onward_in (next s p) w (λ q m. there q (Memᴰ.tail m)) o.1)
