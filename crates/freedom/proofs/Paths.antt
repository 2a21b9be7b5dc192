-- Two cubes of one dimension, of any fold masks, where each link that is free in the one is a free link of the other: a permitted path that is free in the one is permitted
-- and free in the other.
-- Assumes nothing.
use mathlib.Core.Path.{◌≡◌, refl}
use mathlib.Core.Bool.{Bool, true}
use mathlib.Core.List.{List, [], ◌∷◌}
use Prim.Native.Nat.{ℕ}
use Rattle.common.specs.Lists.{◌∈◌}
use Rattle.common.proofs.Tests.{both, and}
use Rattle.cube.specs.Axes.{present}
use Rattle.paths.specs.Network.{Path, free_path}
use Rattle.paths.specs.Permitted.{Onward, Permitted}
use Rattle.paths.specs.Sentences.{Free}
use Rattle.paths.specs.CubeNetwork.{Shape, Node, LinkOf, ports, network, send_ports, other_ports}
use Rattle.paths.proofs.CubeNetwork.{port_there, port_inside, offered_port, port_offered, send_port, other_port}
use Rattle.paths.proofs.FoldedCube.{port_listed}
use Rattle.paths.proofs.Inclusion.{FreePermitted}

-- each link of the cube S that f calls free is one of the cube R, and g calls it free
abbrev pub FreeInOther : (S R : Shape) (f g : ℕ → ℕ → Bool) → Type 0
FreeInOther S R f g = (n p : ℕ) → LinkOf S n p → f n p ≡ true → (present R.dimension R.fold p ≡ true) × (g n p ≡ true)

module _ (S R : Shape) (f g : ℕ → ℕ → Bool) (more : FreeInOther S R f g) (t : ℕ) where
  free_port : (n p : ℕ) → Node S n → p ∈ ports S → f n p ≡ true → (p ∈ ports R) × (g n p ≡ true)
  free_port n p i m e = let r = more n p (i, port_there S p m) e in (port_listed R p r.0, r.1)

  -- a way on
  onward_too : (n : ℕ) (w : Path) → Node S n → Onward (network S) t n w → Free (network S) f n w → Onward (network R) t n w × Free (network R) g n w
  unfolding Onward free_path network
  onward_too n [] i o e = (o, refl)
  onward_too n (p ∷ w) i o e =
      let k = offered_port S t n p o.1 in
      let b = both (f n p) _ e in
      let r = free_port n p i k.0 b.0 in
      let rest = onward_too ((network S).next n p) w (port_inside S n p i k.0) o.2 b.1 in
      ((o.0, port_offered R t n p r.0 k.1, rest.0), and r.1 rest.1)

  -- and a path, where the ports that it may begin with are among those of the other, as far as these are ports there
  pub permitted_too : (ps rs : List ℕ) → ((p : ℕ) → p ∈ ps → p ∈ ports S) → ((p : ℕ) → p ∈ ps → p ∈ ports R → p ∈ rs) → (s : ℕ) (w : Path) → Node S s
      → Permitted (network S) s ps t w → Free (network S) f s w → Permitted (network R) s rs t w × Free (network R) g s w
  unfolding Permitted free_path network
  permitted_too ps rs there too s [] i o e = elim o [ ]
  permitted_too ps rs there too s (p ∷ w) i o e =
      let b = both (f s p) _ e in
      let r = free_port s p i (there p o.0) b.0 in
      let rest = onward_too ((network S).next s p) w (port_inside S s p i (there p o.0)) o.1 b.1 in
      ((too p o.0 r.0, rest.0), and r.1 rest.1)

  module _ (s x : ℕ) (source : Node S s) where
    -- So it is of the paths of a pass, be it over the ports of the send vector
    pub given_too : FreePermitted (network S) f s (send_ports S x) t → FreePermitted (network R) g s (send_ports R x) t
    given_too h =
        let r = permitted_too (send_ports S x) (send_ports R x) (λ p m. ((send_port S x p).0 m).0) (λ p m k. (send_port R x p).1 (k, ((send_port S x p).0 m).1)) s h.0 source h.1 h.2 in
        (h.0, r.0, r.1)

    -- or over the others.
    pub others_too : FreePermitted (network S) f s (other_ports S x) t → FreePermitted (network R) g s (other_ports R x) t
    others_too h =
        let r = permitted_too (other_ports S x) (other_ports R x) (λ p m. ((other_port S x p).0 m).0) (λ p m k. (other_port R x p).1 (k, ((other_port S x p).0 m).1)) s h.0 source h.1 h.2 in
        (h.0, r.0, r.1)
