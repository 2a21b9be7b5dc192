-- Where nothing is folded and fewer than D links fail, one of the helix paths of the D ports passes: so no send over all ports is route rejected.
-- Assumes nothing.
use mathlib.Core.Path.{◌≡◌, refl, ap, sym, ◌∙◌, subst}
use mathlib.Core.Logic.{inl, inr, ◌≢◌}
use mathlib.Core.Bool.{Bool, false, not}
use mathlib.Core.List.Memᴰ
use mathlib.Core.List.{List}
use Prim.Native.Nat.{ℕ, ◌≤◌, ◌<◌}
use native.Mathlib.Omega.{arith}
use borrow.Author.Tests.{lt-ltb}
use Rattle.common.specs.Lists.{◌∈◌, keep}
use Rattle.common.proofs.Tests.{clash}
use Rattle.common.proofs.Lists.{mem_keep}
use Rattle.cube.specs.Axes.{axis}
use Rattle.cube.specs.Cube.{largest_dimension}
use Rattle.cube.proofs.PortsInside.{ones}
use Rattle.paths.specs.Network.{Path, Link, links}
use Rattle.paths.specs.Permitted.{Permitted}
use Rattle.paths.specs.Helix.{helix_path, IsHelix}
use Rattle.paths.specs.Send.{Receive, route_rejected, pass_over, helix_paths}
use Rattle.paths.specs.Sentences.{Tries}
use Rattle.paths.specs.Waiting.{AllEnabled, SomePathEnabled}
use Rattle.paths.specs.CubeNetwork.{Shape, unfolded, Node, network, ports, send_ports, attempts, send}
use Rattle.paths.proofs.Links.{On}
use Rattle.paths.proofs.Apart.{permitted_inside}
use Rattle.paths.proofs.Helix.{helix_permitted, cube_helix}
use Rattle.paths.proofs.CubeNetwork.{port_axis, send_port, unfolded_port}
use Rattle.paths.proofs.Waiting.{rejected_exactly, waiting_exactly}
use Rattle.faults.specs.Faults.{all_links, failing, full_vector, MazeType, EachPortType}
use Rattle.faults.specs.Theorems.{FewNeverReject}
use Rattle.faults.proofs.HelixApart.{Own, own_once, own_links}
use Rattle.faults.proofs.Counted.{in_all_links, one_passes}

-- the links of a cube that fail a test
abbrev pub failing_links : Shape → (ℕ → ℕ → Bool) → List Link
failing_links S free = keep (λ (l : Link). not (free l.0 l.1)) (all_links S)

pub in_failing : (S : Shape) (free : ℕ → ℕ → Bool) (n p : ℕ) → Node S n → p ∈ ports S → free n p ≡ false → ◌∈◌ {A = Link} (n, p) (failing_links S free)
in_failing S free n p i m e = mem_keep (λ (l : Link). not (free l.0 l.1)) (all_links S) (in_all_links S n p i m) (ap not e)

-- every port of a cube is one of the send over all
pub every_port : (S : Shape) → S.dimension ≤ largest_dimension → (q : ℕ) → q ∈ ports S → q ∈ send_ports S (full_vector S.dimension)
unfolding full_vector
every_port S fits q m =
    let l = port_axis S q m in
    (send_port S (full_vector S.dimension) q).1 (m, ones S.dimension (axis q) fits (omega (arith, l, fits)) ∙ lt-ltb (axis q) S.dimension l)

-- A permitted path of a send of type 0 or 4, and a helix path of one of type 1, with no failing link.
module _ (S : Shape) (free : ℕ → ℕ → Bool) (s t v : ℕ) where
  pub by_pass : (y : ℕ) → MazeType y → (w : Path) → Permitted (network S) s (send_ports S v) t w → AllEnabled (network S) free s w
      → SomePathEnabled (network S) free s t (attempts S y v)
  unfolding SomePathEnabled attempts Tries
  by_pass y (inl e) w o h = rw e (pass_over (send_ports S v), Memᴰ.head refl, (w, o, h))
  by_pass y (inr e) w o h = rw e (pass_over (send_ports S v), Memᴰ.head refl, (w, o, h))

  by_helix : (p : ℕ) → p ∈ send_ports S v → (w : Path) → IsHelix (network S) s t p w → AllEnabled (network S) free s w
      → SomePathEnabled (network S) free s t (attempts S 1 v)
  unfolding SomePathEnabled attempts Tries
  by_helix p m w o h = (helix_paths (send_ports S v), Memᴰ.head refl, (w, (p, m, o), h))

  pub by_type : (y : ℕ) → EachPortType y → (p : ℕ) → p ∈ send_ports S v → (w : Path) → IsHelix (network S) s t p w → AllEnabled (network S) free s w
      → SomePathEnabled (network S) free s t (attempts S y v)
  by_type y (inl e) p m w o h = by_pass y (inl e) w (helix_permitted (network S) s t p o (send_ports S v) m) h
  by_type y (inr (inl e)) p m w o h = rw e (by_helix p m w o h)
  by_type y (inr (inr e)) p m w o h = by_pass y (inr e) w (helix_permitted (network S) s t p o (send_ports S v) m) h

-- Where nothing is folded:
module _ (D : ℕ) (fits : D ≤ largest_dimension) (free : ℕ → ℕ → Bool) (few : failing (unfolded D) free < D) (s t : ℕ) (source : Node (unfolded D) s) (target : Node (unfolded D) t) where
  abbrev S : Shape
  S = unfolded D

  -- each port has its helix path,
  is_helix : (p : ℕ) → p < D → IsHelix (network S) s t p (helix_path (network S) s t p)
  is_helix p l = cube_helix S fits s t p source target ((unfolded_port S fits refl p).1 l)

  -- whose links are the cube's
  inside : (p : ℕ) → p < D → (l : Link) → l ∈ links (network S) s (helix_path (network S) s t p) → Node S l.0 × (l.1 ∈ ports S)
  unfolding On
  inside p i l m = (permitted_inside S s t _ source (helix_permitted (network S) s t p (is_helix p i) (ports S) ((unfolded_port S fits refl p).1 i))).0 l.0 l.1 m

  free_helix : (p : ℕ) × (p < D) × AllEnabled (network S) free s (helix_path (network S) s t p)
  unfolding failing
  free_helix =
      one_passes (network S) free s D (helix_path (network S) s t) (λ p l. Own s p l.0 l.1) (λ p q l. own_once s p q l.0 l.1) (λ p i. own_links D fits s t p i) (failing_links S free)
      (λ p i l m e. let j = inside p i l m in in_failing S free l.0 l.1 j.0 j.1 e) few

  pub few_routes : (y : ℕ) → EachPortType y → SomePathEnabled (network S) free s t (attempts S y (full_vector D))
  few_routes y k =
      let x = free_helix in
      by_type S free s t (full_vector D) y k x.0 (every_port S fits x.0 ((unfolded_port S fits refl x.0).1 x.1)) _ (is_helix x.0 x.1) x.2

-- a send with such a path is not route rejected
pub routes_not_rejected : (S : Shape) (fits : S.dimension ≤ largest_dimension) (free : ℕ → ℕ → Bool) (r : Receive) (s t y v : ℕ) → Node S s → Node S t
    → SomePathEnabled (network S) free s t (attempts S y v) → (send y S free r s v t).outcome ≢ route_rejected
routes_not_rejected S fits free r s t y v i j x e = clash ((waiting_exactly S fits s t y v i j free).1 x) ((rejected_exactly S fits s t y v i j free r).0 e)

pub few_never_reject : FewNeverReject
few_never_reject D fits free few r s t y i j k = routes_not_rejected (unfolded D) fits free r s t y (full_vector D) i j (few_routes D fits free few s t i j y k)

-- The same of a shape whose fold mask is 0.
pub unfolded_routes : (S : Shape) → S.fold ≡ 0 → S.dimension ≤ largest_dimension → (free : ℕ → ℕ → Bool) → failing S free < S.dimension → (s t : ℕ) → Node S s → Node S t
    → (y : ℕ) → EachPortType y → SomePathEnabled (network S) free s t (attempts S y (full_vector S.dimension))
unfolded_routes S z fits free few s t i j y k =
    let flat : S ≡ unfolded S.dimension = λ x. record { dimension = S.dimension; fold = z x } in
    subst (λ (X : Shape). failing X free < S.dimension → SomePathEnabled (network X) free s t (attempts X y (full_vector S.dimension))) (sym flat)
    (λ few. few_routes S.dimension fits free few s t i j y k) few
