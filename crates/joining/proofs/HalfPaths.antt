-- The permitted paths of a half in the joined cube: each is permitted there too, from and to the nodes `behind` farther, and its links are those of the half, `behind` farther.
-- Assumes nothing.
use mathlib.Core.Path.{◌≡◌, refl, ap}
use mathlib.Core.List.{[], ◌∷◌, map}
use Prim.Native.Nat.{ℕ, suc, ◌+◌, ◌^◌, ◌<◌}
use native.Mathlib.Omega.{arith}
use Rattle.cube.specs.Cube.{largest_dimension}
use Rattle.paths.specs.Network.{Network, Path, links}
use Rattle.paths.specs.Permitted.{Onward, Permitted}
use Rattle.paths.specs.CubeNetwork.{unfolded, ports, network}
use Rattle.paths.proofs.CubeNetwork.{offered_port, port_inside}
use Rattle.joining.proofs.HalfNodes.{Half, next_behind, port_behind, offered_behind}

-- a link, or a receive channel, of the node `behind` farther
abbrev pub link_behind : ℕ → ℕ × ℕ → ℕ × ℕ
link_behind behind l = (l.0 + behind, l.1)

module _ {D behind : ℕ} (half : Half D behind) (room : D < largest_dimension) where
  abbrev N : Network
  N = network (unfolded D)

  abbrev M : Network
  M = network (unfolded (suc D))

  -- a way on is one there, with its links `behind` farther
  onward_behind : (t n : ℕ) (w : Path) → t < 2 ^ D → n < 2 ^ D → Onward N t n w → Onward M (t + behind) (n + behind) w
  unfolding Onward
  onward_behind t n [] i h o = ap (◌+ behind) o
  onward_behind t n (q ∷ w) i h o =
      let m = (offered_port (unfolded D) t n q o.1).0 in (
        (λ e. o.0 (omega arith)),
        offered_behind half room t n q i h o.1,
        rw (next_behind half n q h m) (onward_behind t (N.next n q) w i (port_inside (unfolded D) n q h m) o.2),
      )

  onward_links : (t n : ℕ) (w : Path) → n < 2 ^ D → Onward N t n w → links M (n + behind) w ≡ map (link_behind behind) (links N n w)
  unfolding Onward links
  onward_links t n [] h o = refl
  onward_links t n (q ∷ w) h o =
      let m = (offered_port (unfolded D) t n q o.1).0 in
      rw (next_behind half n q h m) (ap ((n + behind, q) ∷◌) (onward_links t (N.next n q) w (port_inside (unfolded D) n q h m) o.2))

  -- and so is a permitted path
  pub permitted_behind : (s t : ℕ) (w : Path) → s < 2 ^ D → t < 2 ^ D → Permitted N s (ports (unfolded D)) t w → Permitted M (s + behind) (ports (unfolded (suc D))) (t + behind) w
  unfolding Permitted
  permitted_behind s t [] h i o = o
  permitted_behind s t (q ∷ w) h i o = (
    port_behind half room q o.0,
    rw (next_behind half s q h o.0) (onward_behind t (N.next s q) w i (port_inside (unfolded D) s q h o.0) o.1),
  )

  pub links_behind : (s t : ℕ) (w : Path) → s < 2 ^ D → Permitted N s (ports (unfolded D)) t w → links M (s + behind) w ≡ map (link_behind behind) (links N s w)
  unfolding Permitted links
  links_behind s t [] h o = refl
  links_behind s t (q ∷ w) h o =
      rw (next_behind half s q h o.0) (ap ((s + behind, q) ∷◌) (onward_links t (N.next s q) w (port_inside (unfolded D) s q h o.0) o.1))
