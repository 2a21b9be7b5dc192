-- What a send of a routing type would find, were all circuits closed, for each type by what its function answers.
-- Assumes nothing.
use mathlib.Core.Path.{◌≡◌, ap, sym, ◌∙◌}
use mathlib.Core.Bool.{Bool, cond}
use mathlib.Core.List.{List}
use Prim.Native.Nat.{ℕ, ◌-◌, ◌^◌, ◌<◌}
use native.Mathlib.Omega.{arith}
use lib.Dec.{eqb}
use lib.ListN.{take}
use borrow.Author.Tests.{lt-ltb}
use Rattle.common.specs.Lists.{any}
use Rattle.common.proofs.Lists.{keep_all}
use Rattle.cube.specs.RoutingTypes.{SentAs}
use Rattle.cube.specs.declared.routing_type.RoutingType.TheVariants.{Maze, Helix, Fixed, AlternateMaze}
use Rattle.cube.specs.Bits.{has}
use Rattle.common.specs.Lists.{◌∈◌}
use Rattle.std.specs.List.{list_all}
use Rattle.cube.specs.Axes.{positions, axis}
use Rattle.cube.specs.CubeContracts.{WithPartners}
use Rattle.cube.specs.Helical.{ports_of}
use Rattle.cube.proofs.Order.{byte_vector, low_port, ports_mem}
use Rattle.paths.specs.HelixLinks.{LinkInside, helix_links}
use Rattle.paths.proofs.FoldedCube.{partners_send, send_there, port_listed}
use Rattle.paths.proofs.HelixLinks.{free_path_test, links_of, port_largest}
use Rattle.paths.specs.Pass.{pass}
use Rattle.paths.specs.Waiting.{finds_path, some_attempt}
use Rattle.paths.specs.CubeNetwork.{Shape, ports, send_ports, attempts}
use Rattle.paths.proofs.CubeNetwork.{port_axis}
use Rattle.paths.proofs.ByType.{finds_by_type}
use Rattle.layout.specs.Layout.{dimension_at}
use Rattle.table.specs.View.{view, net, shape_of}
use Rattle.cube.proofs.PortsInside.{ones}
use Rattle.reach.specs.Marks.{helix_enabled, MayAsk, CubePort}

module _ {long q w f : ℕ} {b : List ℕ} {s t vector : ℕ} (may : MayAsk long q w f b s t vector) where
  abbrev D : ℕ
  D = dimension_at b

  abbrev S : Shape
  S = shape_of (view b)

  abbrev Finds : ℕ → Bool → Type 0
  Finds type r = r ≡ some_attempt (net (view b)) (view b).enabled s t (attempts S type vector)

  pass_finds : ℕ → Bool
  pass_finds v = finds_path (pass (net (view b)) (view b).enabled s (send_ports S v) t)

  -- the vector of all ports
  all : send_ports S (2 ^ D - 1) ≡ ports S
  unfolding send_ports view
  all =
      keep_all (λ q. has (2 ^ D - 1) (axis q)) (ports S)
      (λ q m. let l = port_axis S q m in ones D (axis q) (omega (arith, may.sweep.fits)) (omega (arith, may.sweep.fits)) ∙ lt-ltb (axis q) D l)

  by_type : (type : ℕ) → some_attempt (net (view b)) (view b).enabled s t (attempts S type vector)
      ≡ cond (eqb type 3) (any (helix_enabled b s t) (take 1 (send_ports S vector)))
      (cond (eqb type 1) (any (helix_enabled b s t) (send_ports S vector)) (cond (eqb type 4) (pass_finds (2 ^ D - 1)) (pass_finds vector)))
  unfolding helix_enabled pass_finds
  by_type type = rw all (finds_by_type S (view b).enabled s t type vector)

  -- A number that is sent as type 3 finds what its lowest port finds,
  pub fixed_finds : {n : ℕ} {r : Bool} → SentAs n Fixed → r ≡ any (helix_enabled b s t) (take 1 (send_ports S vector)) → Finds n r
  fixed_finds {n} as_type h = h ∙ sym (by_type n ∙ rw as_type.fixed)

  -- one that is sent as type 1 what one of its ports finds,
  pub helix_finds : {n : ℕ} {r : Bool} → SentAs n Helix → r ≡ any (helix_enabled b s t) (send_ports S vector) → Finds n r
  helix_finds {n} as_type h = h ∙ sym (by_type n ∙ rw (as_type.fixed, as_type.helix))

  -- one that is sent as type 4 what a pass over all ports finds,
  pub alternate_finds : {n : ℕ} {r : Bool} → SentAs n AlternateMaze → {v : ℕ} → v ≡ 2 ^ D - 1
      → r ≡ finds_path (pass (net (view b)) (view b).enabled s (send_ports S v) t) → Finds n r
  unfolding pass_finds
  alternate_finds {n} as_type i h = h ∙ ap pass_finds i ∙ sym (by_type n ∙ rw (as_type.fixed, as_type.helix, as_type.alternate))

  -- and any other what its pass finds.
  pub maze_finds : {n : ℕ} {r : Bool} → SentAs n Maze → r ≡ finds_path (pass (net (view b)) (view b).enabled s (send_ports S vector) t) → Finds n r
  unfolding pass_finds
  maze_finds {n} as_type h = h ∙ sym (by_type n ∙ rw (as_type.fixed, as_type.helix, as_type.alternate))

  -- The ports of a question's vector: those of the send, each with a helix path in the cube.
  module _ {v : ℕ} (wide : WithPartners f vector v × (v < 2 ^ w)) where
    partners : WithPartners S.fold vector v
    partners = rw (← may.sweep.board.folded) wide.0

    pub asked_ports : ports_of positions v ≡ send_ports S vector
    unfolding view
    asked_ports = partners_send S may.sweep.fits vector v may.ports partners

    pub asked_port : (p : ℕ) → p ∈ ports_of positions v → CubePort w b p
    unfolding view
    asked_port p m =
        let on = (ports_mem 18 v m).1 in
        record { small = low_port w v p wide.1 on; there = send_there S may.sweep.fits vector v may.ports partners p on }

  module _ {p : ℕ} (port : CubePort w b p) where
    pub port_starts : LinkInside w f s p
    unfolding view
    port_starts = (byte_vector may.sweep.fits may.source, port.small, rw may.sweep.board.folded (port_largest S may.sweep.fits t may.sweep.target p port.there))

    pub asked_links : helix_enabled b s t p ≡ list_all (λ l. (view b).enabled l.0 l.1) (helix_links f s t p)
    unfolding helix_enabled view
    asked_links =
        free_path_test (net (view b)) (view b).enabled s _
        ∙ ap (list_all (λ l. (view b).enabled l.0 l.1)) (rw may.sweep.board.folded (links_of S may.sweep.fits t may.sweep.target s p may.source (port_listed S p port.there)))
