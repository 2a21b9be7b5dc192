-- The cube of any fold mask: an axis has at most two links, so the scouts of a send are bounded; and the vectors of the code, with partners, have the ports that a
-- send tries and a node offers.
-- Assumes nothing.
use mathlib.Core.Path.{◌≡◌, refl, sym, ◌∙◌}
use mathlib.Core.Bool.{Bool, true, ◌&&◌}
use Prim.Native.Nat.{ℕ, ◌+◌, ◌≤◌}
use native.Mathlib.Omega.{arith}
use lib.Bits.{bit_xor, xor_lt}
use lib.ListN.{length}
use Rattle.common.specs.Lists.{◌∈◌, keep, from}
use Rattle.common.proofs.Lists.{keep_keep, keep_same, keep_swap, length_keep}
use Rattle.common.proofs.From.{length_from, below_kept}
use Rattle.cube.specs.Axes.{positions, axis, present}
use Rattle.cube.proofs.Axes.{present_axis}
use Rattle.cube.specs.Bits.{has}
use Rattle.cube.specs.Cube.{largest_dimension, uphill, VectorOf}
use Rattle.cube.specs.CubeContracts.{WithPartners}
use Rattle.cube.specs.Helical.{ports_of}
use Rattle.cube.proofs.PartnerPorts.{count_ports, partners_ports}
use Rattle.cube.proofs.Order.{low_port, mem_ports, ports_mem}
use Rattle.cube.proofs.Ports.{uphill_of}
use Rattle.paths.specs.BoardPorts.{BoardPorts}
use Rattle.paths.specs.Network.{offered}
use Rattle.paths.specs.Pass.{pass, scouts}
use Rattle.paths.specs.CubeNetwork.{Shape, Node, ports, network, send_ports, other_ports}
use Rattle.paths.proofs.CubeNetwork.{LinksEach, cube_nearing, cube_cubical, offered_is, offered_port, port_there, send_port}
use Rattle.paths.proofs.Bound.{two_passes_folded}

-- a port listed is one that is there
pub port_listed : (S : Shape) (q : ℕ) → present S.dimension S.fold q ≡ true → q ∈ ports S
unfolding ports
port_listed S q e = below_kept (present S.dimension S.fold) 18 q (present_axis S.dimension S.fold q e).0 e

-- so each port of a vector of a board is one of the cube's
pub board_port : (S : Shape) {w v : ℕ} → BoardPorts w S v → (q : ℕ) → has v q ≡ true → q ∈ ports S
board_port S vector q e = port_listed S q (vector.there q e)

module _ (S : Shape) (h : S.dimension ≤ largest_dimension) where
  -- Whatever is folded, an axis has at most two links,
  pub two_links : LinksEach S 2
  unfolding ports
  two_links = record { most = λ g. omega (arith, count_ports S.dimension S.fold g (omega arith), folded g) }
    where
      folded : (g : ℕ → Bool) → length (keep (λ a. has S.fold a && g a) (from 0 S.dimension)) ≤ length (keep g (from 0 S.dimension))
      folded g = rw (← keep_keep g (has S.fold) (from 0 S.dimension), keep_swap g (has S.fold) (from 0 S.dimension)) (length_keep (has S.fold) _)

  -- so both passes together send no more than the beginnings of a cube that is folded throughout,
  pub folded_bound : (s t v : ℕ) (f g : ℕ → ℕ → Bool) → scouts (pass (network S) f s (send_ports S v) t) + scouts (pass (network S) g s (other_ports S v) t) ≤ 35099560
  unfolding send_ports other_ports
  folded_bound s t v f g = two_passes_folded (cube_nearing S t) (cube_cubical S two_links t) h s (λ q. has v (axis q)) f g refl

  -- and a vector has at most 16 ports.
  pub send_ports_few : (v : ℕ) → length (send_ports S v) ≤ 16
  unfolding send_ports
  send_ports_few v = omega (arith, two_links.most (has v), length_keep (has v) (from 0 S.dimension), length_from 0 S.dimension)

  -- A send vector with its partners has the ports that the send tries first,
  pub partners_send : (v wide : ℕ) → VectorOf S.dimension v → WithPartners S.fold v wide → ports_of positions wide ≡ send_ports S v
  unfolding send_ports ports
  partners_send v wide l w = partners_ports S.dimension S.fold v wide (omega arith) l w

  -- and the uphill vector with its partners has the ports that a node offers.
  pub partners_offered : (n t wide : ℕ) → Node S n → Node S t → WithPartners S.fold (bit_xor n t) wide → offered (network S) t n ≡ ports_of positions wide
  unfolding send_ports
  partners_offered n t wide i l w =
      offered_is S t n ∙ keep_same (λ q. uphill t n (axis q)) (λ q. has (bit_xor n t) (axis q)) (ports S) (λ q m. sym ((uphill_of n t).bits (axis q)))
      ∙ sym (partners_send (bit_xor n t) wide (xor_lt S.dimension n t i l) w)

  pub has_offered : (n t wide : ℕ) → Node S n → Node S t → WithPartners S.fold (bit_xor n t) wide → (q : ℕ) → has wide q ≡ true → q ∈ offered (network S) t n
  has_offered n t wide i l w q e = rw (partners_offered n t wide i l w) (mem_ports 18 wide q (low_port 18 wide q w.small e) e)

  pub offered_has : (n t wide : ℕ) → Node S n → Node S t → WithPartners S.fold (bit_xor n t) wide → (q : ℕ) → q ∈ offered (network S) t n → has wide q ≡ true
  offered_has n t wide i l w q m = (ports_mem 18 wide (rw (partners_offered n t wide i l w) at m)).1

  -- So each of its ports is a port of the cube.
  pub partners_there : (n t wide : ℕ) → Node S n → Node S t → WithPartners S.fold (bit_xor n t) wide → (q : ℕ) → has wide q ≡ true → present S.dimension S.fold q ≡ true
  partners_there n t wide i l w q e = port_there S q (offered_port S t n q (has_offered n t wide i l w q e)).0

  pub send_there : (v wide : ℕ) → VectorOf S.dimension v → WithPartners S.fold v wide → (q : ℕ) → has wide q ≡ true → present S.dimension S.fold q ≡ true
  send_there v wide l w q e = port_there S q ((send_port S v q).0 (rw (partners_send v wide l w) at (mem_ports 18 wide q (low_port 18 wide q w.small e) e))).0
