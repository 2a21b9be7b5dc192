-- Looking at a circuit, as the code's branches meet it.
-- Assumes nothing.
use mathlib.Core.Path.{◌≡◌, ap, sym, ◌∙◌}
use mathlib.Core.Logic.{⊎_elim, ◌≢◌}
use mathlib.Core.Bool.{true}
use mathlib.Core.List.{List, [], ◌∷◌}
use Prim.Native.Nat.{ℕ, ◌-◌, ◌^◌, ◌≤◌, ◌<◌}
use native.Mathlib.Omega.{arith}
use lib.ListN.{length}
use lib.Pow.{pow_pos}
use borrow.Author.Tests.{lt-ltb}
use Rattle.common.specs.Lists.{any}
use Rattle.common.proofs.Lists.{keep_all}
use Rattle.common.proofs.Tests.{below_or}
use Rattle.cube.specs.Axes.{axis}
use Rattle.cube.specs.Bits.{has}
use Rattle.cube.specs.CubeContracts.{WithPartners}
use Rattle.cube.specs.Cube.{largest_dimension, next, source_of}
use Rattle.cube.specs.Helical.{ports_of}
use Rattle.cube.proofs.Order.{byte_vector, ports_wider}
use Rattle.paths.specs.CubeNetwork.{Shape, ports, network, send_ports}
use Rattle.paths.proofs.Apart.{apart_permitted}
use Rattle.paths.proofs.CubeNetwork.{port_axis, path_hops}
use Rattle.paths.proofs.FoldedCube.{partners_send}
use Rattle.paths.proofs.Following as On
use Rattle.paths.proofs.Walks.{path_apart}
use Rattle.entries.specs.EntryContracts.{InTable}
use Rattle.table.specs.View.{View, shape_of, held_by}
use Rattle.circuit_path.specs.CircuitSound.{end_for}
use Rattle.circuit_path.specs.PathOf.{path_of}
use Rattle.circuit_path.specs.OpenCircuit.{is_open_in}
use Rattle.circuit_path.specs.Follow.{links_followed, first_hop, BoardHere, HasSourceIn}
use Rattle.cube.proofs.PortsInside.{ones}
use Rattle.circuit_path.proofs.CircuitSound.{not_empty, open_path}

-- a circuit's path has 9 hops at most
pub path_few : (v : View) (c : ℕ) → v.dimension ≤ largest_dimension → path_of v c ≢ [] → length (path_of v c) ≤ 9
unfolding path_of
path_few v c h some =
    let S = shape_of v in
    let permitted = apart_permitted S (source_of c) (path_of v c) (path_apart S (held_by v c) (source_of c) some) in
    omega (arith, h, (path_hops S (source_of c) (ports S) (end_for v c (path_of v c)) (path_of v c) permitted).1)

module _ {q w f : ℕ} (v : View) (h : v.dimension ≤ largest_dimension) (c : ℕ) (board : BoardHere q w f v) {wide : ℕ} (all : WithPartners f (2 ^ v.dimension - 1) wide × (wide < 2 ^ w)) where
  abbrev S : Shape
  S = shape_of v

  -- the vector of all ports of a cube
  every : send_ports S (2 ^ v.dimension - 1) ≡ ports S
  unfolding send_ports
  every =
      keep_all (λ q. has (2 ^ v.dimension - 1) (axis q)) (ports S)
      (λ q m. let l = port_axis S q m in ones v.dimension (axis q) h (omega (arith, h, l)) ∙ lt-ltb (axis q) v.dimension l)

  pub whole : ports_of w wide ≡ ports S
  whole =
      sym (ports_wider w 18 wide board.most all.1)
      ∙ partners_send S h (2 ^ v.dimension - 1) wide (omega (arith, pow_pos v.dimension)) (rw (← board.folded) all.0) ∙ every

  -- the path that the code follows: its first hop, and what is followed behind it
  pub path_first : {s a start : ℕ} → s ≡ source_of c → a ≡ first_hop w v c s wide → a < w → start ≡ next s a → path_of v c ≡ a ∷ links_followed w v c start wide
  unfolding first_hop links_followed path_of network
  path_first {s} {a} q e l to = rw (to, q) (On.path_first S (held_by v c) (source_of c) w wide a whole (rw q at e) l)

  path_none : {s a : ℕ} → s ≡ source_of c → a ≡ first_hop w v c s wide → w ≤ a → path_of v c ≡ []
  unfolding first_hop path_of
  path_none {s} {a} q e l = On.path_none S (held_by v c) (source_of c) w wide a whole (rw q at e) l

  -- an open circuit has a first hop
  pub hop_below : is_open_in v c ≡ true → {s a : ℕ} → s ≡ source_of c → a ≡ first_hop w v c s wide → a < w
  hop_below o {s} {a} q e = ⊎_elim (λ l. l) (λ l. absurd (not_empty (path_of v c) (sym (open_path v c) ∙ o) (path_none q e l))) (below_or w a)

  -- a circuit is open where it holds a link out of its source
  pub open_vector : {s : ℕ} → s ≡ source_of c → any (held_by v c s) (ports_of q wide) ≡ is_open_in v c
  unfolding is_open_in
  open_vector at_source = rw at_source (ap (any (held_by v c (source_of c))) (ports_wider w q wide board.row all.1 ∙ whole))

-- a circuit's source is a node within the bytes
pub source_within : {long q : ℕ} {b : List ℕ} {c s : ℕ} → 0 < q → HasSourceIn long b c → s ≡ source_of c → InTable long q b s 0
source_within some known e = record { bytes = known.bytes; node = rw e (byte_vector known.fits known.source); port = some }
