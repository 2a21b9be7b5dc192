-- Tracing: what is followed fits the buffer, what is written hop after hop is the path, with what was there behind it, and the last node is its end.
-- Assumes nothing.
use mathlib.Core.Path.{◌≡◌, refl, ap, sym, ◌∙◌}
use mathlib.Core.Logic.{⊎_elim, ◌≢◌}
use mathlib.Core.Bool.{true}
use mathlib.Core.List.{List, [], ◌∷◌, ◌++◌}
use Prim.Native.Nat.{ℕ, ◌+◌, ◌-◌, ◌^◌, ◌≤◌, ◌<◌}
use native.Mathlib.Omega.{arith}
use native.Mathlib.Nat.{zero-add, lt_of_le_of_lt}
use native.Mathlib.Numerals.{add-one}
use lib.Bits.{bit_xor, bit_and, xor_lt, and_le_l}
use Rattle.entries.specs.EntryContracts.{InTable}
use lib.Pow.{pow_pos}
use lib.ListN.{length, set, drop, length-set}
use lib.Seq.{sets, sets-eq}
use Rattle.common.specs.Lists.{◌∈◌, lowest}
use Rattle.common.proofs.Tests.{below_or, both, clash}
use Rattle.cube.specs.Bits.{has}
use Rattle.cube.specs.CubeContracts.{AxisPorts, WithPartners}
use Rattle.cube.specs.Cube.{largest_dimension, next, source_of}
use Rattle.cube.specs.Helical.{ports_of}
use Rattle.cube.proofs.Bits.{high_has}
use Rattle.cube.proofs.Order.{byte_vector, low_port, mem_ports}
use Rattle.cube.proofs.PartnerPorts.{without_axis}
use Rattle.paths.specs.BoardPorts.{BoardPorts}
use Rattle.paths.specs.HelixLinks.{largest}
use Rattle.paths.proofs.HelixLinks.{port_largest}
use Rattle.paths.specs.Network.{Path, end}
use Rattle.paths.specs.CubeNetwork.{Node, ports, network}
use Rattle.paths.specs.Recover.{first_hop_choices}
use Rattle.paths.proofs.CubeNetwork.{port_inside, port_there}
use Rattle.paths.proofs.FoldedCube.{board_port, send_there}
use Rattle.paths.proofs.Following.{first_member}
use Rattle.paths.proofs.Recover.{drop_shorter, first_choice}
use Rattle.paths.proofs.Walks.{drop_axis_ports}
use Rattle.layout.specs.Layout.{dimension_at}
use Rattle.table.specs.View.{View, view, shape_of, net, held_by}
use Rattle.circuit_path.specs.CircuitSound.{end_for}
use Rattle.circuit_path.specs.PathOf.{path_of}
use Rattle.circuit_path.specs.OpenCircuit.{is_open_in}
use Rattle.circuit_path.specs.Traced.{traced_into}
use Rattle.circuit_path.specs.Follow.{holds_port, links_followed, first_hop, port_is, BoardHere, HasSourceIn}
use Rattle.std.specs.Prelude.{Option, None, Some}
use Rattle.std.specs.Option.{IsSome}
use Rattle.cube.specs.declared.kinds.Port.{Port}
use Rattle.circuit_path.proofs.Hops.{follow_on, follow_some, follow_end, follow_port}
use Rattle.circuit_path.proofs.Examine.{hop_below, path_first, path_few, whole}

-- writing from place 0 on leaves the path, and what was there behind it
pub written_whole : (w : Path) (buffer : List ℕ) → length w ≤ length buffer → sets buffer 0 w ≡ traced_into w buffer
unfolding traced_into
written_whole w buffer h = sets-eq w buffer 0 (omega arith) ∙ ap (λ i. w ++ drop i buffer) (zero-add (length w))

-- What holds while the ports are written: from node n on, the hops to come and those written are as many as the path has, the hops to come end where
-- all of them end, and writing their ports leaves what writing all of them leaves. The first hop, to node n₀, is written before.
pub record Tracing (w : ℕ) (v : View) (c : ℕ) (buffer₀ : List ℕ) (left₀ n₀ : ℕ) (buffer : List ℕ) (left n hops : ℕ) : Type 0 where
  pub node : Node (shape_of v) n
  pub vector_ports : BoardPorts w (shape_of v) left
  pub few : 1 + length (links_followed w v c n₀ left₀) ≤ 9
  pub count : hops + length (links_followed w v c n left) ≡ 1 + length (links_followed w v c n₀ left₀)
  pub ends : end (net v) n (links_followed w v c n left) ≡ end (net v) n₀ (links_followed w v c n₀ left₀)
  pub bytes : sets buffer hops (links_followed w v c n left) ≡ sets buffer₀ 1 (links_followed w v c n₀ left₀)
  pub long : length buffer ≡ length buffer₀

-- the node reached is one within the bytes
pub at_node : {long q w : ℕ} {b : List ℕ} {c left₀ n₀ left n hops : ℕ} {buffer₀ buffer : List ℕ} → 0 < q → HasSourceIn long b c → Tracing w (view b) c buffer₀ left₀ n₀ buffer left n hops → InTable long q b n 0
unfolding view
at_node some known inv = record { bytes = known.bytes; node = byte_vector known.fits inv.node; port = some }

-- there is a place for the next port
pub on_place : {w : ℕ} {v : View} {c left₀ n₀ left n hops q : ℕ} {buffer₀ buffer : List ℕ} → Tracing w v c buffer₀ left₀ n₀ buffer left n hops → q ≡ lowest (holds_port v c n left) w 0 → q < w → hops < 9
on_place {w} {v} {c} {left = left} {n = n} {q = q} inv e h = omega (arith, inv.count, follow_some w v c n left q e h, inv.few)

-- one turn at node n: on by port q
module _ {w : ℕ} {v : View} {c left₀ n₀ left n hops q : ℕ} {buffer₀ buffer : List ℕ} (inv : Tracing w v c buffer₀ left₀ n₀ buffer left n hops) (e : q ≡ lowest (holds_port v c n left) w 0) (h : q < w) {m : ℕ} (axes : AxisPorts w q m) where
  on : links_followed w v c n left ≡ q ∷ links_followed w v c (next n q) (bit_xor left (bit_and left m))
  on = follow_on w v c n left q m e h axes

  here : has left q ≡ true
  here = follow_port w v c n left q e h

  rest : BoardPorts w (shape_of v) (bit_xor left (bit_and left m))
  rest =
      record {
        below = xor_lt w left (bit_and left m) inv.vector_ports.below (lt_of_le_of_lt (and_le_l left m) inv.vector_ports.below);
        there = λ p i. ⊎_elim (λ l. inv.vector_ports.there p (both (has left p) _ (sym (without_axis w left q m axes p l) ∙ i)).0)
            (λ l. absurd (clash i (high_has w _ p (xor_lt w left (bit_and left m) inv.vector_ports.below (lt_of_le_of_lt (and_le_l left m) inv.vector_ports.below)) l))) (below_or w p);
      }

  -- fewer ports are left
  pub on_falls : length (ports_of w (bit_xor left (bit_and left m))) < length (ports_of w left)
  on_falls = rw (← drop_axis_ports w left q m axes) (drop_shorter q (ports_of w left) (mem_ports w left q h here))

  pub on_tracing : {to : ℕ} → to ≡ next n q → Tracing w v c buffer₀ left₀ n₀ (set buffer hops q) (bit_xor left (bit_and left m)) to (hops + 1)
  on_tracing {to} k =
      let to_on : links_followed w v c n left ≡ q ∷ links_followed w v c to (bit_xor left (bit_and left m)) = on ∙ ap (λ x. q ∷ links_followed w v c x (bit_xor left (bit_and left m))) (sym k) in
      record {
        node = rw k (unfold network in port_inside (shape_of v) n q inv.node (board_port (shape_of v) inv.vector_ports q here));
        vector_ports = rest;
        few = inv.few;
        count = omega (arith, inv.count, ap length to_on);
        ends = sym (ap (end (net v) n) to_on ∙ (unfold end network in ap (λ x. end (net v) x (links_followed w v c to (bit_xor left (bit_and left m)))) (sym k))) ∙ inv.ends;
        bytes = ap (λ i. sets (set buffer hops q) i (links_followed w v c to (bit_xor left (bit_and left m)))) (add-one hops) ∙ ap (sets buffer hops) (sym to_on) ∙ inv.bytes;
        long = length-set buffer hops q ∙ inv.long;
      }

-- the whole path, from the vector of all ports and the source
module _ {long ports_q w f : ℕ} {b : List ℕ} {c s wide : ℕ} (known : HasSourceIn long b c) (board : BoardHere ports_q w f (view b)) (all : WithPartners f (2 ^ dimension_at b - 1) wide × (wide < 2 ^ w)) (q : s ≡ source_of c) (some : is_open_in (view b) c ≡ true) where
  abbrev v : View
  v = view b

  small : v.dimension ≤ largest_dimension
  unfolding view
  small = known.fits

  every : WithPartners f (2 ^ v.dimension - 1) wide × (wide < 2 ^ w)
  unfolding view
  every = all

  -- the ports of the vector, in the largest cube of that mask
  pub every_port : BoardPorts w (largest f) wide
  unfolding view
  every_port =
      record {
        below = all.1;
        there = λ p e. rw board.folded (port_largest (shape_of (view b)) known.fits (source_of c) known.source p
            (send_there (shape_of (view b)) known.fits (2 ^ dimension_at b - 1) wide (omega (arith, pow_pos (dimension_at b))) (rw (← board.folded) all.0) p e));
      }

  -- there is a first hop
  pub hop_found : (r : Option Port) → port_is w (first_hop w (view b) c s wide) r → IsSome r
  hop_found None h = absurd (omega (arith, h, hop_below v small c board every some q refl))
  hop_found (Some p) h = refl

  module _ {a start : ℕ} (e : a ≡ first_hop w (view b) c s wide) (below : a < w) (to : start ≡ next s a) where
    path_is : path_of v c ≡ a ∷ links_followed w v c start wide
    path_is = path_first v small c board every q e below to

    some_path : path_of v c ≢ []
    some_path z = nil-cons (sym z ∙ path_is)
      where
        nil-cons : {x : ℕ} {xs : List ℕ} → [] ≡ x ∷ xs → ⊥
        nil-cons i = omega (arith, ap length i)

    few_hops : length (path_of v c) ≤ 9
    few_hops = path_few v c small some_path

    here_port : a ∈ ports (shape_of v)
    here_port =
        let m : a ∈ first_hop_choices (net v) (ports_of w wide) (held_by v c) s = unfold first_hop in first_member w _ (sym e) below in
        rw (whole v small c board every) at (first_choice (net v) (ports_of w wide) (held_by v c) s a m).0

    pub start_tracing : (buffer : List ℕ) → Tracing w (view b) c buffer wide start buffer wide start 1
    start_tracing buffer =
        record {
          node = rw to (unfold network in port_inside (shape_of v) s a (rw q (unfold view in known.source)) here_port);
          vector_ports =
              record {
                below = every.1;
                there = λ p i. port_there (shape_of v) p (rw (whole v small c board every) at (mem_ports w wide p (low_port w wide p every.1 i) i));
              };
          few = omega (arith, few_hops, ap length path_is);
          count = refl;
          ends = refl;
          bytes = refl;
          long = refl;
        }

    -- no hop is left
    pub end_tracing : (buffer : List ℕ) {after : List ℕ} {left n hops : ℕ} → 9 ≤ length buffer → Tracing w (view b) c (set buffer 0 a) wide start after left n hops
        → w ≤ lowest (holds_port (view b) c n left) w 0
        → (hops ≡ length (path_of (view b) c)) × (hops ≤ 9) × ((n ≡ end_for (view b) c (path_of (view b) c)) × (after ≡ traced_into (path_of (view b) c) buffer))
    unfolding end network
    end_tracing buffer {after} {left} {n} {hops} room inv l =
        let none = follow_end w (view b) c n left l in
        let short : length (path_of (view b) c) ≤ length buffer = omega (arith, few_hops) in
        let starts : start ≡ next (source_of c) a = to ∙ ap (λ x. next x a) q in (
          omega (arith, inv.count, ap length none, ap length path_is),
          omega (arith, inv.count, ap length none, inv.few),
          (
            sym (ap (end (net (view b)) n) none) ∙ inv.ends ∙ ap (λ x. end (net (view b)) x (links_followed w (view b) c start wide)) starts ∙ ap (end_for (view b) c) (sym path_is),
            sym (ap (sets after hops) none) ∙ inv.bytes ∙ ap (sets buffer 0) (sym path_is) ∙ written_whole (path_of (view b) c) buffer short,
          ),
        )
