-- Following the links of a circuit, as the code's branches meet it, on a board of w positions.
-- Assumes nothing.
use mathlib.Core.Path.{◌≡◌, refl, ap, sym, ◌∙◌}
use mathlib.Core.Logic.{⊎_elim}
use mathlib.Core.Bool.{Bool, true, false, not}
use mathlib.Core.List.{List, [], ◌∷◌}
use Prim.Native.Nat.{ℕ, ◌+◌, ◌-◌, ◌^◌, ◌≤◌, ◌<◌}
use native.Mathlib.Omega.{arith}
use native.Mathlib.Nat.{lt_of_le_of_lt, lt_of_lt_of_le}
use lib.Bits.{bit_xor, bit_and, and_le_l}
use lib.Dec.{eqb}
use lib.ListN.{length}
use lib.Pow.{pow_mono}
use borrow.Author.Tests.{eqb-true, eqb-false}
use Rattle.std.specs.Option.{option_or}
use Rattle.std.specs.Prelude.{Option, None, Some}
use Rattle.common.specs.Lists.{any, lowest}
use Rattle.common.proofs.Every.{decide}
use Rattle.common.proofs.Lists.{any_some, some_any}
use Rattle.common.proofs.Lowest.{lowest_here, lowest_on, lowest_end, lowest_passes, lowest_found, lowest_before}
use Rattle.common.proofs.Tests.{below_or, both, and, clash, is_false}
use Rattle.cube.specs.Axes.{positions}
use Rattle.cube.specs.Bits.{has}
use Rattle.cube.specs.CubeContracts.{AxisPorts}
use Rattle.cube.specs.Cube.{next}
use Rattle.cube.specs.declared.kinds.Port.{Port}
use Rattle.cube.specs.Helical.{ports_of}
use Rattle.cube.proofs.Bits.{has_and, zero_has, no_ports}
use Rattle.cube.proofs.Order.{ports_mem, mem_ports, ports_wider}
use Rattle.paths.specs.BoardPorts.{BoardPorts}
use Rattle.paths.specs.CubeNetwork.{network}
use Rattle.paths.specs.HelixLinks.{largest}
use Rattle.paths.proofs.CubeNetwork.{port_inside}
use Rattle.paths.proofs.FoldedCube.{board_port}
use Rattle.paths.proofs.Following as On
use Rattle.paths.proofs.Walks.{way_back_axis}
use Rattle.entries.specs.EntryContracts.{InTable}
use Rattle.table.specs.View.{View, view, net, held_by}
use Rattle.circuit_path.specs.Follow.{holds_port, comes_back, links_followed, first_hop, port_is, BoardHere}

-- some port of a vector passes that a number has too, exactly where both have a port that does
pub any_and : (w x v : ℕ) (f : ℕ → Bool) → x < 2 ^ w → ((p : ℕ) → p < w → has x p ≡ f p) → (small : bit_and x v < 2 ^ w) → not (eqb (bit_and x v) 0) ≡ any f (ports_of w v)
any_and w x v f h bits small = go (eqb (bit_and x v) 0) refl
  where
    go : (b : Bool) → eqb (bit_and x v) 0 ≡ b → not b ≡ any f (ports_of w v)
    go true e =
        sym (is_false _ (λ o. let r = any_some f (ports_of w v) o in
        let i = ports_mem w v r.1 in
        clash (has_and x v r.0 ∙ and (bits r.0 i.0 ∙ r.2) i.1) (ap (λ y. has y r.0) (eqb-true _ 0 e) ∙ zero_has r.0)))
    go false e =
        ⊎_elim
        (λ r. let k = both (has x r.0) (has v r.0) (sym (has_and x v r.0) ∙ r.2) in sym (some_any f (ports_of w v) (mem_ports w v r.0 r.1 k.1) (sym (bits r.0 r.1) ∙ k.0)))
        (λ r. absurd (eqb-false _ 0 e (no_ports w _ small r))) (decide w (has (bit_and x v)))

-- a port found below p is the lowest that passes; where none was, the lowest from p on is
abbrev pub Found : ℕ → (ℕ → Bool) → ℕ → Option Port → Type 0
Found w f p None = lowest f (w - p) p ≡ lowest f w 0
Found w f p (Some q) = (q.0 ≡ lowest f w 0) × (q.0 < w)

module _ (w : ℕ) (f : ℕ → Bool) (p : Port) (h : p.0 < w) where
  pub found_here : f p.0 ≡ true → (found : Option Port) → Found w f p.0 found → Found w f (p.0 + 1) (option_or found (Some p))
  found_here e None g = (sym (lowest_here f w p.0 h e) ∙ g, h)
  found_here e (Some q) g = g

  pub found_past : f p.0 ≡ false → (found : Option Port) → Found w f p.0 found → Found w f (p.0 + 1) found
  found_past e None g = sym (lowest_on f w p.0 h e) ∙ g
  found_past e (Some q) g = g

module _ (w : ℕ) (v : View) (c n vector : ℕ) where
  -- a port that is not taken does not come back
  pub no_back : (p : ℕ) → holds_port v c n vector p ≡ false → comes_back w v c n vector p ≡ false
  unfolding comes_back
  no_back p e = rw e

  pub first_back : (p : ℕ) → p ≡ lowest (comes_back w v c n vector) w 0 → p < w → p ≡ first_hop w v c n vector
  unfolding comes_back holds_port first_hop
  first_back p e h = e ∙ On.first_back (net v) (held_by v c) w n vector (omega (arith, e))

  first_taken : w ≤ lowest (comes_back w v c n vector) w 0 → lowest (holds_port v c n vector) w 0 ≡ first_hop w v c n vector
  unfolding comes_back holds_port first_hop
  first_taken h = On.first_taken (net v) (held_by v c) w n vector h

  -- where the way back is not held at any port, the first hop is the lowest that was found
  pub first_found : (p : ℕ) → p ≡ w → lowest (comes_back w v c n vector) (w - p) p ≡ lowest (comes_back w v c n vector) w 0
      → (found : Option Port) → Found w (holds_port v c n vector) p found → port_is w (first_hop w v c n vector) found
  first_found p z e None g =
      let hop = first_taken (omega (arith, z, sym (lowest_end _ w p z) ∙ e)) in
      omega (arith, z, sym (lowest_end _ w p z) ∙ g, hop)
  first_found p z e (Some q) g = (g.0 ∙ first_taken (omega (arith, z, sym (lowest_end _ w p z) ∙ e)), g.1)

  -- none is taken before the lowest of the vector, and none where it is empty
  taken_has : (p : ℕ) → holds_port v c n vector p ≡ true → has vector p ≡ true
  unfolding holds_port
  taken_has p e = (both (has vector p) _ e).0

  pub none_held : w ≤ positions → positions ≤ lowest (has vector) positions 0 → w ≤ lowest (holds_port v c n vector) w 0
  none_held m h =
      ⊎_elim (λ l. let on = taken_has _ (lowest_passes (holds_port v c n vector) w 0 (omega (arith, l))) in absurd (omega (arith, m, h, l, lowest_found (has vector) 18 0 _ (omega arith) on)))
      (λ l. l) (below_or w (lowest (holds_port v c n vector) w 0))

  pub before_first : (j : ℕ) → j < lowest (has vector) positions 0 → holds_port v c n vector j ≡ false
  before_first j l = is_false _ (λ e. clash (taken_has j e) (lowest_before (has vector) 18 0 j (omega arith) l))

  -- following: on by the lowest port, or no further
  pub follow_port : (q : ℕ) → q ≡ lowest (holds_port v c n vector) w 0 → q < w → has vector q ≡ true
  follow_port q e h = taken_has q (ap (holds_port v c n vector) e ∙ lowest_passes (holds_port v c n vector) w 0 (omega (arith, e)))

  pub follow_on : (q m : ℕ) → q ≡ lowest (holds_port v c n vector) w 0 → q < w → AxisPorts w q m
      → links_followed w v c n vector ≡ q ∷ links_followed w v c (next n q) (bit_xor vector (bit_and vector m))
  unfolding links_followed holds_port network
  follow_on q m e h axes = On.follow_on (net v) (held_by v c) w n vector q m e h axes

  pub follow_some : (q : ℕ) → q ≡ lowest (holds_port v c n vector) w 0 → q < w → 1 ≤ length (links_followed w v c n vector)
  unfolding links_followed holds_port
  follow_some q e h = On.follow_some (net v) (held_by v c) w n vector q e h

  pub follow_end : w ≤ lowest (holds_port v c n vector) w 0 → links_followed w v c n vector ≡ []
  unfolding links_followed holds_port
  follow_end h = On.follow_end (net v) (held_by v c) w n vector h

-- Where the way back is looked for: a node again, and a vector that a row has room for.
pub back_within : {long q w f : ℕ} {b : List ℕ} (v : View) (c : ℕ) {n p vector to : ℕ} → InTable long q b n p → BoardHere q w f (view b) → BoardPorts w (largest f) vector → holds_port v c n vector p ≡ true → to ≡ next n p → (m : ℕ)
    → InTable long q b to 0 × (bit_and vector m < 2 ^ q)
unfolding holds_port network
back_within {f = f} v c {n} {p} {vector} within board ports on e m = (
  record {
    bytes = within.bytes;
    node = rw e (port_inside (largest f) n p within.node (board_port (largest f) ports p (both (has vector p) _ on).0));
    port = omega (arith, within.port);
  },
  lt_of_lt_of_le (lt_of_le_of_lt (and_le_l vector m) ports.below) (pow_mono board.row),
)

-- A port that is taken comes back where some port of its axis is held there.
pub back_held : (v : View) (c n p : ℕ) {q w f vector m to : ℕ} {r : Bool} → BoardHere q w f v → vector < 2 ^ w → AxisPorts w p m → to ≡ next n p → holds_port v c n vector p ≡ true
    → r ≡ any (held_by v c to) (ports_of q (bit_and vector m)) → r ≡ comes_back w v c n vector p
unfolding comes_back network
back_held v c n p {q} {w} {f} {vector} {m} board l axes e on told =
    told ∙ ap (any (held_by v c _)) (ports_wider w q (bit_and vector m) board.row (lt_of_le_of_lt (and_le_l vector m) l))
    ∙ ap (λ x. any (held_by v c x) (ports_of w (bit_and vector m))) e ∙ sym (way_back_axis w vector p m axes (net v) (held_by v c) n) ∙ rw on refl
