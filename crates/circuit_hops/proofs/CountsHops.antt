-- A circuit whose hops are taken: its links are within the cube, and what its marks and the path that was followed tell of it.
-- Assumes nothing.
use mathlib.Core.Path.{◌≡◌, ap, sym, ◌∙◌, subst}
use mathlib.Core.Logic.{⊎_elim, ◌≢◌}
use mathlib.Core.Bool.{Bool, true, false}
use mathlib.Core.List.{List}
use Prim.Native.Nat.{ℕ, ◌*◌, ◌≤◌, ◌<◌}
use native.Mathlib.Omega.{arith}
use lib.Dec.{eqb}
use lib.ListN.{length, get_or}
use lib.Bits.{bit_and}
use Rattle.common.proofs.Tests.{below_or}
use Rattle.cube.specs.Axes.{present}
use Rattle.cube.specs.Bits.{has}
use Rattle.cube.specs.Cube.{channels, cube_nodes, NodeOf, source_of}
use Rattle.paths.specs.CubeNetwork.{Node, LinkOf, circuit_count}
use Rattle.paths.proofs.Apart.{permitted_inside}
use Rattle.paths.proofs.CubeNetwork.{port_there}
use Rattle.paths.proofs.Links.{On}
use Rattle.layout.specs.Layout.{dimension_at}
use Rattle.table.specs.TableContracts.{HeldIn}
use Rattle.table.specs.View.{View, view, shape_of, net, held_by}
use Rattle.table.proofs.CubeRows.{RowOf}
use Rattle.circuit_path.specs.CircuitSound.{end_for, CircuitSound}
use Rattle.circuit_hops.specs.Seen.{with_marks}
use Rattle.std.proofs.Common.{Option, Some, None}
use Rattle.circuit_hops.specs.CountHops.{FollowedPath, StandsNowhere, CountsHops}
use Rattle.circuit_hops.proofs.Seen.{not_seen, seen_before, marks_after}
use Rattle.circuit_hops.proofs.OneBit.{has_below}
use Rattle.circuit_hops.proofs.Ways.{shown}

-- a sound circuit holds links of its cube alone
module _ (b : List ℕ) (c : ℕ) (i : NodeOf (dimension_at b) (source_of c)) (s : CircuitSound (view b) c) where
  pub link_inside : (m q : ℕ) → On (net (view b)) (source_of c) s.path m q → LinkOf (shape_of (view b)) m q
  link_inside m q o =
      let r = (permitted_inside (shape_of (view b)) (source_of c) (end_for (view b) c s.path) s.path (rw (shown b) i) s.permitted).0 m q o in
      (r.0, port_there (shape_of (view b)) q r.1)

  pub held_inside : (m q : ℕ) → held_by (view b) c m q ≡ true → LinkOf (shape_of (view b)) m q
  held_inside m q o = link_inside m q (unfold On in s.exactly.only m q o)

  -- those at its source too
  pub vector_inside : (w : ℕ) {held : ℕ} → HeldIn w b c (source_of c) held → (p : ℕ) → has held p ≡ true → present (view b).dimension (view b).fold p ≡ true
  vector_inside w {held} f p t = (held_inside (source_of c) p (mine (has_below w held p f.small t))).1
    where
      mine : p < w → held_by (view b) c (source_of c) p ≡ true
      mine l = unfold view in sym (f.held p l) ∙ t

pub positive : {c : ℕ} → c ≢ 0 → 0 < c
positive {c} h = ⊎_elim (λ z. absurd (h (omega arith))) (λ z. z) (below_or 1 c)

pub source_inside : (D : ℕ) {nodes c : ℕ} → nodes ≡ cube_nodes D → 0 < c → c ≤ channels * nodes → NodeOf D (source_of c)
source_inside D q h k = omega (arith, q)

-- what following circuit c to node t comes to
abbrev pub HopsFollowed : View → ℕ → ℕ → Option ℕ → Type 0
HopsFollowed v c t (Some hops) = FollowedPath v c t hops × (hops ≤ 9)
HopsFollowed v c t None = StandsNowhere v c t

-- a circuit that is followed and marked; and one that was marked before
module _ (w : ℕ) (b : List ℕ) (row : RowOf (shape_of (view b)) w) (c t : ℕ) (before after : List ℕ) {s held : ℕ} (at : s ≡ source_of c) (f : HeldIn w b c s held) where
  here : HeldIn w b c (source_of c) held
  here = subst (λ (n : ℕ). HeldIn w b c n held) at f

  marked_at : {x : Bool} → x ≡ eqb (bit_and (get_or before s 0) held) 0 → eqb (bit_and (get_or before (source_of c) 0) held) 0 ≡ x
  marked_at e = ap (λ n. eqb (bit_and (get_or before n 0) held) 0) (sym at) ∙ sym e

  pub counts_new : (hops : Option ℕ) → true ≡ eqb (bit_and (get_or before s 0) held) 0 → after ≡ with_marks before s held → s < length before → c ≤ circuit_count (shape_of (view b))
      → HopsFollowed (view b) c t hops → CountsHops (view b) c t before after hops
  counts_new (Some hops) e m i l x =
      record {
        in_range = l;
        found = x.0;
        unseen = not_seen w row before here (marked_at e);
        marks = marks_after w row before here (m ∙ ap (λ n. with_marks before n held) at) (omega arith);
        most = x.1;
      }
  counts_new None e m i l x = λ k z q u. x z q

  pub counts_seen : Node (shape_of (view b)) (source_of c) → ((p : ℕ) → has held p ≡ true → present (view b).dimension (view b).fold p ≡ true) → false ≡ eqb (bit_and (get_or before s 0) held) 0 → CountsHops (view b) c t before after None
  counts_seen node inside e l z q u = u (seen_before w row before here node inside (marked_at e))
