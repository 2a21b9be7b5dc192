-- Following a circuit from its source to a node: over the link by which it leaves the source, and on over those that are its only uphill ones at their nodes.
-- Assumes nothing.
use mathlib.Core.Path.{◌≡◌, refl, ap, sym, ◌∙◌, subst}
use mathlib.Core.Logic.{◌⊎◌, ⊎_elim, ◌≢◌}
use mathlib.Core.Bool.{true, not, ◌&&◌}
use mathlib.Core.List.{List, [], ◌∷◌}
use Prim.Native.Nat.{ℕ, ◌+◌, ◌^◌, ◌≤◌, ◌<◌}
use native.Mathlib.Omega.{arith}
use native.Mathlib.Nat.{lt_of_le_of_lt}
use lib.Bits.{bit_xor, bit_and, and_le_l, xor_lt}
use lib.ListN.{length}
use lib.Pow.{pow_pos, pow-lt}
use borrow.Author.Tests.{not-true}
use Rattle.common.specs.Lists.{◌∈◌, keep, from}
use Rattle.common.proofs.Tests.{clash, is_false, both, and}
use Rattle.cube.specs.Axes.{present}
use Rattle.cube.specs.Bits.{has}
use Rattle.cube.specs.Cube.{NodeOf, next, source_of}
use Rattle.cube.proofs.Bits.{zero_has}
use Rattle.paths.specs.Network.{Path, offered, Exactly}
use Rattle.paths.specs.Permitted.{Onward, Permitted}
use Rattle.paths.specs.CubeNetwork.{network, ports}
use Rattle.paths.proofs.CubeNetwork.{port_there, port_inside, cube_nearing}
use Rattle.paths.proofs.FoldedCube.{port_listed}
use Rattle.paths.proofs.Links.{On, on_cases, on_first_lem, on_later, onward_near}
use Rattle.layout.specs.Layout.{dimension_at}
use Rattle.table.specs.TableContracts.{HeldIn, links_held_of}
use Rattle.table.specs.View.{View, view, shape_of, net, held_by}
use Rattle.table.proofs.CubeRows.{RowOf}
use Rattle.circuit_path.specs.CircuitSound.{end_for, CircuitSound}
use Rattle.std.proofs.Common.{Option, Some, None}
use Rattle.circuit_hops.specs.CountHops.{OnePort, Sole, SoleWay, Walks, HoldsPath, StandsNowhere, Leaving, FollowedPath}
use Rattle.circuit_hops.proofs.OneKept.{one_kept, few_kept}
use Rattle.circuit_hops.proofs.OneBit.{sole_bit, some_bit, bit_has, bit_only, has_below, has_rest}
use Rattle.circuit_hops.proofs.Ways.{OfferedVector, way_onward, way_owned, way_only, onward_way, onward_once, onward_offered, one_nearer}
use Rattle.circuit_hops.proofs.CountsHops.{HopsFollowed}

module _ {v : View} {c t a : ℕ} {w : Path} (x : HoldsPath v c t a w) where
  pub first_there : present v.dimension v.fold a ≡ true
  unfolding Permitted
  first_there = port_there (shape_of v) a x.permitted.0

  onward : Onward (net v) t (next (source_of c) a) w
  unfolding Permitted network
  onward = x.permitted.1

  pub first_held_lem : held_by v c (source_of c) a ≡ true
  unfolding On
  first_held_lem = x.exactly.all (source_of c) a (on_first_lem (net v) (source_of c) a w)

  later_held : (m q : ℕ) → On (net v) (next (source_of c) a) w m q → held_by v c m q ≡ true
  unfolding On network
  later_held m q i = x.exactly.all m q (on_later (net v) (source_of c) a w m q i)

  cases : (m q : ℕ) → held_by v c m q ≡ true → ((m ≡ source_of c) × (q ≡ a)) ⊎ On (net v) (next (source_of c) a) w m q
  unfolding On network
  cases m q h = on_cases (net v) (source_of c) a w m q (x.exactly.only m q h)

  -- where it comes through its source again, its first hop is not offered there
  not_offered : (q : ℕ) → On (net v) (next (source_of c) a) w (source_of c) q → a ∈ offered (net v) t (source_of c) → ⊥
  not_offered q i m = omega (arith, one_nearer v t (source_of c) a m, (onward_near (cube_nearing (shape_of v) t) (next (source_of c) a) w onward (source_of c) q i).0)

  -- so behind it the links are the only ones offered of those held,
  later_sole : (m q : ℕ) → On (net v) (next (source_of c) a) w m q → Sole v c t m q
  unfolding Sole
  later_sole m q i = (
    later_held m q i,
    λ r k h. ⊎_elim (λ e. absurd (not_offered q (subst (λ (n : ℕ). On (net v) (next (source_of c) a) w n q) e.0 i) (rw (e.0, e.1) at k)))
        (λ j. onward_once v c t (next (source_of c) a) w onward m r q j i) (cases m r h),
  )

  -- and of several links at the source its first hop's alone is not offered
  first_alone : (q : ℕ) → a < q → 1 < links_held_of q v c (source_of c) → (a ∈ offered (net v) t (source_of c) → ⊥) × ((r : ℕ) → held_by v c (source_of c) r ≡ true → (r ∈ offered (net v) t (source_of c) → ⊥) → r ≡ a)
  unfolding links_held_of
  first_alone q below more = (
    λ m. omega (arith, one_kept q (held_by v c (source_of c)) a below first_held_lem (λ j l h. ⊎_elim (λ z. z.1) (λ i. absurd (not_offered j i m)) (cases (source_of c) j h))),
    λ r h k. ⊎_elim (λ z. z.1) (λ i. absurd (k (onward_offered v c t (next (source_of c) a) w onward (source_of c) r i))) (cases (source_of c) r h),
  )

-- a sound circuit holds such a path
pub holds_path : (v : View) (c t : ℕ) (z : CircuitSound v c) → end_for v c z.path ≡ t → (a : ℕ) × (w : Path) × (z.path ≡ a ∷ w) × HoldsPath v c t a w
holds_path v c t z e = go z.path (subst (λ (n : ℕ). Permitted (net v) (source_of c) (ports (shape_of v)) n z.path) e z.permitted) z.exactly
  where
    go : (u : Path) → Permitted (net v) (source_of c) (ports (shape_of v)) t u → Exactly (net v) (source_of c) u (held_by v c) → (a : ℕ) × (w : Path) × (u ≡ a ∷ w) × HoldsPath v c t a w
    go [] o x = unfold Permitted in absurd o
    go (a ∷ w) o x = (a, w, refl, record { permitted = o; exactly = x })

-- where there is one, what walking on from there comes to, following the circuit comes to
module _ (b : List ℕ) {c t first : ℕ} (l : Leaving (view b) c t first) where
  port : (p : ℕ) × (first ≡ 2 ^ p)
  unfolding OnePort
  port = l.one

  there : (held_by (view b) c (source_of c) port.0 ≡ true) × (present (view b).dimension (view b).fold port.0 ≡ true)
  there = l.held port.0 (ap (λ x. has x port.0) port.1 ∙ bit_has port.0)

  -- it is a port of the board, as a vector
  pub first_small : {width : ℕ} → ((p : ℕ) → present (view b).dimension (view b).fold p ≡ true → p < width) → (0 < first) × (first < 2 ^ width)
  first_small room = (omega (arith, port.1, pow_pos port.0), rw port.1 (pow-lt (room port.0 there.1)))

  -- it leads to a node of the cube
  module _ {start : ℕ} (leads : (p : ℕ) → first ≡ 2 ^ p → start ≡ next (source_of c) p) where
    to : start ≡ next (source_of c) port.0
    to = leads port.0 port.1

    pub leads_inside : NodeOf (dimension_at b) (source_of c) → NodeOf (dimension_at b) start
    leads_inside i = rw to (unfold network view in port_inside (shape_of (view b)) (source_of c) port.0 i (port_listed (shape_of (view b)) port.0 there.1))

    begins : (z : CircuitSound (view b) c) → end_for (view b) c z.path ≡ t → (w : Path) × (z.path ≡ port.0 ∷ w) × HoldsPath (view b) c t port.0 w
    begins z e =
        let r = holds_path (view b) c t z e in
        let same : r.0 ≡ port.0 = bit_only port.0 r.0 (ap (λ x. has x r.0) (sym port.1) ∙ l.leaves r.0 r.1 r.3) in
        (r.1, r.2 ∙ ap (◌∷ r.1) same, subst (λ (p : ℕ). HoldsPath (view b) c t p r.1) same r.3)

    path_of_lem : {hops : ℕ} (w : Path) → SoleWay (view b) c t (next (source_of c) port.0) w → hops ≡ 1 + length w → FollowedPath (view b) c t hops
    path_of_lem w x k =
        record {
          path = port.0 ∷ w;
          permitted = unfold Permitted network in (port_listed (shape_of (view b)) port.0 there.1, way_onward (view b) c t _ w x);
          owned = λ m q i. unfold On network in ⊎_elim (λ (e : (m ≡ source_of c) × (q ≡ port.0)). rw (e.0, e.1) there.0) (way_owned (view b) c t _ w x m q) (on_cases (net (view b)) (source_of c) port.0 w m q i);
          hop_count = omega arith;
          whole = λ z e. let r = begins z e in r.1 ∙ ap (port.0 ∷◌) (way_only (view b) c t _ w r.0 x (onward r.2) (later_held r.2));
        }

    no_path : ((w : Path) → SoleWay (view b) c t start w → ⊥) → StandsNowhere (view b) c t
    no_path none z e =
        let r = begins z e in
        none r.0 (subst (λ (n : ℕ). SoleWay (view b) c t n r.0) (sym to) (onward_way (view b) c t _ r.0 (onward r.2) (later_sole r.2)))

    pub followed : (hops : Option ℕ) → Walks (view b) c t start 1 hops → HopsFollowed (view b) c t hops
    followed (Some hops) walked = let w = walked.way in (path_of_lem w.0 (subst (λ (n : ℕ). SoleWay (view b) c t n w.0) to w.1) w.2, walked.most)
    followed None none = no_path none

-- the links at the source
module _ (q : ℕ) {b : List ℕ} (row : RowOf (shape_of (view b)) q) {c held : ℕ} (t : ℕ) (f : HeldIn q b c (source_of c) held) where
  here : (p : ℕ) → p < q → has held p ≡ held_by (view b) c (source_of c) p
  unfolding view
  here = f.held

  below : {p : ℕ} {w : Path} → HoldsPath (view b) c t p w → p < q
  below {p} x = row p (first_there x)

  -- one link at most
  pub leaving_one : {s : ℕ} → s ≡ source_of c → links_held_of q (view b) c s ≤ 1 → ((p : ℕ) → has held p ≡ true → present (view b).dimension (view b).fold p ≡ true) → held ≢ 0 → Leaving (view b) c t held
  unfolding links_held_of OnePort
  leaving_one at few inside h =
      record {
        one = let p = some_bit q f.small here h in (p.0, sole_bit q f.small here p.1 p.2 (few_kept q (held_by (view b) c (source_of c)) (subst (λ (n : ℕ). length (keep (held_by (view b) c n) (from 0 q)) ≤ 1) at few) p.0 p.1 p.2));
        held = λ p h. (sym (here p (has_below q held p f.small h)) ∙ h, inside p h);
        leaves = λ p w x. here p (below x) ∙ first_held_lem x;
      }

  -- no link
  pub leaving_none : held ≡ 0 → StandsNowhere (view b) c t
  leaving_none e z y = let r = holds_path (view b) c t z y in clash (here r.0 (below r.3) ∙ first_held_lem r.3) (ap (λ x. has x r.0) e ∙ zero_has r.0)

  -- several: those that are not offered
  module _ {s up room : ℕ} (at : s ≡ source_of c) (u : OfferedVector room (view b) s t up) (more : 1 < links_held_of q (view b) c s) where
    offers : OfferedVector room (view b) (source_of c) t up
    offers = subst (λ (n : ℕ). OfferedVector room (view b) n t up) at u

    out_small : bit_xor held (bit_and held up) < 2 ^ q
    out_small = xor_lt q held (bit_and held up) f.small (lt_of_le_of_lt (and_le_l held up) f.small)

    out_bits : (p : ℕ) → p < q → has (bit_xor held (bit_and held up)) p ≡ (held_by (view b) c (source_of c) p && not (has up p))
    out_bits p l = has_rest held up p ∙ ap (◌&& not (has up p)) (here p l)

    alone : {p : ℕ} {w : Path} → HoldsPath (view b) c t p w → (p ∈ offered (net (view b)) t (source_of c) → ⊥) × ((r : ℕ) → held_by (view b) c (source_of c) r ≡ true → (r ∈ offered (net (view b)) t (source_of c) → ⊥) → r ≡ p)
    alone x = first_alone x q (below x) (subst (λ (n : ℕ). 1 < links_held_of q (view b) c n) at more)

    first_out : {p : ℕ} {w : Path} → HoldsPath (view b) c t p w → (held_by (view b) c (source_of c) p && not (has up p)) ≡ true
    first_out {p} x = and (first_held_lem x) (ap not (is_false (has up p) (λ e. (alone x).0 (offers.there p e))))

    pub leaving_several : ((p : ℕ) → has held p ≡ true → present (view b).dimension (view b).fold p ≡ true) → OnePort (bit_xor held (bit_and held up)) → Leaving (view b) c t (bit_xor held (bit_and held up))
    leaving_several inside one =
        record {
          one = one;
          held = λ p h. let l = has_below q _ p out_small h in let k = (both _ _ (sym (out_bits p l) ∙ h)).0 in (k, inside p (here p l ∙ k));
          leaves = λ p w x. out_bits p (below x) ∙ first_out x;
        }

    -- where they are not one, it holds no path to t
    pub several_none : (OnePort (bit_xor held (bit_and held up)) → ⊥) → StandsNowhere (view b) c t
    several_none none z e = go (holds_path (view b) c t z e).3
      where
        go : {p : ℕ} {w : Path} → HoldsPath (view b) c t p w → ⊥
        go {p} x =
            unfold OnePort in
            none (p, sole_bit q out_small out_bits (below x) (first_out x) (λ r l k. let h = both _ _ k in (alone x).1 r h.0 (λ m. clash (offers.every r m) (not-true _ h.1))))
