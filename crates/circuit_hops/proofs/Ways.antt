-- Walking over links that are the only ones offered of those that a circuit holds at their nodes.
-- Assumes nothing.
use mathlib.Core.Path.{◌≡◌, refl, ap, sym, ◌∙◌, subst}
use mathlib.Core.Logic.{◌⊎◌, inl, inr, ⊎_elim, ◌≢◌}
use mathlib.Core.Bool.{Bool, true, not, ◌&&◌}
use lib.Dec.{eqb}
use borrow.Author.Tests.{eqb-false, not-true}
use mathlib.Core.List.{List, [], ◌∷◌}
use Prim.Native.Nat.{ℕ, ◌+◌, ◌^◌, ◌≤◌, ◌<◌}
use native.Mathlib.Omega.{arith}
use native.Mathlib.Nat.{lt_of_le_of_lt, lt_of_lt_of_le}
use lib.Bits.{bit_and, bit_xor, and_le_l, xor_lt}
use lib.Pow.{pow_pos}
use Rattle.common.specs.Decides.{Decides}
use Rattle.common.specs.Lists.{◌∈◌, from}
use Rattle.common.proofs.Lists.{length_keep}
use Rattle.common.proofs.From.{length_from}
use Rattle.common.proofs.Tests.{both, and}
use Rattle.cube.specs.Bits.{has}
use Rattle.cube.specs.CubeContracts.{UphillVector, WithPartners, PortsInside}
use Rattle.cube.specs.Axes.{present}
use Rattle.cube.specs.Cube.{largest_dimension, cube_nodes, NodeOf, next, uphill}
use Rattle.cube.proofs.Bits.{has_and}
use Rattle.paths.specs.Network.{Path, offered}
use Rattle.paths.specs.Permitted.{Onward}
use Rattle.paths.specs.CubeNetwork.{network}
use Rattle.paths.proofs.CubeNetwork.{offered_port, port_inside, cube_nearing}
use Rattle.paths.proofs.FoldedCube.{has_offered, offered_has}
use Rattle.paths.proofs.Links.{On, on_cases, on_first_lem, on_later, on_none, onward_past}
use Rattle.layout.specs.Layout.{dimension_at, fold_at}
use Rattle.table.specs.TableContracts.{HeldIn, links_held_of}
use Rattle.table.specs.View.{View, view, shape_of, net, held_by}
use Rattle.std.proofs.Common.{Option, Some, None}
use Rattle.circuit_hops.specs.CountHops.{OnePort, Sole, SoleWay, Walks}
use Rattle.circuit_hops.proofs.OneKept.{few_kept}
use Rattle.circuit_hops.proofs.OneBit.{sole_bit, some_bit, bit_has, bit_only, has_below}

module _ (v : View) (c t : ℕ) where
  -- such a way is one of uphill hops, over links of the circuit
  pub way_onward : (n : ℕ) (w : Path) → SoleWay v c t n w → Onward (net v) t n w
  unfolding SoleWay Onward network
  way_onward n [] x = x
  way_onward n (p ∷ w) x = (x.0, x.1, way_onward (next n p) w x.3)

  pub way_owned : (n : ℕ) (w : Path) → SoleWay v c t n w → (m q : ℕ) → On (net v) n w m q → held_by v c m q ≡ true
  unfolding SoleWay Sole network
  way_owned n [] x m q o = absurd (on_none (net v) n m q o)
  way_owned n (p ∷ w) x m q o = ⊎_elim (λ e. rw (e.0, e.1) x.2.0) (λ k. way_owned (next n p) w x.3 m q k) (on_cases (net v) n p w m q o)

  -- each of its links is offered at its node
  pub onward_offered : (n : ℕ) (w : Path) → Onward (net v) t n w → (m q : ℕ) → On (net v) n w m q → q ∈ offered (net v) t m
  unfolding Onward network
  onward_offered n [] o m q i = absurd (on_none (net v) n m q i)
  onward_offered n (p ∷ w) o m q i = ⊎_elim (λ e. rw (e.0, e.1) o.1) (λ k. onward_offered (next n p) w o.2 m q k) (on_cases (net v) n p w m q i)

  -- it is the only way of uphill hops over links of the circuit
  pub way_only : (n : ℕ) (w u : Path) → SoleWay v c t n w → Onward (net v) t n u → ((m q : ℕ) → On (net v) n u m q → held_by v c m q ≡ true) → u ≡ w
  unfolding SoleWay Sole Onward network
  way_only n [] [] x o own = refl
  way_only n [] (p ∷ u) x o own = absurd (o.0 x)
  way_only n (p ∷ w) [] x o own = absurd (x.0 o)
  way_only n (p ∷ w) (q ∷ u) x o own =
      let same : q ≡ p = x.2.1 q o.1 (own n q (on_first_lem (net v) n q u)) in
      ap (q ∷◌) (way_only (next n q) w u (subst (λ (z : ℕ). SoleWay v c t (next n z) w) (sym same) x.3) o.2 (λ m r i. own m r (on_later (net v) n q u m r i))) ∙ ap (◌∷ w) same

  -- uphill hops whose links are the only uphill ones at their nodes are such a way
  pub onward_way : (n : ℕ) (w : Path) → Onward (net v) t n w → ((m q : ℕ) → On (net v) n w m q → Sole v c t m q) → SoleWay v c t n w
  unfolding SoleWay Onward network
  onward_way n [] o s = o
  onward_way n (p ∷ w) o s = (o.0, o.1, s n p (on_first_lem (net v) n p w), onward_way (next n p) w o.2 (λ m q i. s m q (on_later (net v) n p w m q i)))

  -- uphill hops leave each node once
  pub onward_once : (n : ℕ) (w : Path) → Onward (net v) t n w → (m q r : ℕ) → On (net v) n w m q → On (net v) n w m r → q ≡ r
  unfolding Onward
  onward_once n [] o m q r i j = absurd (on_none (net v) n m q i)
  onward_once n (p ∷ w) o m q r i j = go (on_cases (net v) n p w m q i) (on_cases (net v) n p w m r j) (onward_once ((net v).next n p) w o.2 m q r)
    where
      past : (x : ℕ) → m ≡ n → On (net v) ((net v).next n p) w m x → ⊥
      past x e k = onward_past (cube_nearing (shape_of v) t) n p w o x (subst (λ (y : ℕ). On (net v) ((net v).next n p) w y x) e k)

      go : ((m ≡ n) × (q ≡ p)) ⊎ On (net v) ((net v).next n p) w m q → ((m ≡ n) × (r ≡ p)) ⊎ On (net v) ((net v).next n p) w m r
          → (On (net v) ((net v).next n p) w m q → On (net v) ((net v).next n p) w m r → q ≡ r) → q ≡ r
      go (inl e) (inl f) ih = e.1 ∙ sym f.1
      go (inl e) (inr k) ih = absurd (past r e.0 k)
      go (inr k) (inl f) ih = absurd (past q f.0 k)
      go (inr k) (inr l) ih = ih k l

-- the link out of node n that circuit c holds and that is offered towards node t, as a vector, if that is one
abbrev pub SoleUphill : View → ℕ → ℕ → ℕ → Option ℕ → Type 0
SoleUphill v c t n (Some on) = (p : ℕ) × (on ≡ 2 ^ p) × Sole v c t n p × (p ∈ offered (net v) t n)
SoleUphill v c t n None = (p : ℕ) → Sole v c t n p → p ∈ offered (net v) t n → ⊥

-- nodes that a test found to differ
pub differ : {m n : ℕ} → true ≡ not (eqb m n) → m ≢ n
differ {m} {n} e = eqb-false m n (not-true _ (sym e))

-- a vector of one port is not empty
pub not_none : {x : ℕ} → OnePort x → x ≢ 0
unfolding OnePort
not_none p e = omega (arith, p.1, pow_pos p.0)

-- the ports that are offered at node n towards node t, as a vector of so many positions
pub record OfferedVector (width : ℕ) (v : View) (n t vector : ℕ) : Type 0 where
  pub small : vector < 2 ^ width
  pub there : (q : ℕ) → has vector q ≡ true → q ∈ offered (net v) t n
  pub every : (q : ℕ) → q ∈ offered (net v) t n → has vector q ≡ true

-- the uphill vector has no port above 7,
pub uphill_small : {n t vector x : ℕ} → n < 256 → t < 256 → UphillVector n t vector → x ≡ vector → x < 256
uphill_small {n} {t} h l u same = omega (arith, same, u.value, xor_lt 8 n t h l)

-- and with its partners it is that
pub offered_vector : (b : List ℕ) {n t x vector wide fold width : ℕ} → dimension_at b ≤ largest_dimension → NodeOf (dimension_at b) n → NodeOf (dimension_at b) t → UphillVector n t vector → x ≡ vector → fold ≡ fold_at b → WithPartners fold x wide × (wide < 2 ^ width)
    → OfferedVector width (view b) n t wide
unfolding view
offered_vector b {n} {t} {x} {vector} {wide} {fold} d i l u same f w =
    let partners : WithPartners (fold_at b) (bit_xor n t) wide = rw (← f, ← u.value, ← same) w.0 in
    record {
      small = w.1;
      there = has_offered (shape_of (view b)) d n t wide i l partners;
      every = offered_has (shape_of (view b)) d n t wide i l partners;
    }

-- whether every port of a vector is the cube's, as its board answers
pub ports_there : (b : List ℕ) (vector : ℕ) {fold nodes : ℕ} {answer : Bool} → dimension_at b ≤ largest_dimension → nodes ≡ cube_nodes (dimension_at b) → fold ≡ fold_at b → PortsInside fold vector nodes answer
    → Decides ((p : ℕ) → has vector p ≡ true → present (view b).dimension (view b).fold p ≡ true) answer
unfolding view PortsInside
ports_there b vector {answer = answer} d m f x = subst (λ (y : ℕ). Decides ((p : ℕ) → has vector p ≡ true → present (dimension_at b) y p ≡ true) answer) f (x (dimension_at b) d m)

-- the links held at node n that are offered, as a vector
module _ (w : ℕ) {b : List ℕ} {width c n t held up : ℕ} (f : HeldIn w b c n held) (u : OfferedVector width (view b) n t up) (room : width ≤ w) where
  both_small : bit_and held up < 2 ^ w
  both_small = lt_of_le_of_lt (and_le_l held up) f.small

  -- a port that is offered is one of those that a node has
  offered_below : (q : ℕ) → q ∈ offered (net (view b)) t n → q < w
  offered_below q m = lt_of_lt_of_le (has_below width up q u.small (u.every q m)) room

  both_bits : (p : ℕ) → p < w → has (bit_and held up) p ≡ (held_by (view b) c n p && has up p)
  unfolding view
  both_bits p l = has_and held up p ∙ ap (◌&& has up p) (f.held p l)

  -- one port in it is that of the only one, and of no more than one link one at most is offered
  pub one_sole : OnePort (bit_and held up) → SoleUphill (view b) c t n (Some (bit_and held up))
  unfolding Sole OnePort
  one_sole one =
      let p = one.0 in
      let there : has (bit_and held up) p ≡ true = ap (λ x. has x p) one.1 ∙ bit_has p in
      let r = both (held_by (view b) c n p) (has up p) (sym (both_bits p (has_below w _ p both_small there)) ∙ there) in
      (p, one.1, (r.0, λ q m h. bit_only p q (ap (λ x. has x q) (sym one.1) ∙ both_bits q (offered_below q m) ∙ and h (u.every q m))), u.there p r.1)

  pub sole_one : {p : ℕ} → Sole (view b) c t n p → p ∈ offered (net (view b)) t n → OnePort (bit_and held up)
  unfolding Sole OnePort
  sole_one {p} s m = (p, sole_bit w both_small both_bits (offered_below p m) (and s.0 (u.every p m)) (λ q k x. let r = both _ _ x in s.1 q (u.there q r.1) r.0))

  pub few_one : links_held_of w (view b) c n ≤ 1 → bit_and held up ≢ 0 → OnePort (bit_and held up)
  unfolding Sole links_held_of
  few_one few h =
      let p = some_bit w both_small both_bits h in
      let r = both _ _ p.2 in
      sole_one (r.0, λ q m x. few_kept w (held_by (view b) c n) few p.0 p.1 r.0 q (offered_below q m) x) (u.there p.0 r.1)

pub shown : (b : List ℕ) → (view b).dimension ≡ dimension_at b
unfolding view
shown b = refl

pub one_nearer : (v : View) (t n p : ℕ) → p ∈ offered (net v) t n → (net v).distance t n ≡ 1 + (net v).distance t (next n p)
unfolding network
one_nearer v t n p m = let near = (cube_nearing (shape_of v) t).nearer n p m in omega arith

-- what one hop of the walk finds at node n, towards t: the port of the one link held that is offered, and the node that it leads to
pub record WalkStep (b : List ℕ) (c n t to : ℕ) : Type 0 where
  pub port : ℕ
  pub sole : Sole (view b) c t n port
  pub is_offered : port ∈ offered (net (view b)) t n
  pub there : to ≡ next n port
  pub inside : NodeOf (dimension_at b) to
  pub nearer : (net (view b)).distance t n ≡ 1 + (net (view b)).distance t to

-- the branches of the walk: at node n, towards t, after some hops
module _ (b : List ℕ) (c n t hops : ℕ) where
  pub walks_here : n ≡ t → hops ≤ 9 → Walks (view b) c t n hops (Some hops)
  unfolding SoleWay
  walks_here e l = record { way = ([], e, omega arith); most = l }

  -- not one link that is held there is offered
  pub walks_none : n ≢ t → SoleUphill (view b) c t n None → Walks (view b) c t n hops None
  walks_none h none [] s = unfold SoleWay in h s
  walks_none h none (p ∷ w) s = unfold SoleWay in none p s.2 s.1

  pub walk_hop : {on to : ℕ} → SoleUphill (view b) c t n (Some on) → NodeOf (dimension_at b) n → ((p : ℕ) → on ≡ 2 ^ p → to ≡ next n p) → WalkStep b c n t to
  walk_hop {on} {to} one i leads =
      let p = one.0 in
      let there : to ≡ next n p = leads p one.1 in
      record {
        port = p;
        sole = one.2;
        is_offered = one.3;
        there = there;
        inside = rw there (unfold network view in port_inside (shape_of (view b)) n p i (offered_port (shape_of (view b)) t n p one.3).0);
        nearer = one_nearer (view b) t n p one.3 ∙ ap (λ x. 1 + (net (view b)).distance t x) (sym there);
      }

  module _ {to : ℕ} (h : n ≢ t) (x : WalkStep b c n t to) where
    on : (w : Path) → SoleWay (view b) c t to w → SoleWay (view b) c t n (x.port ∷ w)
    on w s = unfold SoleWay in (h, x.is_offered, x.sole, subst (λ (y : ℕ). SoleWay (view b) c t y w) x.there s)

    no_way : ((w : Path) → SoleWay (view b) c t to w → ⊥) → (w : Path) → SoleWay (view b) c t n w → ⊥
    unfolding SoleWay Sole
    no_way none [] s = h s
    no_way none (q ∷ w) s =
        let same : q ≡ x.port = x.sole.1 q s.1 s.2.0 in
        none w (subst (λ (y : ℕ). SoleWay (view b) c t y w) (ap (next n) same ∙ sym x.there) s.3)

    pub walks_on : (r : Option ℕ) → Walks (view b) c t to (hops + 1) r → Walks (view b) c t n hops r
    walks_on (Some r) k = record { way = let w = k.way in (x.port ∷ w.0, on w.0 w.1, omega (arith, w.2)); most = k.most }
    walks_on None k = no_way k

-- a target is at most as many hops away as the largest cube has dimensions
pub distance_most : (v : View) (t n : ℕ) → v.dimension ≤ largest_dimension → (net v).distance t n ≤ largest_dimension
unfolding network
distance_most v t n h = omega (arith, length_keep (uphill t n) (from 0 v.dimension), length_from 0 v.dimension)
