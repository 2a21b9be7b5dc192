-- Whatever links are owned, those of the path that walking over them gives are owned, and behind its first hop it takes no axis twice; and the walk as the
-- code takes it, port by port.
-- Assumes nothing.
use mathlib.Core.Path.{◌≡◌, refl, ap, sym, ◌∙◌}
use mathlib.Core.Logic.{⊎_elim, ◌≢◌}
use mathlib.Core.Bool.{Bool, true, false, not, ◌&&◌}
use mathlib.Core.List.Memᴰ
use mathlib.Core.List.{List, [], ◌∷◌}
use Prim.Native.Nat.{ℕ, zero, suc, ◌≤◌, ◌<◌}
use native.Mathlib.Omega.{arith}
use lib.Bits.{bit_and, bit_xor}
use lib.Dec.{eqb}
use lib.ListN.{length}
use borrow.Author.Tests.{eqb-true, eq-eqb}
use Rattle.common.specs.Lists.{◌∈◌, keep, from, any}
use Rattle.common.proofs.Tests.{clash, both, and, is_false}
use Rattle.common.proofs.Lists.{all_cons, keep_nil, keep_keep, keep_mem, keep_same, any_some, some_any}
use Rattle.common.proofs.From.{from_below}
use Rattle.cube.specs.CubeContracts.{Without, AxisPorts}
use Rattle.cube.specs.Axes.{axis}
use Rattle.cube.specs.Bits.{has}
use Rattle.cube.specs.Helical.{ports_of}
use Rattle.cube.proofs.Axes.{axis_low}
use Rattle.cube.proofs.Bits.{has_and}
use Rattle.cube.proofs.Order.{mem_ports, ports_mem, ports_without}
use Rattle.cube.proofs.PartnerPorts.{without_axis}
use Rattle.paths.specs.Network.{Network, Path, take_first}
use Rattle.paths.specs.CubeNetwork.{Shape, ports, network}
use Rattle.paths.specs.Recover.{drop_axis, walk_from, way_back, path_of_links}
use Rattle.paths.proofs.Links.{On, on_cases, on_none}
use Rattle.paths.proofs.Apart.{Avoids, Apart, LaterApart}
use Rattle.paths.proofs.Reach.{same_truth}
use Rattle.paths.proofs.Recover.{take_all, drop_mem, drop_shorter, first_choice}

-- What holds of the empty path, and carries over from a path to the path with a port in front that was left and whose link is owned, holds
-- of every walk.
walk_all : (N : Network) (own : ℕ → ℕ → Bool) (P : List ℕ → ℕ → Path → Type 0) → ((left : List ℕ) (n : ℕ) → P left n [])
    → ((left : List ℕ) (n p : ℕ) (w : Path) → p ∈ left → own n p ≡ true → P (drop_axis p left) (N.next n p) w → P left n (p ∷ w)) → (k : ℕ) (left : List ℕ) (n : ℕ) → P left n (walk_from k N left own n)
unfolding walk_from
walk_all N own P none more zero left n = none left n
walk_all N own P none more (suc k) left n =
    take_all (P left n) (keep (own n) left) _ (none left n) (λ p m. let i = keep_mem (own n) left m in more left n p _ i.0 i.1 (walk_all N own P none more k (drop_axis p left) (N.next n p)))

-- So, whatever the walk gives, its links are owned,
abbrev Owned : Network → (ℕ → ℕ → Bool) → ℕ → Path → Type 0
Owned N own n w = (m q : ℕ) → On N n w m q → own m q ≡ true

owned_none : (N : Network) (own : ℕ → ℕ → Bool) (n : ℕ) → Owned N own n []
owned_none N own n m q i = absurd (on_none N n m q i)

owned_more : (N : Network) (own : ℕ → ℕ → Bool) (n p : ℕ) (w : Path) → own n p ≡ true → Owned N own (N.next n p) w → Owned N own n (p ∷ w)
owned_more N own n p w e rest m q i = ⊎_elim (λ here. rw (here.0, here.1) e) (rest m q) (on_cases N n p w m q i)

pub path_owned : (S : Shape) (own : ℕ → ℕ → Bool) (s m q : ℕ) → On (network S) s (path_of_links S own s) m q → own m q ≡ true
unfolding path_of_links
path_owned S own s =
    take_all (Owned N own s) _ _ (owned_none N own s)
    (λ b i. owned_more N own s b _ (first_choice N _ own s b i).1 (walk_all N own (λ left. Owned N own) (λ left. owned_none N own) (λ left n p w j. owned_more N own n p w) 18 (ports S) (N.next s b)))
  where
    N : Network
    N = network S

-- and it is empty or takes ports of the cube, behind the first no axis twice: so it is a permitted path to its own end.
walk_apart : (S : Shape) (N : Network) (own : ℕ → ℕ → Bool) (k : ℕ) (left : List ℕ) (n : ℕ)
    → ((q : ℕ) → q ∈ walk_from k N left own n → q ∈ left) × (((q : ℕ) → q ∈ left → q ∈ ports S) → Apart S (walk_from k N left own n))
unfolding Apart Avoids
walk_apart S N own =
    walk_all N own (λ left n w. ((q : ℕ) → q ∈ w → q ∈ left) × (((q : ℕ) → q ∈ left → q ∈ ports S) → Apart S w)) (λ left n. ((λ q m. absurd (Memᴰ.not-nil m)), (λ below. tt)))
    (λ left n p w i e rest. (
      all_cons (◌∈ left) i (λ q m. (drop_mem p left (rest.0 q m)).0),
      (λ there. (there p i, (λ q m. (drop_mem p left (rest.0 q m)).1), rest.1 (λ q m. there q (drop_mem p left m).0))),
    ))

pub path_apart : (S : Shape) (own : ℕ → ℕ → Bool) (s : ℕ) → path_of_links S own s ≢ [] → LaterApart S (path_of_links S own s)
unfolding path_of_links LaterApart
path_apart S own s =
    take_all (λ v. v ≢ [] → LaterApart S v) _ _ (λ e. absurd (e refl))
    (λ b i e. ((first_choice (network S) _ own s b i).0, (walk_apart S (network S) own 18 (ports S) ((network S).next s b)).1 (λ q m. m)))

-- with no port left the walk is empty
walk_empty : (N : Network) (own : ℕ → ℕ → Bool) (k : ℕ) (left : List ℕ) (n : ℕ) → length left ≤ 0 → walk_from k N left own n ≡ []
unfolding walk_from take_first
walk_empty N own zero left n h = refl
walk_empty N own (suc k) [] n h = rw (keep_nil (own n))
walk_empty N own (suc k) (x ∷ left) n h = absurd (omega arith)

-- How many hops the walk may look ahead does not matter, as long as it may take every port left.
pub walk_fuel : (N : Network) (own : ℕ → ℕ → Bool) (k j : ℕ) (left : List ℕ) (n : ℕ) → length left ≤ k → length left ≤ j → walk_from k N left own n ≡ walk_from j N left own n
unfolding walk_from take_first
walk_fuel N own zero j left n h l = sym (walk_empty N own j left n h)
walk_fuel N own (suc k) zero left n h l = walk_empty N own (suc k) left n l
walk_fuel N own (suc k) (suc j) left n h l = go (keep (own n) left) (λ p m. (keep_mem (own n) left m).0) (λ p m. walk_fuel N own k j (drop_axis p left) (N.next n p))
  where
    go : (ps : List ℕ) → ((p : ℕ) → p ∈ ps → p ∈ left)
        → ((p : ℕ) → p ∈ left → length (drop_axis p left) ≤ k → length (drop_axis p left) ≤ j → walk_from k N (drop_axis p left) own (N.next n p) ≡ walk_from j N (drop_axis p left) own (N.next n p))
        → take_first ps (λ p. walk_from k N (drop_axis p left) own (N.next n p)) ≡ take_first ps (λ p. walk_from j N (drop_axis p left) own (N.next n p))
    go [] s ih = refl
    go (p ∷ ps) s ih =
        let m = s p (Memᴰ.head refl) in
        let d = drop_shorter p left m in
        ap (p ∷◌) (ih p m (omega arith) (omega arith))

-- The walk where nothing is owned among the ports left, and where p is the first: it may look as far ahead behind the hop as before it.
pub walk_none : (N : Network) (own : ℕ → ℕ → Bool) (k : ℕ) (left : List ℕ) (n : ℕ) → keep (own n) left ≡ [] → walk_from k N left own n ≡ []
unfolding walk_from take_first
walk_none N own zero left n e = refl
walk_none N own (suc k) left n e = rw e

pub walk_some : (N : Network) (own : ℕ → ℕ → Bool) (k : ℕ) (left : List ℕ) (n p : ℕ) (ps : List ℕ) → length left ≤ k → keep (own n) left ≡ p ∷ ps
    → walk_from k N left own n ≡ p ∷ walk_from k N (drop_axis p left) own (N.next n p)
walk_some N own k left n p ps h e = go k h
  where
    there : p ∈ left
    there = let m : p ∈ keep (own n) left = rw e (Memᴰ.head refl) in (keep_mem (own n) left m).0

    go : (k : ℕ) → length left ≤ k → walk_from k N left own n ≡ p ∷ walk_from k N (drop_axis p left) own (N.next n p)
    go zero h = absurd (omega (arith, drop_shorter p left there))
    go (suc k) h =
        let d = drop_shorter p left there in
        let one : walk_from (suc k) N left own n ≡ p ∷ walk_from k N (drop_axis p left) own (N.next n p) = unfold walk_from take_first in rw e in
        one ∙ ap (p ∷◌) (walk_fuel N own k (suc k) (drop_axis p left) (N.next n p) (omega arith) (omega arith))

-- As the code meets them, where the ports are those of a vector below 9: a port's way back is over the port itself,
pub way_back_one : (N : Network) (w v : ℕ) (own : ℕ → ℕ → Bool) (s p : ℕ) → w ≤ 9 → p ∈ ports_of w v → way_back N (ports_of w v) own s p ≡ own (N.next s p) p
unfolding way_back
way_back_one N w v own s p h m = go (own (N.next s p) p) refl
  where
    back : ℕ → Bool
    back b = eqb (axis b) (axis p) && own (N.next s p) b

    go : (x : Bool) → own (N.next s p) p ≡ x → any back (ports_of w v) ≡ x
    go true e = some_any back (ports_of w v) m (and (eq-eqb (axis p) (axis p) refl) e)
    go false e = is_false (any back (ports_of w v)) (λ t. other e (any_some back (ports_of w v) t))
      where
        other : own (N.next s p) p ≡ false → (b : ℕ) × (b ∈ ports_of w v) × (back b ≡ true) → ⊥
        other e r =
            let k = both (eqb (axis r.0) (axis p)) _ r.2 in
            let same : r.0 ≡ p = omega (arith, eqb-true (axis r.0) (axis p) k.0, axis_low r.0 (omega (arith, (ports_mem w v r.1).0)), axis_low p (omega (arith, (ports_mem w v m).0))) in
            clash (rw same at k.1) e

-- and what is left without its axis are the ports of the vector without it.
pub drop_port : (w v p r : ℕ) → w ≤ 9 → p < 9 → Without v p r → drop_axis p (ports_of w v) ≡ ports_of w r
unfolding drop_axis
drop_port w v p r h l e =
    keep_same _ _ (ports_of w v) (λ q m. let k = (ports_mem w v m).0 in rw (axis_low q (omega arith), axis_low p l)) ∙ sym (ports_without w v p r e)

-- The same on any board, where an axis has one port or two: the way back is over some port of the axis, and what is left are the ports of the vector without them.
module _ (w v p m : ℕ) (axes : AxisPorts w p m) where
  pub way_back_axis : (N : Network) (own : ℕ → ℕ → Bool) (s : ℕ) → way_back N (ports_of w v) own s p ≡ any (own (N.next s p)) (ports_of w (bit_and v m))
  unfolding way_back
  way_back_axis N own s =
      same_truth _ _
      (λ e. let r = any_some back (ports_of w v) e in
      let k = both (eqb (axis r.0) (axis p)) _ r.2 in
      let i = ports_mem w v r.1 in
      some_any (own (N.next s p)) (ports_of w (bit_and v m)) (mem_ports w (bit_and v m) r.0 i.0 (has_and v m r.0 ∙ and i.1 (axes.bits r.0 i.0 ∙ k.0))) k.1)
      (λ e. let r = any_some (own (N.next s p)) (ports_of w (bit_and v m)) e in
      let i = ports_mem w (bit_and v m) r.1 in
      let k = both (has v r.0) (has m r.0) (sym (has_and v m r.0) ∙ i.1) in
      some_any back (ports_of w v) (mem_ports w v r.0 i.0 k.0) (and (sym (axes.bits r.0 i.0) ∙ k.1) r.2))
    where
      back : ℕ → Bool
      back b = eqb (axis b) (axis p) && own (N.next s p) b

  pub drop_axis_ports : drop_axis p (ports_of w v) ≡ ports_of w (bit_xor v (bit_and v m))
  unfolding drop_axis ports_of
  drop_axis_ports =
      keep_keep (λ q. not (eqb (axis q) (axis p))) (has v) (from 0 w)
      ∙ sym (keep_same (has (bit_xor v (bit_and v m))) (λ q. has v q && not (eqb (axis q) (axis p))) (from 0 w) (λ q l. without_axis w v p m axes q (from_below w q l)))
