-- Following the links that a circuit holds, as code does it on a board of w positions: a vector of ports is a number, and w stands for no port. Of any network and any links owned.
-- Assumes nothing.
use mathlib.Core.Path.{◌≡◌, refl, ap, ap₂, sym, ◌∙◌}
use mathlib.Core.Bool.{Bool, true, false, cond, ◌&&◌}
use mathlib.Core.List.Memᴰ
use mathlib.Core.List.{List, [], ◌∷◌, ◌++◌}
use Prim.Native.Nat.{ℕ, zero, suc, ◌+◌, ◌≤◌, ◌<◌}
use native.Mathlib.Omega.{arith}
use native.Mathlib.Numerals.{add-one}
use lib.Bits.{bit_xor, bit_and}
use lib.ListN.{length}
use Rattle.common.specs.Lists.{◌∈◌, keep, any, from, lowest}
use Rattle.common.proofs.Lists.{keep_yes, keep_no, keep_nil, keep_mem, keep_keep}
use Rattle.cube.specs.Axes.{positions}
use Rattle.cube.specs.Bits.{has}
use Rattle.cube.specs.CubeContracts.{AxisPorts}
use Rattle.cube.specs.Helical.{ports_of, first_or}
use Rattle.cube.proofs.Order.{ports_mem, length_ports}
use Rattle.paths.specs.Network.{Network, take_first}
use Rattle.paths.specs.CubeNetwork.{Shape, ports, network}
use Rattle.paths.specs.Recover.{walk_from, way_back, first_hop_choices, path_of_links}
use Rattle.paths.proofs.CubeNetwork.{ports_few}
use Rattle.paths.proofs.Recover.{first_choice}
use Rattle.paths.proofs.Walks.{walk_fuel, walk_none, walk_some, drop_axis_ports, way_back_axis}

-- the lowest that passes is the first kept
pub lowest_from : (f : ℕ → Bool) (k i : ℕ) → lowest f k i ≡ first_or (i + k) (keep f (from i k))
unfolding lowest from first_or
lowest_from f zero i = rw (keep_nil f) (omega arith)
lowest_from f (suc k) i = go (f i) refl (lowest_from f k (i + 1))
  where
    go : (b : Bool) → f i ≡ b → lowest f k (i + 1) ≡ first_or (i + 1 + k) (keep f (from (i + 1) k)) → cond b i (lowest f k (i + 1)) ≡ first_or (i + suc k) (keep f (i ∷ from (suc i) k))
    go true e ih = rw (keep_yes f i (from (suc i) k) e)
    go false e ih =
        let sum : i + 1 + k ≡ i + suc k = omega arith in
        rw (keep_no f i (from (suc i) k) e) (ih ∙ ap₂ (λ d s. first_or d (keep f (from s k))) sum (add-one i))

-- a list of numbers below w has a first, or is empty
first_some : (w : ℕ) (xs ys : List ℕ) → first_or w xs < w → first_or w (xs ++ ys) ≡ first_or w xs
unfolding first_or
first_some w [] ys h = absurd (omega arith)
first_some w (x ∷ xs) ys h = refl

first_none : (w : ℕ) (xs : List ℕ) → ((x : ℕ) → x ∈ xs → x < w) → w ≤ first_or w xs → xs ≡ []
unfolding first_or
first_none w [] h l = refl
first_none w (x ∷ xs) h l = absurd (omega (arith, h x (Memᴰ.head refl)))

first_is : (w : ℕ) (xs : List ℕ) (q : ℕ) → first_or w xs ≡ q → q < w → (ps : List ℕ) × (xs ≡ q ∷ ps)
unfolding first_or
first_is w [] q e h = absurd (omega arith)
first_is w (x ∷ xs) q e h = (xs, ap (◌∷ xs) e)

pub first_member : (w : ℕ) (xs : List ℕ) {q : ℕ} → first_or w xs ≡ q → q < w → q ∈ xs
first_member w xs {q} e h = let r = first_is w xs q e h in rw r.1 (Memᴰ.head refl)

-- At node n, with the ports of vector v left of w positions: port p is in the vector and its link is owned; and its way back is too.
module _ (N : Network) (own : ℕ → ℕ → Bool) (w n v : ℕ) where
  abbrev pub takes : ℕ → Bool
  takes p = has v p && own n p

  abbrev pub back_over : ℕ → Bool
  back_over p = takes p && way_back N (ports_of w v) own n p

  -- which is a link over some port of its axis
  pub back_over_axis : (p m : ℕ) → AxisPorts w p m → back_over p ≡ (takes p && any (own (N.next n p)) (ports_of w (bit_and v m)))
  back_over_axis p m axes = ap (takes p &&◌) (way_back_axis w v p m axes N own n)

  taken : List ℕ
  taken = keep (own n) (ports_of w v)

  back : List ℕ
  back = keep (way_back N (ports_of w v) own n) taken

  takes_kept : keep takes (from 0 w) ≡ taken
  unfolding taken ports_of
  takes_kept = sym (keep_keep (own n) (has v) (from 0 w))

  back_kept : keep back_over (from 0 w) ≡ back
  unfolding back
  back_kept = sym (keep_keep (way_back N (ports_of w v) own n) takes (from 0 w)) ∙ ap (keep (way_back N (ports_of w v) own n)) takes_kept

  taken_below : (p : ℕ) → p ∈ taken → p < w
  unfolding taken
  taken_below p m = (ports_mem w v (keep_mem (own n) (ports_of w v) m).0).0

  lowest_taken : lowest takes w 0 ≡ first_or w taken
  lowest_taken = let z : 0 + w ≡ w = omega arith in lowest_from takes w 0 ∙ ap₂ first_or z takes_kept

  lowest_back : lowest back_over w 0 ≡ first_or w back
  lowest_back = let z : 0 + w ≡ w = omega arith in lowest_from back_over w 0 ∙ ap₂ first_or z back_kept

  hop_is : first_or w (first_hop_choices N (ports_of w v) own n) ≡ first_or w (back ++ taken)
  unfolding first_hop_choices back taken
  hop_is = refl

  -- The first hop: the lowest port whose way back is owned too, or else the lowest that is taken.
  pub first_back : lowest back_over w 0 < w → lowest back_over w 0 ≡ first_or w (first_hop_choices N (ports_of w v) own n)
  first_back h = lowest_back ∙ sym (hop_is ∙ first_some w back taken (omega (arith, lowest_back)))

  pub first_taken : w ≤ lowest back_over w 0 → lowest takes w 0 ≡ first_or w (first_hop_choices N (ports_of w v) own n)
  first_taken h =
      let none : back ≡ [] = first_none w back (λ p m. taken_below p (unfold back in (keep_mem _ taken m).0)) (omega (arith, lowest_back)) in
      lowest_taken ∙ sym (hop_is ∙ ap (λ xs. first_or w (xs ++ taken)) none)

  -- Following: on by the lowest port that is taken, over the vector without the ports of its axis; or no further.
  pub follow_on : (q m : ℕ) → q ≡ lowest takes w 0 → q < w → AxisPorts w q m
      → walk_from w N (ports_of w v) own n ≡ q ∷ walk_from w N (ports_of w (bit_xor v (bit_and v m))) own (N.next n q)
  unfolding taken
  follow_on q m e h axes =
      let r = first_is w taken q (sym (e ∙ lowest_taken)) h in
      walk_some N own w (ports_of w v) n q r.0 (length_ports w v) r.1 ∙ ap (λ l. q ∷ walk_from w N l own (N.next n q)) (drop_axis_ports w v q m axes)

  pub follow_some : (q : ℕ) → q ≡ lowest takes w 0 → q < w → 1 ≤ length (walk_from w N (ports_of w v) own n)
  unfolding taken
  follow_some q e h =
      let r = first_is w taken q (sym (e ∙ lowest_taken)) h in
      omega (arith, ap length (walk_some N own w (ports_of w v) n q r.0 (length_ports w v) r.1))

  pub follow_end : w ≤ lowest takes w 0 → walk_from w N (ports_of w v) own n ≡ []
  follow_end h = walk_none N own w (ports_of w v) n (unfold taken in first_none w taken taken_below (omega (arith, lowest_taken)))

-- The path of a circuit, where the ports of a vector among w positions are those of the cube: its first hop, and what is followed behind it.
module _ (S : Shape) (own : ℕ → ℕ → Bool) (s w v a : ℕ) (all : ports_of w v ≡ ports S) (e : a ≡ first_or w (first_hop_choices (network S) (ports_of w v) own s)) where
  over : path_of_links S own s ≡ take_first (first_hop_choices (network S) (ports_of w v) own s) (λ b. walk_from positions (network S) (ports_of w v) own ((network S).next s b))
  unfolding path_of_links
  over = rw all refl

  pub path_first : a < w → path_of_links S own s ≡ a ∷ walk_from w (network S) (ports_of w v) own ((network S).next s a)
  unfolding take_first
  path_first h =
      let r = first_is w (first_hop_choices (network S) (ports_of w v) own s) a (sym e) h in
      let few : length (ports_of w v) ≤ 18 = rw all (ports_few S) in
      over ∙ ap (λ ps. take_first ps (λ b. walk_from positions (network S) (ports_of w v) own ((network S).next s b))) r.1
      ∙ ap (a ∷◌) (walk_fuel (network S) own 18 w (ports_of w v) ((network S).next s a) few (length_ports w v))

  pub path_none : w ≤ a → path_of_links S own s ≡ []
  path_none h =
      let none = first_none w (first_hop_choices (network S) (ports_of w v) own s) (λ p m. (ports_mem w v (first_choice (network S) (ports_of w v) own s p m).0).0) (omega (arith, e)) in
      over ∙ ap (λ ps. take_first ps (λ b. walk_from positions (network S) (ports_of w v) own ((network S).next s b))) none ∙ (unfold take_first in refl)
