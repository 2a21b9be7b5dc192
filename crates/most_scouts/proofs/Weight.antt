-- In a cube the beginnings on from a node that have not arrived are as many as its uphill axes say, and those of a send as its source's say.
-- Assumes nothing.
use mathlib.Core.Path.{◌≡◌, refl, ap, ap₂, sym, ◌∙◌}
use mathlib.Core.Logic.{◌≢◌}
use mathlib.Core.Bool.{true, false, not}
use Prim.Native.Nat.{ℕ, zero, suc, ◌+◌, ◌-◌, ◌*◌, ◌≤◌}
use native.Mathlib.Omega.{arith}
use lib.ListN.{length}
use borrow.Author.Tests.{not-true}
use Rattle.std.specs.List.{sum_by}
use Rattle.common.specs.Lists.{◌∈◌, keep}
use Rattle.common.proofs.Lists.{keep_keep, length_parts}
use Rattle.cube.specs.Bits.{has}
use Rattle.cube.specs.Cube.{largest_dimension, next, uphill}
use Rattle.cube.specs.Axes.{axis}
use Rattle.paths.specs.Network.{offered}
use Rattle.paths.specs.CubeNetwork.{Shape, Node, axes, ports, network}
use Rattle.paths.proofs.CubeNetwork.{cube_nearing, cube_leading, offered_is}
use Rattle.most_scouts.specs.Unarrived.{unarrived_in, unarrived, unarrived_from, single_axes, folded_axes, most_sent}
use Rattle.most_scouts.proofs.Sums.{sum_parts}
use Rattle.most_scouts.proofs.Walks.{WeightCounts}
use Rattle.most_scouts.proofs.Axes.{one_less, one_greater, as_many, none_there, both_tests, sum_ports}

-- one step of the count, with the hops that are left said by the axes
first_part : (x y k : ℕ) → x + y ≡ suc k → x * unarrived_in k (x - 1) y ≡ x * unarrived (x - 1) y
first_part zero y k e = omega arith
first_part (suc x) y k e = let j : k ≡ suc x - 1 + y = omega arith in ap (λ i. suc x * unarrived_in i (suc x - 1) y) j

second_part : (x y k : ℕ) → x + y ≡ suc k → 2 * y * unarrived_in k x (y - 1) ≡ 2 * y * unarrived x (y - 1)
second_part x zero k e = omega arith
second_part x (suc y) k e = let j : k ≡ x + (suc y - 1) = omega arith in ap (λ i. 2 * suc y * unarrived_in i x (suc y - 1)) j

pub unarrived_step : (x y k : ℕ) → x + y ≡ suc k → unarrived x y ≡ suc (x * unarrived (x - 1) y + 2 * y * unarrived x (y - 1))
unarrived_step x y k e = ap (λ i. unarrived_in i x y) e ∙ (unfold unarrived_in in ap suc (ap₂ ◌+◌ (first_part x y k e) (second_part x y k e)))

-- at least as many as the hops that are left
pub at_least : (k x y : ℕ) → x + y ≡ k → k ≤ unarrived_in k x y
unfolding unarrived_in
at_least zero x y e = omega arith
at_least (suc k) (suc x) y e = let r = at_least k x y (omega arith) in let z : suc x - 1 ≡ x = omega arith in rw z (omega (arith, r))
at_least (suc k) zero (suc y) e = let r = at_least k zero y (omega arith) in let z : suc y - 1 ≡ y = omega arith in rw z (omega (arith, r))
at_least (suc k) zero zero e = absurd (omega arith)

module _ (S : Shape) (t : ℕ) where
  -- the uphill axes of a node that are not folded, and those that are
  abbrev pub single_up : ℕ → ℕ
  single_up n = single_axes S (uphill t n)

  abbrev pub folded_up : ℕ → ℕ
  folded_up n = folded_axes S (uphill t n)

  abbrev pub weight : ℕ → ℕ
  weight n = unarrived (single_up n) (folded_up n)

  -- together they are the hops to the target
  pub hops : (n : ℕ) → (network S).distance t n ≡ single_up n + folded_up n
  unfolding network single_axes folded_axes
  hops n =
      omega (arith, length_parts (has S.fold) (keep (uphill t n) (axes S)), ap length (keep_keep (has S.fold) (uphill t n) (axes S)), ap length (keep_keep (λ a. not (has S.fold a)) (uphill t n) (axes S)))

  pub weight_least : (n : ℕ) → (network S).distance t n ≤ weight n
  weight_least n = rw (hops n) (at_least (single_up n + folded_up n) (single_up n) (folded_up n) refl)

  module _ (n q : ℕ) (m : q ∈ ports S) where
    -- the kinds of the axis of a hop
    not_folded : has S.fold (axis q) ≡ false → not (has S.fold (axis q)) ≡ true
    not_folded e = ap not e

    nearer_single : uphill t n (axis q) ≡ true → has S.fold (axis q) ≡ false → weight (next n q) ≡ unarrived (single_up n - 1) (folded_up n)
    unfolding single_axes folded_axes
    nearer_single up e =
        let x = one_less S (λ a. not (has S.fold a)) t n q m (not_folded e) up in
        ap₂ unarrived (omega (arith, x)) (sym (as_many S (has S.fold) t n q m e))

    nearer_folded : uphill t n (axis q) ≡ true → has S.fold (axis q) ≡ true → weight (next n q) ≡ unarrived (single_up n) (folded_up n - 1)
    unfolding single_axes folded_axes
    nearer_folded up e =
        let y = one_less S (has S.fold) t n q m e up in
        ap₂ unarrived (sym (as_many S (λ a. not (has S.fold a)) t n q m (ap not e))) (omega (arith, y))

    farther_single : uphill t n (axis q) ≡ false → has S.fold (axis q) ≡ false → weight (next n q) ≡ unarrived (single_up n + 1) (folded_up n)
    unfolding single_axes folded_axes
    farther_single down e =
        let x = one_greater S (λ a. not (has S.fold a)) t n q m (not_folded e) down in
        ap₂ unarrived (omega (arith, x)) (sym (as_many S (has S.fold) t n q m e))

    farther_folded : uphill t n (axis q) ≡ false → has S.fold (axis q) ≡ true → weight (next n q) ≡ unarrived (single_up n) (folded_up n + 1)
    unfolding single_axes folded_axes
    farther_folded down e =
        let y = one_greater S (has S.fold) t n q m e down in
        ap₂ unarrived (sym (as_many S (λ a. not (has S.fold a)) t n q m (ap not e))) (omega (arith, y))

  module _ (h : S.dimension ≤ largest_dimension) where
    -- the weights behind the ports that lead nearer, and behind those that lead farther
    nearer_sum : (n : ℕ) → sum_by (λ q. weight (next n q)) (keep (λ q. uphill t n (axis q)) (ports S))
        ≡ single_up n * unarrived (single_up n - 1) (folded_up n) + 2 * folded_up n * unarrived (single_up n) (folded_up n - 1)
    nearer_sum n = sum_ports S h (uphill t n) (λ q. weight (next n q)) _ _ (λ q m up e. nearer_single n q m up e) (λ q m up e. nearer_folded n q m up e)

    farther_sum : (n : ℕ) → sum_by (λ q. weight (next n q)) (keep (λ q. not (uphill t n (axis q))) (ports S))
        ≡ single_axes S (λ a. not (uphill t n a)) * unarrived (single_up n + 1) (folded_up n) + 2 * folded_axes S (λ a. not (uphill t n a)) * unarrived (single_up n) (folded_up n + 1)
    farther_sum n =
        sum_ports S h (λ a. not (uphill t n a)) (λ q. weight (next n q)) _ _ (λ q m up e. farther_single n q m (not-true _ up) e) (λ q m up e. farther_folded n q m (not-true _ up) e)

    pub weight_counts : Node S t → WeightCounts (network S) t (Node S) weight
    weight_counts l =
        record {
          there = unfold single_axes folded_axes in (ap₂ unarrived (none_there S (λ a. not (has S.fold a)) t) (none_there S (has S.fold) t) ∙ (unfold unarrived_in in refl));
          on = on;
        }
      where
        on : (n : ℕ) → Node S n → n ≢ t → weight n ≡ suc (sum_by (λ q. weight ((network S).next n q)) (offered (network S) t n))
        on n i off =
            let r = (cube_leading S h t l).leads n i off in
            let far = (cube_nearing S t).nearer n r.0 r.1 in
            unarrived_step (single_up n) (folded_up n) _ (sym (hops n) ∙ far)
            ∙ ap suc (sym (nearer_sum n) ∙ ap (sum_by (λ q. weight (next n q))) (sym (offered_is S t n)) ∙ (unfold network in refl))

    -- So are those of a send over all ports of a source.
    pub all_ports : (s : ℕ) → sum_by (λ q. weight (next s q)) (ports S) ≡ most_sent S s t
    unfolding unarrived_from
    all_ports s =
        let x : single_axes S (λ a. not (uphill t s a)) ≡ single_axes S (λ a. true) - single_up s = unfold single_axes in omega (arith, both_tests S (λ a. not (has S.fold a)) (uphill t s)) in
        let y : folded_axes S (λ a. not (uphill t s a)) ≡ folded_axes S (λ a. true) - folded_up s = unfold folded_axes in omega (arith, both_tests S (has S.fold) (uphill t s)) in
        sym (sum_parts (λ q. weight (next s q)) (λ q. uphill t s (axis q)) (ports S)) ∙ ap₂ ◌+◌ (nearer_sum s) (farther_sum s ∙ rw (x, y) refl)
