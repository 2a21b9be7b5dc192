-- The numbers, by dimension: each computed for every distance, and every mix of axes.
-- Assumes nothing.
use mathlib.Core.Path.{◌≡◌, refl, ap, ◌∙◌}
use mathlib.Core.Bool.{Bool, true, not, ◌&&◌, and-false}
use Prim.Native.Nat.{ℕ, suc, ◌+◌, ◌-◌, ◌≤◌, ◌<◌}
use native.Mathlib.Omega.{arith}
use lib.Dec.{leb}
use lib.ListN.{length, get_or}
use borrow.Author.Tests.{leb-true}
use Rattle.common.specs.Lists.{every}
use Rattle.common.proofs.Every.{at}
use Rattle.common.proofs.Lists.{keep_none, length_parts}
use Rattle.common.proofs.From.{length_from}
use Rattle.cube.specs.Bits.{has}
use Rattle.cube.specs.Cube.{largest_dimension, uphill}
use Rattle.cube.proofs.Bits.{zero_has}
use Rattle.paths.specs.CubeNetwork.{Shape, axes}
use Rattle.most_scouts.specs.Unarrived.{unarrived_in, unarrived_from, single_axes, folded_axes, most_unfolded, most_folded, most_sent}
use Rattle.most_scouts.proofs.Axes.{both_tests}
use Rattle.most_scouts.proofs.Weight.{single_up, folded_up}

-- in dimension D: where nothing is folded, x uphill axes; where f axes are, x that are not folded and y that are
abbrev unfolded_at : ℕ → ℕ → Bool
unfolded_at D x = leb (unarrived_from D 0 x 0) (get_or most_unfolded D 0)

abbrev folded_at : ℕ → ℕ → ℕ → ℕ → Bool
folded_at D f x y = leb (unarrived_from (D - f) f x y) (get_or most_folded D 0)

abbrev all_unfolded : ℕ → Bool
all_unfolded D = every (suc D) (unfolded_at D)

abbrev each_single : ℕ → ℕ → ℕ → Bool
each_single D f x = every (suc f) (folded_at D f x)

abbrev each_folded : ℕ → ℕ → Bool
each_folded D f = every (suc (D - f)) (each_single D f)

abbrev all_folded : ℕ → Bool
all_folded D = every (suc D) (each_folded D)

unfolded_test : every 9 all_unfolded ≡ true
unfolding unarrived_from unarrived_in
unfolded_test = refl

folded_test : every 9 all_folded ≡ true
unfolding unarrived_from unarrived_in
folded_test = refl

unfolded_below : (D x : ℕ) → D < 9 → x ≤ D → unarrived_from D 0 x 0 ≤ get_or most_unfolded D 0
unfolded_below D x h l = leb-true _ _ (at (suc D) (unfolded_at D) (at 9 all_unfolded unfolded_test D h) x (omega arith))

folded_below : (D f x y : ℕ) → D < 9 → f ≤ D → x ≤ D - f → y ≤ f → unarrived_from (D - f) f x y ≤ get_or most_folded D 0
folded_below D f x y h k l m =
    leb-true _ _ (at (suc f) (folded_at D f x)
    (at (suc (D - f)) (each_single D f) (at (suc D) (each_folded D) (at 9 all_folded folded_test D h) f (omega arith)) x (omega arith)) y (omega arith))

module _ (S : Shape) where
  -- the axes are those of both kinds
  both_kinds : single_axes S (λ a. true) + folded_axes S (λ a. true) ≡ S.dimension
  unfolding single_axes folded_axes
  both_kinds = omega (arith, length_parts (has S.fold) (axes S), length_from 0 S.dimension)

  none_folded : S.fold ≡ 0 → (g : ℕ → Bool) → folded_axes S g ≡ 0
  unfolding folded_axes
  none_folded z g = ap length (keep_none _ (axes S) (λ a i. ap (g a &&◌) (ap (λ f. has f a) z ∙ zero_has a) ∙ and-false (g a)))

  module _ (t : ℕ) (h : S.dimension ≤ largest_dimension) (s : ℕ) where
    single_within : single_up S t s ≤ single_axes S (λ a. true)
    unfolding single_axes
    single_within = omega (arith, both_tests S (λ a. not (has S.fold a)) (uphill t s))

    folded_within : folded_up S t s ≤ folded_axes S (λ a. true)
    unfolding folded_axes
    folded_within = omega (arith, both_tests S (has S.fold) (uphill t s))

    -- Of no send are there more than these.
    pub unfolded_most : S.fold ≡ 0 → most_sent S s t ≤ get_or most_unfolded S.dimension 0
    unfolded_most z =
        let all : single_axes S (λ a. true) ≡ S.dimension = omega (arith, both_kinds, none_folded z (λ a. true)) in
        let few : single_up S t s ≤ S.dimension = omega (arith, single_within, all) in
        rw (all, none_folded z (λ a. true), none_folded z (uphill t s)) (unfolded_below S.dimension (single_up S t s) (omega arith) few)

    pub folded_most : most_sent S s t ≤ get_or most_folded S.dimension 0
    folded_most =
        let e : single_axes S (λ a. true) ≡ S.dimension - folded_axes S (λ a. true) = omega (arith, both_kinds) in
        rw e
        (folded_below S.dimension (folded_axes S (λ a. true)) (single_up S t s) (folded_up S t s) (omega arith) (omega (arith, both_kinds)) (omega (arith, single_within, both_kinds)) folded_within)

-- What is sent beside a path found is one more: the bound of 123,300 follows.
pub papers_bound : (D : ℕ) → D ≤ largest_dimension → get_or most_unfolded D 0 + 1 ≤ 123300
papers_bound D h = leb-true _ _ (at 9 (λ D. leb (get_or most_unfolded D 0 + 1) 123300) refl D (omega arith))
