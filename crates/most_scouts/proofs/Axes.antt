-- The uphill axes of a node in a cube that have a property, and the ports over them.
-- Assumes nothing.
use mathlib.Core.Path.{◌≡◌, refl, ap, sym, ◌∙◌}
use mathlib.Core.Logic.{◌≢◌, ⊎_elim}
use mathlib.Core.Bool.{Bool, true, false, not, ◌&&◌, and-false, true≢false}
use mathlib.Core.List.{◌∷◌, ◌++◌}
use Prim.Native.Nat.{ℕ, suc, ◌+◌, ◌-◌, ◌*◌, ◌≤◌, ◌<◌}
use native.Mathlib.Omega.{arith}
use borrow.Author.Tests.{not-true}
use lib.ListN.{length, length-append}
use Rattle.std.specs.List.{sum_by}
use Rattle.common.specs.Lists.{◌∈◌, keep, from}
use Rattle.common.proofs.Tests.{same?, both}
use Rattle.common.proofs.Lists.{keep_yes, keep_no, keep_append, keep_same, keep_none, keep_keep, keep_swap, keep_mem, length_parts}
use Rattle.common.proofs.From.{from_mem, from_below, from_split}
use Rattle.cube.specs.Bits.{has}
use Rattle.cube.specs.Cube.{largest_dimension, next, uphill}
use Rattle.cube.specs.Axes.{axis}
use Rattle.cube.proofs.PartnerPorts.{count_ports}
use Rattle.paths.specs.CubeNetwork.{Shape, axes, ports}
use Rattle.paths.proofs.CubeNetwork.{uphill_flipped, uphill_kept, uphill_there, port_axis}
use Rattle.most_scouts.specs.Unarrived.{single_axes, folded_axes}
use Rattle.most_scouts.proofs.Sums.{sum_parts, sum_equal}

-- of two tests that differ at one number below D alone, one keeps one number more
one_more : (f g : ℕ → Bool) (p D : ℕ) → p < D → f p ≡ true → g p ≡ false → ((q : ℕ) → q ≢ p → f q ≡ g q) → length (keep f (from 0 D)) ≡ suc (length (keep g (from 0 D)))
one_more f g p D l on off same =
    let below = ap length (keep_same f g (from 0 p) (λ q m. same q (λ e. omega (arith, from_below p q m)))) in
    let above = ap length (keep_same f g (from (suc p) (D - suc p)) (λ q m. same q (λ e. omega (arith, (from_mem (suc p) (D - suc p) m).0)))) in
    omega (arith, parts f, parts g, below, above, ap length (keep_yes f p (from (suc p) (D - suc p)) on), ap length (keep_no g p (from (suc p) (D - suc p)) off))
  where
    split : from 0 D ≡ from 0 p ++ p ∷ from (suc p) (D - suc p)
    split =
        let whole : D ≡ p + suc (D - suc p) = omega arith in
        let start : 0 + p ≡ p = omega arith in
        ap (from 0) whole ∙ rw start at (from_split 0 p (D - suc p))

    parts : (h : ℕ → Bool) → length (keep h (from 0 D)) ≡ length (keep h (from 0 p)) + length (keep h (p ∷ from (suc p) (D - suc p)))
    parts h = ap (λ xs. length (keep h xs)) split ∙ ap length (keep_append h (from 0 p) _) ∙ length-append (keep h (from 0 p)) _

no_property : (x y z : Bool) → z ≡ false → (x && z) ≡ (y && z)
no_property x y true e = absurd (true≢false e)
no_property x y false e = and-false x ∙ sym (and-false y)

-- the axes that pass a test and have a property c
abbrev pub with_property : Shape → (c g : ℕ → Bool) → ℕ
with_property S c g = length (keep (λ a. g a && c a) (axes S))

module _ (S : Shape) (c : ℕ → Bool) where
  -- they are those that pass the test of those that have it
  of_those : (g : ℕ → Bool) → with_property S c g ≡ length (keep g (keep c (axes S)))
  of_those g = ap length (sym (keep_keep c g (axes S)) ∙ keep_swap c g (axes S))

  -- and with the others they are all that have it
  pub both_tests : (g : ℕ → Bool) → with_property S c g + with_property S c (λ a. not (g a)) ≡ with_property S c (λ a. true)
  both_tests g = omega (arith, of_those g, of_those (λ a. not (g a)), length_parts g (keep c (axes S)))

  module _ (t n q : ℕ) (m : q ∈ ports S) where
    elsewhere : (a : ℕ) → a ≢ axis q → (uphill t n a && c a) ≡ (uphill t (next n q) a && c a)
    elsewhere a f = ap (λ x. x && c a) (uphill_kept t n (axis q) a f)

    -- Behind a hop over an uphill axis that has the property there is one less; over one that is not uphill, one more; over an axis that does not have it, as many.
    pub one_less : c (axis q) ≡ true → uphill t n (axis q) ≡ true → with_property S c (uphill t n) ≡ suc (with_property S c (uphill t (next n q)))
    one_less own up = one_more _ _ (axis q) S.dimension (port_axis S q m) (rw (up, own) refl) (rw (uphill_flipped t n (axis q), up) refl) elsewhere

    pub one_greater : c (axis q) ≡ true → uphill t n (axis q) ≡ false → with_property S c (uphill t (next n q)) ≡ suc (with_property S c (uphill t n))
    one_greater own down =
        one_more _ _ (axis q) S.dimension (port_axis S q m) (rw (uphill_flipped t n (axis q), down, own) refl) (rw down refl) (λ a f. sym (elsewhere a f))

    pub as_many : c (axis q) ≡ false → with_property S c (uphill t n) ≡ with_property S c (uphill t (next n q))
    as_many other =
        ap length (keep_same _ _ (axes S) (λ a i. ⊎_elim (λ e. no_property (uphill t n a) (uphill t (next n q) a) (c a) (ap c e ∙ other)) (elsewhere a) (same? a (axis q))))

  -- at the target there is none
  pub none_there : (t : ℕ) → with_property S c (uphill t t) ≡ 0
  none_there t = ap length (keep_none _ (axes S) (λ a i. rw (uphill_there t a) refl))

module _ (S : Shape) (h : S.dimension ≤ largest_dimension) (g : ℕ → Bool) where
  -- the ports over axes that pass the test: one for each that is not folded, two for each that is
  single_ports : length (keep (λ q. g (axis q) && not (has S.fold (axis q))) (ports S)) ≡ single_axes S g
  unfolding ports single_axes
  single_ports =
      omega (arith, count_ports S.dimension S.fold (λ a. g a && not (has S.fold a)) (omega arith), ap length (keep_none (λ a. has S.fold a && (g a && not (has S.fold a))) (axes S) (λ a i. never (has S.fold a) (g a))))
    where
      never : (x y : Bool) → (x && (y && not x)) ≡ false
      never true y = and-false y
      never false y = refl

  folded_ports : length (keep (λ q. g (axis q) && has S.fold (axis q)) (ports S)) ≡ 2 * folded_axes S g
  unfolding ports folded_axes
  folded_ports =
      omega (arith, count_ports S.dimension S.fold (λ a. g a && has S.fold a) (omega arith), ap length (keep_same (λ a. has S.fold a && (g a && has S.fold a)) (λ a. g a && has S.fold a) (axes S) (λ a i. twice (has S.fold a) (g a))))
    where
      twice : (x y : Bool) → (x && (y && x)) ≡ (y && x)
      twice true y = refl
      twice false y = sym (and-false y)

  -- so where each of the first kind adds u, and each of the second v, they add up to this.
  pub sum_ports : (f : ℕ → ℕ) (u v : ℕ) → ((q : ℕ) → q ∈ ports S → g (axis q) ≡ true → has S.fold (axis q) ≡ false → f q ≡ u)
      → ((q : ℕ) → q ∈ ports S → g (axis q) ≡ true → has S.fold (axis q) ≡ true → f q ≡ v)
      → sum_by f (keep (λ q. g (axis q)) (ports S)) ≡ single_axes S g * u + 2 * folded_axes S g * v
  sum_ports f u v single folded =
      omega (
        arith,
        sum_parts f (λ q. has S.fold (axis q)) (keep (λ q. g (axis q)) (ports S)),
        ap (sum_by f) (keep_keep (λ q. has S.fold (axis q)) (λ q. g (axis q)) (ports S)),
        ap (sum_by f) (keep_keep (λ q. not (has S.fold (axis q))) (λ q. g (axis q)) (ports S)),
        sum_equal f v _ on_folded,
        sum_equal f u _ on_single,
        ap (λ x. x * v) folded_ports,
        ap (λ x. x * u) single_ports,
      )
    where
      on_folded : (q : ℕ) → q ∈ keep (λ q. g (axis q) && has S.fold (axis q)) (ports S) → f q ≡ v
      on_folded q m = let k = keep_mem (λ q. g (axis q) && has S.fold (axis q)) (ports S) m in let r = both (g (axis q)) (has S.fold (axis q)) k.1 in folded q k.0 r.0 r.1

      on_single : (q : ℕ) → q ∈ keep (λ q. g (axis q) && not (has S.fold (axis q))) (ports S) → f q ≡ u
      on_single q m =
          let k = keep_mem (λ q. g (axis q) && not (has S.fold (axis q))) (ports S) m in let r = both (g (axis q)) (not (has S.fold (axis q))) k.1 in single q k.0 r.0 (not-true (has S.fold (axis q)) r.1)
