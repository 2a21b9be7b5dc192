-- Vectors of ports: the uphill vector, a vector without one of its ports, and the shift by which the code names a port.
-- Assumes nothing.
use mathlib.Core.Path.{◌≡◌, refl, ap, sym, ◌∙◌}
use mathlib.Core.Bool.{Bool, true, false, not, ◌&&◌, and-true}
use mathlib.Core.Logic.{◌≢◌, ⊎_elim}
use Rattle.std.specs.Prelude.{Some, None}
use Prim.Native.Nat.{ℕ, zero, suc, ◌-◌, ◌*◌, ◌%◌, ◌^◌, ◌≤◌, ◌<◌}
use native.Mathlib.Omega.{arith}
use native.Mathlib.Nat.{one-mul, le_refl, lt_of_lt_of_le}
use lib.Count.{count_trailing_zeros}
use lib.Dec.{eqb, lit<}
use lib.Bits.{bit_xor}
use lib.Pow.{shl_exact, pow_mono}
use borrow.Author.Tests.{eqb-true, eqb-false, lt-ltb, le-ltb}
use Rattle.common.specs.Lists.{lowest}
use Rattle.common.specs.SomeBelow.{some_below}
use Rattle.common.proofs.Lowest.{lowest_here, lowest_skip, lowest_end}
use Rattle.common.proofs.LowestBit.{lowest_set, lowest_least}
use Rattle.common.proofs.Tests.{same?, below_or, clash, is_false}
use Rattle.cube.specs.Bits.{bit_at, has, flip}
use Rattle.cube.specs.CubeContracts.{UphillVector, Without}
use Rattle.cube.specs.Cube.{largest_dimension, cube_nodes, NodeOf, uphill}
use Rattle.cube.proofs.Bits.{bit_lt, bit_power_other, bit_xor_lem, bit_flipped, bit_kept, has_bit, flip_drops, high_has, zero_has}

-- `1 << p` of w bits
pub port_bit : (w p : ℕ) → p < w → 1 * 2 ^ p % 2 ^ w ≡ 2 ^ p
port_bit w p h = shl_exact 1 p w (lit< tt) (omega arith) ∙ one-mul (2 ^ p)

-- a cube has at most 256 nodes, so that each of them is below 256
pub most_nodes : {D : ℕ} → D ≤ largest_dimension → cube_nodes D ≤ 256
most_nodes {D} h = pow_mono {i = D} {j = 8} h

pub below_256 : {D n : ℕ} → D ≤ largest_dimension → NodeOf D n → n < 256
below_256 h l = lt_of_lt_of_le l (most_nodes h)

-- their count, where the dimension has another name
pub count_of : {d e k : ℕ} → d ≡ e → k ≡ cube_nodes d → k ≡ cube_nodes e
count_of q c = c ∙ ap (2 ^◌) q

-- the ports in which two nodes differ are the uphill ones
digits : (x y : ℕ) → x < 2 → y < 2 → eqb (bit_xor x y) 1 ≡ not (eqb x y)
digits zero zero h l = refl
digits zero (suc zero) h l = refl
digits (suc zero) zero h l = refl
digits (suc zero) (suc zero) h l = refl
digits zero (suc (suc y)) h l = absurd (omega arith)
digits (suc zero) (suc (suc y)) h l = absurd (omega arith)
digits (suc (suc x)) y h l = absurd (omega arith)

pub uphill_of : (n t : ℕ) → UphillVector n t (bit_xor n t)
unfolding has uphill
uphill_of n t = record { bits = λ p. rw (bit_xor_lem n t p) (digits (bit_at n p) (bit_at t p) (bit_lt n p) (bit_lt t p)); value = refl }

-- a vector that loses a port has the others
pub without_of : (v p : ℕ) → has v p ≡ true → Without v p (flip v p)
without_of v p e = record { value = flip_drops v p e; bits = λ q. go q (eqb q p) refl }
  where
    go : (q : ℕ) (b : Bool) → eqb q p ≡ b → has (flip v p) q ≡ (has v q && not b)
    go q true i = rw (eqb-true q p i, e) (unfold has in rw (bit_flipped v p, has_bit v p e))
    go q false i = rw (and-true (has v q)) (unfold has in ap (λ x. eqb x 1) (bit_kept v p q (eqb-false q p i)))

pub without_power : (v p : ℕ) → has v p ≡ true → Without v p (v - 2 ^ p)
without_power v p e =
    let same : flip v p ≡ v - 2 ^ p = omega (arith, flip_drops v p e) in
    rw same at (without_of v p e)

-- the lowest port of a vector among w positions, as the code counts it in k bits, and that there is none
module _ (w k v : ℕ) (room : w ≤ k) (h : v < 2 ^ w) where
  pub lowest_none : v ≡ 0 → None ≡ some_below w (lowest (has v) w 0)
  lowest_none e =
      let none : lowest (has v) w 0 ≡ w = sym (lowest_skip (has v) w w (le_refl w) (λ j l. rw e (zero_has j))) ∙ lowest_end (has v) w w refl in
      rw (none, le-ltb w w (le_refl w))

  pub lowest_some : v ≢ 0 → Some (count_trailing_zeros k v) ≡ some_below w (lowest (has v) w 0)
  unfolding has bit_at
  lowest_some z =
      let p = count_trailing_zeros k v in
      let on : has v p ≡ true = lowest_set k v z (lt_of_lt_of_le h (pow_mono room)) in
      let small : p < w = ⊎_elim (λ l. l) (λ l. absurd (clash on (high_has w v p h l))) (below_or w p) in
      let none : (j : ℕ) → j < p → has v j ≡ false = λ j l. is_false (has v j) (λ f. omega (arith, l, lowest_least k v j f)) in
      let e : lowest (has v) w 0 ≡ p = sym (lowest_skip (has v) w p (omega arith) none) ∙ lowest_here (has v) w p small on in
      rw (e, lt-ltb p w small)

-- a vector of one port, as the code counts it in k bits
pub power_has : (p q : ℕ) → has (2 ^ p) q ≡ true → q ≡ p
unfolding has
power_has p q t = ⊎_elim (λ e. e) (λ h. absurd (clash t (ap (λ x. eqb x 1) (bit_power_other p q h)))) (same? q p)

pub power_below : (w p : ℕ) → 2 ^ p < 2 ^ w → p < w
power_below w p h = ⊎_elim (λ l. l) (λ l. absurd (omega (arith, pow_mono {i = w} {j = p} l))) (below_or w p)

pub one_port : (k p : ℕ) {v : ℕ} → 0 < v → v < 2 ^ k → v ≡ 2 ^ p → count_trailing_zeros k v ≡ p
unfolding has bit_at
one_port k p {v} z h e = power_has p _ (ap (λ x. has x (count_trailing_zeros k v)) (sym e) ∙ lowest_set k v (omega arith) h)

pub trailing_below : (w k : ℕ) {v : ℕ} → w ≤ k → 0 < v → v < 2 ^ w → count_trailing_zeros k v < w
unfolding has bit_at
trailing_below w k {v} room z h =
    ⊎_elim (λ l. l) (λ l. absurd (clash (lowest_set k v (omega arith) (lt_of_lt_of_le h (pow_mono room))) (high_has w v (count_trailing_zeros k v) h l))) (below_or w (count_trailing_zeros k v))
