-- Ports and their partners: the axes of both, how many ports have the axes that pass a test, and the ports of a vector with its partners.
-- Assumes nothing.
use mathlib.Core.Path.{◌≡◌, refl, ap, sym, ◌∙◌}
use mathlib.Core.Logic.{◌⊎◌, inl, inr, ⊎_elim, ◌≢◌}
use mathlib.Core.Bool.{Bool, true, false, cond, not, ◌&&◌, ◌||◌, and-false, or-false, beq}
use mathlib.Core.List.{List, [], ◌∷◌, ◌++◌}
use Prim.Native.Nat.{ℕ, zero, suc, ◌+◌, ◌-◌, ◌*◌, ◌/◌, ◌%◌, ◌^◌, ◌≤◌, ◌<◌}
use native.Mathlib.Omega.{arith}
use lib.Dec.{eqb, ltb}
use lib.Bits.{bit_and, bit_or, bit_xor, or_lt}
use lib.Pow.{pow-lt}
use lib.ListN.{length, length-append, get_or}
use borrow.Author.Tests.{lt-ltb, le-ltb, eq-eqb, ne_eqb, eqb-true, eqb-false, ltb-true, not-true}
use Rattle.common.specs.Lists.{keep, from, every}
use Rattle.common.proofs.Every.{at, at₂}
use Rattle.common.proofs.Tests.{below_or, both}
use Rattle.common.proofs.Lists.{keep_append, keep_same, keep_keep, keep_nil}
use Rattle.common.proofs.From.{keep_wider, from_below, from_last}
use Rattle.cube.specs.Bits.{bit_at, has}
use Rattle.cube.specs.Axes.{positions, own_axes, axis, partner, present}
use Rattle.cube.specs.Cube.{port_count}
use Rattle.cube.specs.CubeContracts.{WithPartners, Partners, AxisPorts}
use Rattle.cube.specs.Helical.{ports_of}
use Rattle.cube.proofs.Axes.{axis_low, present_low}
use Rattle.cube.proofs.Bits.{bit_power, bit_power_other, high_has, has_and, has_or, has_xor}

pub axis_high : (q : ℕ) → own_axes ≤ q → axis q ≡ 17 - q
unfolding axis
axis_high q h = rw (le-ltb q 9 h)

-- a port and its partner have one axis, and are each other's partner
pub axis_partner : (q : ℕ) → q < positions → axis (partner q) ≡ axis q
unfolding partner
axis_partner q h =
    ⊎_elim (λ l. omega (arith, axis_high (17 - q) (omega arith), axis_low q l)) (λ l. omega (arith, axis_low (17 - q) (omega arith), axis_high q l)) (below_or 9 q)

pub partner_axis : (p : ℕ) → p < own_axes → axis (partner p) ≡ p
partner_axis p h = axis_partner p (omega arith) ∙ axis_low p h

pub partner_back : (q : ℕ) → q < positions → partner (partner q) ≡ q
unfolding partner
partner_back q h = omega arith

-- two ports of one axis are the same or partners
pub same_axis : (b p : ℕ) → b < positions → p < positions → axis b ≡ axis p → (b ≡ p) ⊎ (b ≡ partner p)
unfolding partner
same_axis b p h l e =
    ⊎_elim (λ i. ⊎_elim (λ j. inl (omega (arith, axis_low b i, axis_low p j))) (λ j. inr (omega (arith, axis_low b i, axis_high p j))) (below_or 9 p))
    (λ i. ⊎_elim (λ j. inr (omega (arith, axis_high b i, axis_low p j))) (λ j. inl (omega (arith, axis_high b i, axis_high p j))) (below_or 9 p)) (below_or 9 b)

-- a partner is there where its port is, if the axis is folded
pub present_partner : (D fold p : ℕ) → p < own_axes → present D fold (partner p) ≡ (ltb p D && has fold p)
unfolding present
present_partner D fold p h =
    let e : 17 - p ≡ partner p = unfold partner in refl in
    let apart : partner p ≢ p = λ i. omega (arith, e, i) in
    rw (lt-ltb (partner p) 18 (omega (arith, e)), partner_axis p h, ne_eqb (partner p) p apart)

-- With nothing folded the ports that are there are those below D.
pub unfolded_present : (D q : ℕ) → D ≤ own_axes → present D 0 q ≡ ltb q D
unfolding present
unfolded_present D q h = ⊎_elim (λ l. present_low D 0 q l) (λ l. above l) (below_or 9 q)
  where
    above : 9 ≤ q → (ltb q 18 && (ltb (axis q) D && (eqb q (axis q) || has 0 (axis q)))) ≡ ltb q D
    above l =
        let apart : q ≢ axis q = λ e. omega (arith, e, axis_high q l) in
        rw (ne_eqb q (axis q) apart, high_has 0 0 (axis q) (omega arith) (omega arith), and-false (ltb (axis q) D), and-false (ltb q 18)) (sym (le-ltb q D (omega arith)))

-- what a test of any number finds: nothing from 18 on, and below it the axis and, of a partner, its fold bit
pub present_above : (D fold q : ℕ) → positions ≤ q → false ≡ present D fold q
unfolding present
present_above D fold q h = rw (le-ltb q 18 h)

pub present_own : (D fold q : ℕ) → q < positions → axis q < D → q ≡ axis q → true ≡ present D fold q
unfolding present
present_own D fold q h l e = rw (lt-ltb q 18 h, lt-ltb (axis q) D l, eq-eqb q (axis q) e)

pub present_folded : (D fold q : ℕ) → q < positions → axis q < D → q ≢ axis q → has fold (axis q) ≡ present D fold q
unfolding present
present_folded D fold q h l e = rw (lt-ltb q 18 h, lt-ltb (axis q) D l, ne_eqb q (axis q) e)

pub present_outside : (D fold q : ℕ) → D ≤ axis q → false ≡ present D fold q
unfolding present
present_outside D fold q l = rw (le-ltb (axis q) D l) (sym (and-false (ltb q 18)))

-- what holds of every port below 9 and of every partner holds of all 18
pub each_port : (P : ℕ → Type 0) → ((p : ℕ) → p < own_axes → P p) → ((p : ℕ) → p < own_axes → P (partner p)) → (q : ℕ) → q < positions → P q
each_port P low high q h = ⊎_elim (λ l. low q l) (λ l. rw (partner_back q h) at (high (partner q) (back l))) (below_or 9 q)
  where
    back : 9 ≤ q → partner q < 9
    back l = unfold partner in omega arith

-- numbers counted from the other end
one_kept : (f g : ℕ → Bool) (x y : ℕ) → f x ≡ g y → length (keep f (x ∷ [])) ≡ length (keep g (y ∷ []))
unfolding keep
one_kept f g x y e = rw e (go (g y))
  where
    go : (b : Bool) → length (cond b (x ∷ []) []) ≡ length (cond b (y ∷ []) [])
    go true = refl
    go false = refl

count_back : (f : ℕ → Bool) (s k : ℕ) → length (keep f (from s k)) ≡ length (keep (λ a. f (s + k - suc a)) (from 0 k))
count_back f s zero = unfold from in rw (keep_nil f, keep_nil (λ a. f (s + 0 - suc a)))
count_back f s (suc k) =
    let first : length (keep f (from s (suc k))) ≡ length (keep f (s ∷ [])) + length (keep f (from (suc s) k)) =
    unfold from in ap length (keep_append f (s ∷ []) (from (suc s) k)) ∙ length-append (keep f (s ∷ [])) (keep f (from (suc s) k)) in
    let g : ℕ → Bool = λ a. f (s + suc k - suc a) in
    let last : length (keep g (from 0 (suc k))) ≡ length (keep g (from 0 k)) + length (keep g ((0 + k) ∷ [])) =
    ap (λ xs. length (keep g xs)) (from_last 0 k) ∙ ap length (keep_append g (from 0 k) ((0 + k) ∷ [])) ∙ length-append (keep g (from 0 k)) (keep g ((0 + k) ∷ [])) in
    let same = ap length (keep_same (λ a. f (suc s + k - suc a)) g (from 0 k) (λ a m. ap (λ x. f (x - suc a)) (omega arith))) in
    omega (arith, count_back f (suc s) k, one_kept f g s (0 + k) (ap f (omega arith)))

-- the axes below D that pass a test, among the nine
axes_below : (D : ℕ) (g : ℕ → Bool) → D ≤ own_axes → keep (λ a. ltb a D && g a) (from 0 9) ≡ keep g (from 0 D)
axes_below D g h =
    keep_wider (λ a. ltb a D && g a) 0 D 9 h (λ a l. rw (le-ltb a D (omega arith)))
    ∙ keep_same (λ a. ltb a D && g a) g (from 0 D) (λ a m. rw (lt-ltb a D (from_below D a m)))

-- Of the ports that are there, as many have an axis that passes a test as there are such axes, and such folded axes.
pub count_ports : (D fold : ℕ) (g : ℕ → Bool) → D ≤ own_axes
    → length (keep (λ q. g (axis q)) (keep (present D fold) (from 0 positions))) ≡ length (keep g (from 0 D)) + length (keep (λ a. has fold a && g a) (from 0 D))
count_ports D fold g h =
    let parts = ap length (keep_keep (λ q. g (axis q)) (present D fold) (from 0 18)) ∙ ap (λ xs. length (keep f xs)) split ∙ ap length (keep_append f (from 0 9) (from 9 9))
    ∙ length-append (keep f (from 0 9)) (keep f (from 9 9)) in
    omega (arith, parts, low, high)
  where
    f : ℕ → Bool
    f q = present D fold q && g (axis q)

    split : from 0 18 ≡ from 0 9 ++ from 9 9
    split = unfold from in refl

    low : length (keep f (from 0 9)) ≡ length (keep g (from 0 D))
    low = ap length (keep_same f (λ a. ltb a D && g a) (from 0 9) (λ a m. let l = from_below 9 a m in rw (present_low D fold a l, axis_low a l)) ∙ axes_below D g h)

    and_join : (a b c : Bool) → ((a && b) && c) ≡ (a && (b && c))
    and_join true b c = refl
    and_join false b c = refl

    there : (a : ℕ) → a < 9 → f (9 + 9 - suc a) ≡ (ltb a D && (has fold a && g a))
    there a l =
        let e : 9 + 9 - suc a ≡ partner a = unfold partner in omega arith in
        rw (e, present_partner D fold a l, partner_axis a l) (and_join (ltb a D) (has fold a) (g a))

    high : length (keep f (from 9 9)) ≡ length (keep (λ a. has fold a && g a) (from 0 D))
    high =
        count_back f 9 9
        ∙ ap length (keep_same (λ a. f (9 + 9 - suc a)) (λ a. ltb a D && (has fold a && g a)) (from 0 9) (λ a m. there a (from_below 9 a m)) ∙ axes_below D (λ a. has fold a && g a) h)

-- What a vector offers (Paths 3): its ports among 18 positions are the ports there whose axis is in the vector, rising.
pub partners_ports : (D fold vector wide : ℕ) → D ≤ own_axes → vector < 2 ^ D → WithPartners fold vector wide
    → ports_of positions wide ≡ keep (λ q. has vector (axis q)) (keep (present D fold) (from 0 positions))
unfolding ports_of
partners_ports D fold vector wide h l w =
    keep_same (has wide) (λ q. present D fold q && has vector (axis q)) (from 0 18)
    (λ q m. each_port (λ q. has wide q ≡ (present D fold q && has vector (axis q))) (λ p k. w.given p k ∙ sym (below p k)) (λ p k. w.partners p k ∙ sym (above p k)) q (from_below 18 q m))
    ∙ sym (keep_keep (λ q. has vector (axis q)) (present D fold) (from 0 18))
  where
    inside : (p : ℕ) → (ltb p D && has vector p) ≡ has vector p
    inside p = ⊎_elim (λ k. rw (lt-ltb p D k)) (λ k. rw (high_has D vector p l k) (and-false (ltb p D))) (below_or D p)

    below : (p : ℕ) → p < 9 → (present D fold p && has vector (axis p)) ≡ has vector p
    below p k = rw (present_low D fold p k, axis_low p k) (inside p)

    swap : (a b c : Bool) → ((a && b) && c) ≡ (b && (a && c))
    swap true b c = refl
    swap false true c = refl
    swap false false c = refl

    above : (p : ℕ) → p < 9 → (present D fold (partner p) && has vector (axis (partner p))) ≡ (has fold p && has vector p)
    above p k = rw (present_partner D fold p k, partner_axis p k) (swap (ltb p D) (has fold p) (has vector p) ∙ ap (has fold p &&◌) (inside p))

-- With nothing folded a byte is its own vector with partners.
pub no_partners : (vector : ℕ) → vector < 256 → WithPartners 0 vector vector
no_partners vector h =
    record {
      given = λ p l. refl;
      partners = λ p l. high_has 8 vector (partner p) h (unfold partner in omega arith) ∙ sym (rw (high_has 0 0 p (omega arith) (omega arith)));
      small = omega arith;
    }

-- A vector beside the partners of those of its ports that are folded.
pub partnered : (fold vector mirror : ℕ) → vector < 256 → Partners (bit_and fold vector) mirror → WithPartners fold vector (bit_or vector mirror)
partnered fold vector mirror h m =
    record {
      given = λ p l. has_or vector mirror p ∙ rw (m.low p l) (or-false (has vector p));
      partners = λ p l. has_or vector mirror (partner p) ∙ rw (high_has 8 vector (partner p) h (unfold partner in omega arith), m.high p l) (has_and fold vector p);
      small = or_lt 18 vector mirror (omega arith) m.small;
    }

pub same_test : (a b : Bool) → beq a b ≡ true → a ≡ b
same_test true true e = refl
same_test true false e = sym e
same_test false true e = e
same_test false false e = refl

-- The eight bits of a byte from the other end, ten places up, are its partners: computed of every byte.
module _ (xs : List ℕ) where
  unfoldable pub mirrored : ℕ → Bool
  mirrored x = let m = get_or xs x 0 * 1024 in ltb m 262144 && every 9 (λ p. not (has m p) && beq (has m (17 - p)) (has x p))

  pub mirror_is : every 256 mirrored ≡ true → (x m : ℕ) → x < 256 → m ≡ get_or xs x 0 → Partners x (m * 1024 % 2 ^ 32)
  unfolding mirrored partner
  mirror_is all x m h e =
      let one = both (ltb (get_or xs x 0 * 1024) 262144) _ (at 256 mirrored all x h) in
      let each : (p : ℕ) → p < 9 → (not (has (get_or xs x 0 * 1024) p) ≡ true) × (beq (has (get_or xs x 0 * 1024) (17 - p)) (has x p) ≡ true) =
      λ p l. both _ _ (at 9 (λ p. not (has (get_or xs x 0 * 1024) p) && beq (has (get_or xs x 0 * 1024) (17 - p)) (has x p)) one.1 p l) in
      let fits : m * 1024 % 2 ^ 32 ≡ get_or xs x 0 * 1024 = omega (arith, e, ltb-true _ _ one.0) in
      rw fits
      record { low = λ p l. not-true _ (each p l).0; high = λ p l. same_test _ _ (each p l).1; small = ltb-true _ _ one.0 }

-- The ports of an axis: of the eight a port alone, of eighteen a port and its partner. The second is computed of every port.
pub axis_alone : (p m : ℕ) → p < port_count → m ≡ 2 ^ p → AxisPorts port_count p m
axis_alone p m h e = rw e (record { bits = λ q l. bit q l (eqb q p) refl; below = pow-lt h })
  where
    bit : (q : ℕ) → q < 8 → (b : Bool) → eqb q p ≡ b → has (2 ^ p) q ≡ eqb (axis q) (axis p)
    bit q l true i = rw (axis_low q (omega arith), axis_low p (omega arith), i, eqb-true q p i) (unfold has in ap (λ x. eqb x 1) (bit_power p))
    bit q l false i = rw (axis_low q (omega arith), axis_low p (omega arith), i) (unfold has in ap (λ x. eqb x 1) (bit_power_other p q (eqb-false q p i)))

abbrev axis_pair : ℕ → ℕ
axis_pair p = bit_or (1 * 2 ^ p % 2 ^ 32) (131072 / 2 ^ p)

pub axis_two : (p : ℕ) → p < positions → AxisPorts positions p (axis_pair p)
unfolding bit_at has axis
axis_two p h =
    record {
      bits = λ q l. same_test (has (axis_pair p) q) (eqb (axis q) (axis p)) (at₂ 18 18 (λ p q. beq (has (axis_pair p) q) (eqb (axis q) (axis p))) refl p q h l);
      below = ltb-true _ _ (at 18 (λ p. ltb (axis_pair p) 262144) refl p h);
    }

-- what is left of a vector without an axis
pub without_axis : (w v p m : ℕ) → AxisPorts w p m → (q : ℕ) → q < w → has (bit_xor v (bit_and v m)) q ≡ (has v q && not (eqb (axis q) (axis p)))
without_axis w v p m axes q l = has_xor v (bit_and v m) q ∙ rw (has_and v m q, axes.bits q l) (go (has v q) (eqb (axis q) (axis p)))
  where
    go : (a b : Bool) → not (beq a (a && b)) ≡ (a && not b)
    go true true = refl
    go true false = refl
    go false b = refl
