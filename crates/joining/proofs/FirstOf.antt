-- What the first member that passes a test gives, of a list behind another and of a list under a function: one law for links marked, circuits listed and their numbers.
-- Assumes nothing.
use mathlib.Core.Path.{◌≡◌, refl, ap, sym, ◌∙◌}
use mathlib.Core.Logic.{⊎_elim}
use mathlib.Core.Bool.{Bool, true, false, cond, ◌&&◌, ◌||◌}
use mathlib.Core.List.Memᴰ
use mathlib.Core.List.{List, [], ◌∷◌, ◌++◌, map}
use Prim.Native.Nat.{ℕ, ◌+◌, ◌-◌, ◌^◌, ◌<◌}
use native.Mathlib.Omega.{arith}
use lib.Dec.{eqb}
use borrow.Author.Tests.{lt-ltb, le-ltb, eq-eqb, ne_eqb, eqb-true, eqb-false}
use Rattle.common.specs.Lists.{◌∈◌, any}
use Rattle.common.proofs.Tests.{below_or}
use Rattle.common.proofs.Lists.{all_map}
use Rattle.paths.specs.Network.{Link, has_link}
use Rattle.ownership.specs.History.{Circuit, belongs, listed}
use Rattle.ownership.specs.HistoryView.{first_circuit}
use Rattle.ownership.proofs.Circuits.{number_for}
use Rattle.joining.specs.Joined.{of_halves}

-- Every number is a node of the first half, or 2^D more than some number. What both halves say of it is what its half says.
module _ (D : ℕ) where
  pub in_halves : (P : ℕ → Type 0) → ((n : ℕ) → n < 2 ^ D → P n) → ((n : ℕ) → P (n + 2 ^ D)) → (n : ℕ) → P n
  in_halves P first second n =
      ⊎_elim (first n) (λ l. let e : n - 2 ^ D + 2 ^ D ≡ n = omega arith in rw e at (second (n - 2 ^ D))) (below_or (2 ^ D) n)

  module _ {A : Type 0} (f g : ℕ → ℕ → A) where
    pub of_first : (n k : ℕ) → n < 2 ^ D → of_halves D f g n k ≡ f n k
    unfolding of_halves
    of_first n k h = rw (lt-ltb n (2 ^ D) h)

    pub of_second : (n k : ℕ) → of_halves D f g (n + 2 ^ D) k ≡ g n k
    unfolding of_halves
    of_second n k = let e : n + 2 ^ D - 2 ^ D ≡ n = omega arith in rw (le-ltb (n + 2 ^ D) (2 ^ D) (omega arith)) (ap (λ m. g m k) e)

-- the value of the first member that passes a test
unfoldable pub first : {A B : Type 0} → (A → Bool) → (A → B) → B → List A → B
first f v d [] = d
first f v d (x ∷ xs) = cond (f x) (v x) (first f v d xs)

-- Whether a list has a link, whether it lists a circuit of a send channel, that circuit's ports, and the number of the first circuit that passes a test are such values. The tests of links
-- and of send channels compare the node first.
abbrev pub at : ℕ → ℕ → Link → Bool
at n p l = eqb n l.0 && eqb p l.1

abbrev pub sends_from : ℕ → ℕ → Circuit → Bool
sends_from s c x = eqb s x.source && eqb x.channel c

one_or : (a b : Bool) → a || b ≡ cond a true b
one_or true b = refl
one_or false b = refl

pub has_first : (ls : List Link) (n p : ℕ) → has_link ls n p ≡ first (at n p) (λ l. true) false ls
unfolding has_link first
has_first [] n p = refl
has_first (l ∷ ls) n p = ap (at n p l ||◌) (has_first ls n p) ∙ one_or (at n p l) _

same_eqb : (a b : ℕ) → eqb a b ≡ eqb b a
same_eqb a b = go (eqb b a) refl
  where
    go : (x : Bool) → eqb b a ≡ x → eqb a b ≡ x
    go true e = eq-eqb a b (sym (eqb-true b a e))
    go false e = ne_eqb a b (λ i. eqb-false b a e (sym i))

from_belongs : (s c : ℕ) (x : Circuit) → belongs s c x ≡ sends_from s c x
unfolding belongs
from_belongs s c x = ap (◌&& eqb x.channel c) (same_eqb x.source s)

pub any_first : (xs : List Circuit) (s c : ℕ) → any (belongs s c) xs ≡ first (sends_from s c) (λ x. true) false xs
unfolding any first
any_first [] s c = refl
any_first (x ∷ xs) s c = rw (from_belongs s c x, any_first xs s c) (one_or (sends_from s c x) _)

pub listed_first : (xs : List Circuit) (s c : ℕ) → listed xs s c ≡ first (sends_from s c) (λ x. x.ports) [] xs
unfolding listed first
listed_first [] s c = refl
listed_first (x ∷ xs) s c = rw (from_belongs s c x, listed_first xs s c)

pub number_first : (f : Circuit → Bool) (xs : List Circuit) → first_circuit f xs ≡ first f number_for 0 xs
unfolding first_circuit first
number_first f [] = refl
number_first f (x ∷ xs) = ap (cond (f x) (number_for x)) (number_first f xs)

module _ {A B : Type 0} (f : A → Bool) (v : A → B) (d : B) where
  -- where none of one of two lists passes, it is that of the other
  first_none : (xs : List A) → ((x : A) → x ∈ xs → f x ≡ false) → first f v d xs ≡ d
  unfolding first
  first_none [] none = refl
  first_none (x ∷ xs) none = rw (none x (Memᴰ.head refl)) (first_none xs (λ y m. none y (Memᴰ.tail m)))

  first_before : (xs ys : List A) → ((y : A) → y ∈ ys → f y ≡ false) → first f v d (xs ++ ys) ≡ first f v d xs
  unfolding first
  first_before [] ys none = first_none ys none
  first_before (x ∷ xs) ys none = ap (cond (f x) (v x)) (first_before xs ys none)

  first_after : (xs ys : List A) → ((x : A) → x ∈ xs → f x ≡ false) → first f v d (xs ++ ys) ≡ first f v d ys
  unfolding first
  first_after [] ys none = refl
  first_after (x ∷ xs) ys none = rw (none x (Memᴰ.head refl)) (first_after xs ys (λ y m. none y (Memᴰ.tail m)))

  -- with another test that says the same
  first_same : (g : A → Bool) (xs : List A) → ((x : A) → x ∈ xs → f x ≡ g x) → first f v d xs ≡ first g v d xs
  unfolding first
  first_same g [] same = refl
  first_same g (x ∷ xs) same = rw (same x (Memᴰ.head refl), first_same g xs (λ y m. same y (Memᴰ.tail m)))

-- of a list under a function
first_map : {A B : Type 0} (f g : A → Bool) (v : A → B) (d : B) (s : A → A) (r : B → B) → r d ≡ d → ((x : A) → v (s x) ≡ r (v x)) → (xs : List A)
    → ((x : A) → x ∈ xs → f (s x) ≡ g x) → first f v d (map s xs) ≡ r (first g v d xs)
unfolding first
first_map f g v d s r keeps values [] same = sym keeps
first_map f g v d s r keeps values (x ∷ xs) same = rw (same x (Memᴰ.head refl), first_map f g v d s r keeps values xs (λ y m. same y (Memᴰ.tail m)), values x) (go (g x))
  where
    go : (b : Bool) → cond b (r (v x)) (r (first g v d xs)) ≡ r (cond b (v x) (first g v d xs))
    go true = refl
    go false = refl

-- Two lists, the second under the function s, and a test by node and port or channel: at a node of the first half a member of the first list passes it as it passed the half's own
-- test, and no member of the second does; at a node of the second half it is the other way round.
pub record Apart {A : Type 0} (D : ℕ) (f g : ℕ → ℕ → A → Bool) (s : A → A) (xs ys : List A) : Type 0 where
  pub first : (n k : ℕ) → n < 2 ^ D → (x : A) → x ∈ xs → f n k x ≡ g n k x
  pub not_first : (n k : ℕ) (x : A) → x ∈ xs → f (n + 2 ^ D) k x ≡ false
  pub second : (n k : ℕ) (y : A) → y ∈ ys → f (n + 2 ^ D) k (s y) ≡ g n k y
  pub not_second : (n k : ℕ) → n < 2 ^ D → (y : A) → y ∈ ys → f n k (s y) ≡ false

-- Then the value of the first that passes is that of the node's half.
pub first_of_halves : {A B : Type 0} {D : ℕ} {f g : ℕ → ℕ → A → Bool} {s : A → A} {xs ys : List A} (v : A → B) (d : B) (r : B → B) → Apart D f g s xs ys → r d ≡ d
    → ((x : A) → v (s x) ≡ r (v x)) → (n k : ℕ) → first (f n k) v d (xs ++ map s ys) ≡ of_halves D (λ n k. first (g n k) v d xs) (λ n k. r (first (g n k) v d ys)) n k
first_of_halves {A} {B} {D} {f} {g} {s} {xs} {ys} v d r apart keeps values n k = in_halves D P one other n
  where
    P : ℕ → Type 0
    P n = first (f n k) v d (xs ++ map s ys) ≡ of_halves D (λ n k. first (g n k) v d xs) (λ n k. r (first (g n k) v d ys)) n k

    one : (n : ℕ) → n < 2 ^ D → P n
    one n h =
        first_before (f n k) v d xs (map s ys) (all_map (λ y. f n k y ≡ false) s ys (apart.not_second n k h)) ∙ first_same (f n k) v d (g n k) xs (apart.first n k h)
        ∙ sym (of_first D _ _ n k h)

    other : (n : ℕ) → P (n + 2 ^ D)
    other n =
        first_after (f (n + 2 ^ D) k) v d xs (map s ys) (apart.not_first n k) ∙ first_map (f (n + 2 ^ D) k) (g n k) v d s r keeps values ys (apart.second n k)
        ∙ sym (of_second D _ _ n k)
