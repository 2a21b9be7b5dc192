-- Where at each node no more members of a list end than channels are available, each of them can be given a channel of its own.
-- Assumes nothing.
use mathlib.Core.Path.{◌≡◌, refl, ap, sym, ◌∙◌}
use mathlib.Core.Logic.{◌⊎◌, inl, inr, ◌≢◌}
use mathlib.Core.Bool.{Bool, true, false, cond, not, ◌&&◌, and-true}
use mathlib.Core.List.Memᴰ
use mathlib.Core.List.{List, [], ◌∷◌}
use Prim.Native.Nat.{ℕ, suc, ◌≤◌, ◌<◌}
use native.Mathlib.Omega.{arith}
use lib.Dec.{eqb}
use lib.ListN.{length}
use borrow.Author.Tests.{eqb-true, eq-eqb, ne_eqb, not-true}
use Rattle.common.specs.Lists.{◌∈◌, keep, from, Pairwise}
use Rattle.common.proofs.Lists.{all_cons, keep_yes, keep_no, keep_none, keep_same, keep_keep, keep_pairwise, length_parts, pairwise_imp}
use Rattle.common.proofs.From.{from_pairwise, kept_below}
use Rattle.common.proofs.Tests.{same?, both, and, clash}
use Rattle.cube.specs.Cube.{channels}

-- how many channels of a node are available
abbrev room : (ℕ → ℕ → Bool) → ℕ → ℕ
room available t = length (keep (available t) (from 0 channels))

-- which are, once channel k of node t is taken
abbrev without : (ℕ → ℕ → Bool) → ℕ → ℕ → ℕ → ℕ → Bool
without available t k n j = available n j && not (eqb n t && eqb j k)

-- of numbers that rise at most one is k
at_most_one : (k : ℕ) (ns : List ℕ) → Pairwise ◌<◌ ns → length (keep (λ j. eqb j k) ns) ≤ 1
unfolding Pairwise keep
at_most_one k [] rises = omega arith
at_most_one k (n ∷ ns) rises = go (eqb n k) refl (at_most_one k ns rises.1)
  where
    go : (b : Bool) → eqb n k ≡ b → length (keep (λ j. eqb j k) ns) ≤ 1 → length (keep (λ j. eqb j k) (n ∷ ns)) ≤ 1
    go true e ih =
        let none = keep_none (λ j. eqb j k) ns (λ j m. ne_eqb j k (λ i. let q = eqb-true n k e in omega (arith, rises.0 j m))) in
        omega (arith, ap length (keep_yes (λ j. eqb j k) n ns e), ap length none)
    go false e ih = omega (arith, ap length (keep_no (λ j. eqb j k) n ns e), ih)

-- a list that is not empty has a member
pub first_of : {A : Type 0} (xs : List A) → 1 ≤ length xs → (x : A) × (x ∈ xs)
first_of [] l = absurd (omega arith)
first_of (x ∷ xs) l = (x, Memᴰ.head refl)

module _ (available : ℕ → ℕ → Bool) (t k : ℕ) where
  -- a channel that is taken leaves one less at its node at most, and as many at another
  room_less : room available t ≤ suc (room (without available t k) t)
  room_less =
      let ns = keep (available t) (from 0 channels) in
      let left : keep (without available t k t) (from 0 channels) ≡ keep (λ j. not (eqb j k)) ns =
      keep_same _ _ (from 0 channels) (λ j m. rw (eq-eqb t t refl)) ∙ sym (keep_keep (λ j. not (eqb j k)) (available t) (from 0 channels)) in
      omega (arith, ap length left, length_parts (λ j. eqb j k) ns, at_most_one k ns (keep_pairwise (available t) ◌<◌ (from 0 channels) (from_pairwise 0 channels)))

  room_other : (n : ℕ) → n ≢ t → room (without available t k) n ≡ room available n
  room_other n f = ap length (keep_same _ _ (from 0 channels) (λ j m. rw (ne_eqb n t f) (and-true (available n j))))

-- Members of a list, of which each has a number and a target.
module _ {A : Type 0} (number target : A → ℕ) where
  -- how many of them end at a node
  abbrev ending : List A → ℕ → ℕ
  ending xs t = length (keep (λ x. eqb (target x) t) xs)

  -- A choice of a channel for each number: it is available at the member's target, and no two members have one channel of one node.
  pub record Chosen (available : ℕ → ℕ → Bool) (xs : List A) : Type 0 where
    pub receive : ℕ → ℕ
    pub small : (x : A) → x ∈ xs → receive (number x) < channels
    pub free : (x : A) → x ∈ xs → available (target x) (receive (number x)) ≡ true
    pub apart : Pairwise (λ x y. target x ≡ target y → receive (number x) ≡ receive (number y) → ⊥) xs

  -- where no two have one number, a choice for the later members is one for all with a channel for the first that they do not take
  module _ (available : ℕ → ℕ → Bool) (x : A) (xs : List A) (other : (y : A) → y ∈ xs → number x ≢ number y) (k : ℕ) (below : k < channels) (has : available (target x) k ≡ true)
      (rest : Chosen (without available (target x) k) xs) where
    abbrev receive : ℕ → ℕ
    receive n = cond (eqb n (number x)) k (rest.receive n)

    mine : receive (number x) ≡ k
    mine = rw (eq-eqb (number x) (number x) refl)

    later : (y : A) → y ∈ xs → receive (number y) ≡ rest.receive (number y)
    later y m = rw (ne_eqb (number y) (number x) (λ e. other y m (sym e)))

    chosen_more : Chosen available (x ∷ xs)
    chosen_more =
        record {
          receive = receive;
          small = all_cons (λ y. receive (number y) < channels) (rw mine below) (λ y m. rw (later y m) (rest.small y m));
          free = all_cons (λ y. available (target y) (receive (number y)) ≡ true) (rw mine has) (λ y m. rw (later y m) (both _ _ (rest.free y m)).0);
          apart = unfold Pairwise in (
            (λ y m e f.
                clash (and (eq-eqb (target y) (target x) (sym e)) (eq-eqb (rest.receive (number y)) k (sym (later y m) ∙ sym f ∙ mine)))
                (not-true _ (both (available (target y) (rest.receive (number y))) _ (rest.free y m)).1)),
            pairwise_imp _ _ xs (λ y z m i apart e f. apart e (sym (later y m) ∙ f ∙ later z i)) rest.apart,
          );
        }

  -- Where no two members have one number, and at each node no more of them end than channels are available, there is such a choice.
  pub choose : (available : ℕ → ℕ → Bool) (xs : List A) → Pairwise (λ x y. number x ≢ number y) xs → ((t : ℕ) → ending xs t ≤ room available t) → Chosen available xs
  unfolding Pairwise
  choose available [] other enough =
      record { receive = λ n. 0; small = λ x m. absurd (Memᴰ.not-nil m); free = λ x m. absurd (Memᴰ.not-nil m); apart = tt }
  choose available (x ∷ xs) other enough =
      let one_more : ending (x ∷ xs) (target x) ≡ suc (ending xs (target x)) = ap length (keep_yes (λ y. eqb (target y) (target x)) x xs (eq-eqb (target x) (target x) refl)) in
      let k = first_of (keep (available (target x)) (from 0 channels)) (omega (arith, one_more, enough (target x))) in
      let r = kept_below (available (target x)) channels k.0 k.1 in
      chosen_more available x xs other.0 k.0 r.0 r.1 (choose (without available (target x) k.0) xs other.1 (λ t. left k.0 t (same? t (target x))))
    where
      left : (k t : ℕ) → (t ≡ target x) ⊎ (t ≢ target x) → ending xs t ≤ room (without available (target x) k) t
      left k t (inl e) =
          rw e
          (omega (arith, room_less available (target x) k, enough (target x), ap length (keep_yes (λ y. eqb (target y) (target x)) x xs (eq-eqb (target x) (target x) refl))))
      left k t (inr f) =
          omega (arith, room_other available (target x) k t f, enough t, ap length (keep_no (λ y. eqb (target y) t) x xs (ne_eqb (target x) t (λ e. f (sym e)))))
