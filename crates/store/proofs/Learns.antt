-- What is known after an event is what the rules say, and they leave no choice.
-- Assumes nothing.
use mathlib.Core.Path.{◌≡◌, refl, ap, ap₂, sym, subst, ◌∙◌}
use mathlib.Core.Logic.{◌⊎◌, inl, inr, ⊎_elim, ◌≢◌}
use mathlib.Core.List.{List, [], ◌∷◌, ◌++◌}
use Prim.Native.Nat.{ℕ}
use borrow.Author.Tests.{ne_eqb}
use Rattle.std.proofs.Common.{Option, Some, None}
use Rattle.std.specs.Option.{option_map}
use Rattle.common.proofs.Tests.{same?, clash}
use Rattle.ownership.specs.Calls.{Call, making, form}
use Rattle.ownership.specs.History.{history_step}
use Rattle.ownership.specs.Kinds.{Kind, narrow, wide}
use Rattle.store.specs.Store.{Event, on, convert, join, overwrite, Store, KnownTable, table_of, Known, store_step, entered, converted_of, joined_of, learn, store_after, known_after, written_by}
use Rattle.store.specs.Learns.{Learns}
use Rattle.store.proofs.Stores.{same_table, entered_as, learn_accepted, learn_converted, learn_joined, learn_overwritten, learn_other}

-- nothing is known of the third where nothing is known of the second
second_missing : (o : Option KnownTable) → joined_of o None ≡ None
unfolding joined_of
second_missing (Some t) = refl
second_missing None = refl

module _ (k : Known) (n : ℕ) where
  unlearned : (e : Event) → n ≢ 0 → (i : ℕ) → learn k e n i ≡ k i
  unfolding learn
  unlearned (on w i a) f = same_table k i _ (rw (ne_eqb n 0 f))
  unlearned (convert w i j) f = same_table k j _ (rw (ne_eqb n 0 f))
  unlearned (join i j t) f = same_table k t _ (rw (ne_eqb n 0 f))
  unlearned (overwrite i b) f = same_table k i _ (rw (ne_eqb n 0 f))

  -- what is known of the table of an accepted call that makes no table
  called_is : (w : Kind) (i : ℕ) (a : Call) → ((D : ℕ) → a ≢ making D) → n ≡ 0 → learn k (on w i a) n i ≡ option_map (λ t. table_of t.kind (history_step t.history a).state) (k i)
  called_is w i a f z = learn_accepted k w i a n z ∙ ⊎_elim (λ m. absurd (f m.0 m.1)) (λ g. g w (k i)) (entered_as a)

  -- of that written by an accepted conversion
  converted_is : (w : Kind) (i j : ℕ) (o : Option KnownTable) → n ≡ 0 → k i ≡ o → learn k (convert w i j) n j ≡ converted_of w o
  converted_is w i j o z p = learn_converted k w i j n z ∙ ap (converted_of w) p

  pub learns : (e : Event) → Learns k e n (learn k e n)
  unfolding entered converted_of joined_of
  learns e =
      record {
        refused = unlearned e;
        others = learn_other k e n;
        made = λ w i D q z. at q i ∙ learn_accepted k w i (making D) n z;
        called = λ w i a q f z t p. at q i ∙ called_is w i a f z ∙ ap (option_map (λ u. table_of u.kind (history_step u.history a).state)) p;
        called_unknown = λ w i a q f z p. at q i ∙ called_is w i a f z ∙ ap (option_map (λ u. table_of u.kind (history_step u.history a).state)) p;
        widened = λ i j q z t p. at q j ∙ converted_is narrow i j (Some t) z p;
        narrowed = λ i j q z t p. at q j ∙ converted_is wide i j (Some t) z p;
        read_unknown = λ w i j q z p. at q j ∙ converted_is w i j None z p;
        joined = λ i j t q z x y p r. at q t ∙ learn_joined k i j t n z ∙ ap₂ joined_of p r;
        first_unknown = λ i j t q z p. at q t ∙ learn_joined k i j t n z ∙ ap (λ o. joined_of o (k j)) p;
        second_unknown = λ i j t q z p. at q t ∙ learn_joined k i j t n z ∙ ap (joined_of (k i)) p ∙ second_missing (k i);
        overwritten = λ i b q z. at q i ∙ learn_overwritten k i b n z;
      }
    where
      at : {x : Event} → e ≡ x → (i : ℕ) → learn k e n i ≡ learn k x n i
      at q i = ap (λ x. learn k x n i) q

-- a call makes a table or not, and something is known or not
making? : (a : Call) → ((D : ℕ) × (a ≡ making D)) ⊎ ((D : ℕ) → a ≢ making D)
making? (making D) = inl (D, refl)
making? a = inr (λ D e. clash (ap (λ x. (form x).is_making) e) refl)

known? : (o : Option KnownTable) → ((t : KnownTable) × (o ≡ Some t)) ⊎ (o ≡ None)
known? (Some t) = inl (t, refl)
known? None = inr refl

-- Two of both of which the words hold are the same: of the table that the event writes,
module _ {k l m : Known} {n : ℕ} where
  written_same : (e : Event) → Learns k e n l → Learns k e n m → n ≡ 0 → l (written_by e) ≡ m (written_by e)
  unfolding written_by
  written_same (on w i a) one other z = ⊎_elim makes calls (making? a)
    where
      makes : (D : ℕ) × (a ≡ making D) → l i ≡ m i
      makes x = let q = ap (on w i) x.1 in one.made w i x.0 q z ∙ sym (other.made w i x.0 q z)

      calls : ((D : ℕ) → a ≢ making D) → l i ≡ m i
      calls f =
          ⊎_elim (λ x. one.called w i a refl f z x.0 x.1 ∙ sym (other.called w i a refl f z x.0 x.1)) (λ p. one.called_unknown w i a refl f z p ∙ sym (other.called_unknown w i a refl f z p))
          (known? (k i))
  written_same (convert narrow i j) one other z =
      ⊎_elim (λ x. one.widened i j refl z x.0 x.1 ∙ sym (other.widened i j refl z x.0 x.1)) (λ p. one.read_unknown narrow i j refl z p ∙ sym (other.read_unknown narrow i j refl z p)) (known? (k i))
  written_same (convert wide i j) one other z =
      ⊎_elim (λ x. one.narrowed i j refl z x.0 x.1 ∙ sym (other.narrowed i j refl z x.0 x.1)) (λ p. one.read_unknown wide i j refl z p ∙ sym (other.read_unknown wide i j refl z p)) (known? (k i))
  written_same (join i j t) one other z = ⊎_elim first (λ p. one.first_unknown i j t refl z p ∙ sym (other.first_unknown i j t refl z p)) (known? (k i))
    where
      first : (x : KnownTable) × (k i ≡ Some x) → l t ≡ m t
      first x =
          ⊎_elim (λ y. one.joined i j t refl z x.0 y.0 x.1 y.1 ∙ sym (other.joined i j t refl z x.0 y.0 x.1 y.1))
          (λ p. one.second_unknown i j t refl z p ∙ sym (other.second_unknown i j t refl z p)) (known? (k j))
  written_same (overwrite i b) one other z = one.overwritten i b refl z ∙ sym (other.overwritten i b refl z)

  -- and of every other
  learned_same : (e : Event) → Learns k e n l → Learns k e n m → (i : ℕ) → l i ≡ m i
  learned_same e one other i = ⊎_elim accepts (λ f. one.refused f i ∙ sym (other.refused f i)) (same? n 0)
    where
      accepts : n ≡ 0 → l i ≡ m i
      accepts z =
          ⊎_elim (λ q. subst (λ j. l j ≡ m j) q (written_same e one other z)) (λ d. one.others i d ∙ sym (other.others i d)) (same? (written_by e) i)

-- So whatever the words hold of is what is known.
pub learns_exactly : (k : Known) (e : Event) (n : ℕ) (l : Known) → Learns k e n l → (i : ℕ) → l i ≡ learn k e n i
learns_exactly k e n l one = learned_same e one (learns k n e)

-- In a list of events, what is known after each is what the words say, by the number that it answers.
pub events_learn : (before : List Event) (s : Store) (k : Known) (e : Event)
    → Learns (known_after s k before) e (store_step (store_after s before) e).result.number (known_after s k (before ++ e ∷ []))
unfolding store_after known_after
events_learn [] s k e = learns k (store_step s e).result.number e
events_learn (x ∷ before) s k e = events_learn before (store_step s x).state (learn k x (store_step s x).result.number) e
