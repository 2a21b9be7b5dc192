-- The number of a join: what each means, and what an accepted one leaves.
-- Assumes nothing.
use mathlib.Core.Path.{◌≡◌, ap, sym, ◌∙◌}
use mathlib.Core.Logic.{⊎_elim, ◌≢◌}
use mathlib.Core.Bool.{not, ◌||◌}
use mathlib.Core.List.{List, [], ◌∷◌, ◌++◌, append_assoc}
use Prim.Native.Nat.{ℕ}
use native.Mathlib.Omega.{arith}
use lib.Dec.{eqb}
use lib.ListN.{length}
use borrow.Author.Tests.{eq-eqb, ne_eqb, eqb-true, eqb-false, not-false}
use Rattle.common.specs.Tests.{Test, refusal}
use Rattle.common.proofs.Tests.{refused, passed, accepted, first_passed, neither, or_left, or_right, refusal_after, refusal_both, refusal_before}
use Rattle.cube.specs.Cube.{port_count, largest_dimension}
use Rattle.layout.specs.Layout.{table_length}
use Rattle.table.specs.View.{View, view}
use Rattle.table.specs.Encode.{encode, AllBytes}
use Rattle.soundness.specs.TableTests.{length_test, table_tests}
use Rattle.ownership.specs.History.{History}
use Rattle.ownership.specs.HistoryView.{view_of}
use Rattle.ownership.specs.Invariant.{Represents}
use Rattle.ownership.specs.FromTable.{history_of}
use Rattle.ownership.proofs.Stops.{table_numbered}
use Rattle.ownership.proofs.FromTable.{sound_represents}
use Rattle.joining.specs.Joined.{joined_view, joined_history, halves_test, join_tests, join_step}
use Rattle.joining.specs.JoinSays.{PassesTests, JoinNumber, JoinSays}
use Rattle.joining.proofs.JoinedHistory.{joined_represents}
use Rattle.joining.proofs.JoinSays.{represented_says}

-- a table that represents a history shows its dimension
pub dimension_known : {a : List ℕ} {h : History} → Represents port_count a h → (view a).dimension ≡ h.dimension
unfolding view_of
dimension_known k = ap (λ (v : View). v.dimension) k.shows

-- Two sound tables of one dimension below 8 are joined as Joining has it.
pub sound_says : (a b : List ℕ) → AllBytes a → AllBytes b → PassesTests a → PassesTests b → (view a).dimension ≡ (view b).dimension → (view a).dimension ≢ largest_dimension
    → JoinSays (view a).dimension a b (encode (joined_view (view a) (view b)))
sound_says a b small its p q e ne =
    let one = sound_represents port_count a small p in
    let other = sound_represents port_count b its q in
    represented_says a b (history_of (view a)) (history_of (view b)) one other (sym (dimension_known one) ∙ e ∙ dimension_known other) (λ i. ne (dimension_known one ∙ i))

module _ (a b c : List ℕ) where
  abbrev n : ℕ
  n = (join_step a b c).result.number

  -- the tests behind those of the second, and behind those of the first
  abbrev last_tests : List Test
  last_tests = length_test port_count c ∷ halves_test (view a) (view b) ∷ []

  abbrev later_tests : List Test
  later_tests = table_tests port_count b ++ last_tests

  -- the number is that of the first test that applies, so that the tests before it may be left out
  pub join_number : n ≡ refusal (table_tests port_count a ++ later_tests)
  unfolding join_step join_tests
  join_number = ap refusal (append_assoc (table_tests port_count a) (table_tests port_count b) last_tests)

  refused_by_first : (PassesTests a → ⊥) → n ≡ refusal (table_tests port_count a)
  refused_by_first f = join_number ∙ refusal_before (table_tests port_count a) later_tests f

  past_first : PassesTests a → n ≡ refusal later_tests
  past_first p = join_number ∙ refusal_after (table_tests port_count a) later_tests (table_numbered port_count a) p

  past_second : PassesTests a → PassesTests b → n ≡ refusal last_tests
  past_second p q = past_first p ∙ refusal_after (table_tests port_count b) last_tests (table_numbered port_count b) q

  past_third : PassesTests a → PassesTests b → length c ≡ table_length → n ≡ refusal (halves_test (view a) (view b) ∷ [])
  past_third p q l = past_second p q ∙ passed 1 _ (ap not (eq-eqb (length c) table_length l))

  -- where no number is answered, every test has passed
  passed_all : n ≡ 0 → PassesTests a × PassesTests b × (length c ≡ table_length) × ((view a).dimension ≡ (view b).dimension) × ((view a).dimension ≢ largest_dimension)
  passed_all z =
      let x = refusal_both (table_tests port_count a) later_tests (table_numbered port_count a) (sym join_number ∙ z) in
      let y = refusal_both (table_tests port_count b) last_tests (table_numbered port_count b) x.1 in
      let l = first_passed _ 1 _ (λ e. omega arith) y.1 in
      let h = neither (not (eqb (view a).dimension (view b).dimension)) (eqb (view a).dimension largest_dimension) (first_passed _ 29 _ (λ e. omega arith) l.1).0 in
      (x.0, y.0, eqb-true (length c) table_length (not-false _ l.0), eqb-true _ _ (not-false _ h.0), eqb-false _ _ h.1)

  -- Joining 2
  pub join_numbers : JoinNumber a b c n (join_step a b c).state
  join_numbers =
      record {
        first = refused_by_first;
        second = λ p f. past_first p ∙ refusal_before (table_tests port_count b) last_tests f;
        third = λ p q f. past_second p q ∙ refused 1 _ (ap not (ne_eqb (length c) table_length f));
        unjoinable = λ p q l u. past_third p q l ∙ refused 29 [] (⊎_elim (λ ne. or_left _ (ap not (ne_eqb _ _ ne))) (λ e. or_right _ (eq-eqb _ _ e)) u);
        accepted = (passed_all, λ r. past_third r.0 r.1 r.2 ∙ passed 29 [] (λ i. not (eq-eqb _ _ r.3 i) || ne_eqb _ _ r.4 i) ∙ accepted);
        unchanged = λ f. unfold join_step in rw (ne_eqb _ 0 f);
      }

  -- An accepted one leaves the bytes that show what both halves show,
  pub join_leaves : n ≡ 0 → (join_step a b c).state ≡ encode (joined_view (view a) (view b))
  unfolding join_step
  join_leaves z = rw (eq-eqb _ 0 z)

  -- which represent the history of both,
  pub join_represents : (h g : History) → Represents port_count a h → Represents port_count b g → n ≡ 0 → Represents port_count (join_step a b c).state (joined_history h g)
  join_represents h g one other z =
      let r = passed_all z in
      let e = dimension_known one in
      let d = dimension_known other in
      rw (join_leaves z) (joined_represents a b h g one other (sym e ∙ r.3 ∙ d) (λ i. r.4 (e ∙ i)))

  -- and of which holds what Joining says.
  pub join_says : AllBytes a → AllBytes b → n ≡ 0 → JoinSays (view a).dimension a b (join_step a b c).state
  join_says small its z =
      let r = passed_all z in
      rw (join_leaves z) (sound_says a b small its r.0 r.1 r.3 r.4)
