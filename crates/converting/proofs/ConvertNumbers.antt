-- The number of a conversion: what each means, and what an accepted one leaves.
-- Assumes nothing.
use mathlib.Core.Path.{◌≡◌, refl, ap, ap₂, sym, ◌∙◌}
use mathlib.Core.Logic.{◌≢◌, ⊎_elim}
use mathlib.Core.Bool.{true, false, cond, not, ◌&&◌}
use mathlib.Core.List.{List, [], ◌∷◌, ◌++◌}
use Prim.Native.Nat.{ℕ, ◌^◌, ◌≤◌}
use native.Mathlib.Omega.{arith}
use lib.Dec.{eqb, ltb}
use lib.ListN.{length}
use borrow.Author.Tests.{eq-eqb, ne_eqb, eqb-true, ltb-true, le-leb, not-false}
use Rattle.common.specs.Tests.{Test, refusal}
use Rattle.common.proofs.Tests.{same?, clash, is_false, refused, passed, accepted, first_passed, refusal_after, refusal_both, refusal_before}
use Rattle.cube.specs.Bits.{has}
use Rattle.cube.specs.Cube.{port_count, largest_dimension}
use Rattle.cube.proofs.Bits.{high_has}
use Rattle.layout.specs.Layout.{length_of}
use Rattle.table.specs.View.{view}
use Rattle.table.specs.Encode.{encode_over}
use Rattle.soundness.specs.SoundTest.{sound_test}
use Rattle.soundness.specs.TableTests.{length_test, table_tests}
use Rattle.ownership.specs.OnTable.{done}
use Rattle.ownership.proofs.Stops.{table_numbered}
use Rattle.converting.specs.Converted.{fold_test, convert_tests, convert_step, widen_step, narrow_step}
use Rattle.converting.specs.ConvertSays.{PassesTests, WidenNumber, NarrowNumber}

-- a fold mask that the table written can have
abbrev pub KeepsFold : ℕ → ℕ → Type 0
KeepsFold r fold = r ≡ port_count → fold ≡ 0

module _ (q r : ℕ) (a c : List ℕ) where
  abbrev n : ℕ
  n = (convert_step q r a c).result.number

  -- the tests behind those of the table read
  abbrev last_tests : List Test
  last_tests = length_test r c ∷ fold_test r (view a) ∷ []

  -- the number is that of the first test that applies, so that the tests before it may be left out
  pub convert_number : n ≡ refusal (table_tests q a ++ last_tests)
  unfolding convert_step convert_tests
  convert_number = refl

  pub refused_by_read : (PassesTests q a → ⊥) → n ≡ refusal (table_tests q a)
  refused_by_read f = convert_number ∙ refusal_before (table_tests q a) last_tests f

  past_read : PassesTests q a → n ≡ refusal last_tests
  past_read p = convert_number ∙ refusal_after (table_tests q a) last_tests (table_numbered q a) p

  pub refused_by_written : PassesTests q a → length c ≢ length_of r → n ≡ 1
  refused_by_written p f = past_read p ∙ refused 1 _ (ap not (ne_eqb (length c) (length_of r) f))

  past_written : PassesTests q a → length c ≡ length_of r → n ≡ refusal (fold_test r (view a) ∷ [])
  past_written p l = past_read p ∙ passed 1 _ (ap not (eq-eqb (length c) (length_of r) l))

  pub refused_folded : PassesTests q a → length c ≡ length_of r → r ≡ port_count → (view a).fold ≢ 0 → n ≡ 24
  refused_folded p l e f = past_written p l ∙ refused 24 [] (λ i. eq-eqb r port_count e i && not (ne_eqb (view a).fold 0 f i))

  kept : KeepsFold r (view a).fold → (eqb r port_count && not (eqb (view a).fold 0)) ≡ false
  kept k = ⊎_elim (λ e. λ i. eq-eqb r port_count e i && not (eq-eqb (view a).fold 0 (k e) i)) (λ f. rw (ne_eqb r port_count f) refl) (same? r port_count)

  pub convert_accepted : PassesTests q a → length c ≡ length_of r → KeepsFold r (view a).fold → n ≡ 0
  convert_accepted p l k = past_written p l ∙ passed 24 [] (kept k) ∙ accepted

  -- A fold bit at or above D makes the table read unsound.
  pub refused_stray : length a ≡ length_of q → 1 ≤ (view a).dimension → (view a).dimension ≤ largest_dimension → (p : ℕ) → (view a).dimension ≤ p → has (view a).fold p ≡ true → n ≡ 3
  refused_stray long least most p l t = refused_by_read (λ z. omega (arith, three, z)) ∙ three
    where
      unsound : sound_test (view a) ≡ false
      unsound = unfold sound_test in
          rw (is_false (ltb (view a).fold (2 ^ (view a).dimension)) (λ e. clash t (high_has (view a).dimension (view a).fold p (ltb-true (view a).fold _ e) l))) refl

      three : refusal (table_tests q a) ≡ 3
      three = unfold table_tests in
          (passed 1 _ (ap not (eq-eqb (length a) (length_of q) long)) ∙ passed 2 _ (ap not (ap₂ ◌&&◌ (le-leb 1 (view a).dimension least) (le-leb (view a).dimension 8 most)))
          ∙ refused 3 [] (ap not unsound))

  -- where no number is answered, every test has passed
  pub passed_all : n ≡ 0 → PassesTests q a × (length c ≡ length_of r) × KeepsFold r (view a).fold
  passed_all z =
      let x = refusal_both (table_tests q a) last_tests (table_numbered q a) (sym convert_number ∙ z) in
      let l = first_passed _ 1 _ (λ e. omega arith) x.1 in
      let f = (first_passed _ 24 _ (λ e. omega arith) l.1).0 in
      (x.0, eqb-true (length c) (length_of r) (not-false _ l.0), λ e. eqb-true (view a).fold 0 (not-false _ (ap (λ t. t && not (eqb (view a).fold 0)) (sym (eq-eqb r port_count e)) ∙ f)))

  -- A refused conversion changes nothing,
  pub convert_refused : n ≢ 0 → convert_step q r a c ≡ done c n [] []
  unfolding convert_step
  convert_refused f = rw (ne_eqb n 0 f)

  pub unchanged : n ≢ 0 → (convert_step q r a c).state ≡ c
  unchanged f = ap (λ x. x.state) (convert_refused f)

  -- and an accepted one leaves the bytes that show what the table read shows.
  pub convert_done : n ≡ 0 → convert_step q r a c ≡ done (encode_over r (view a)) 0 [] []
  unfolding convert_step
  convert_done z = ap (λ m. done (cond (eqb m 0) (encode_over r (view a)) c) m [] []) z

  pub convert_leaves : n ≡ 0 → (convert_step q r a c).state ≡ encode_over r (view a)
  convert_leaves z = ap (λ x. x.state) (convert_done z)

-- Wide 12
pub widen_numbers : (a c : List ℕ) → WidenNumber a c (widen_step a c).result.number (widen_step a c).state
widen_numbers a c =
    record {
      read = refused_by_read 8 18 a c;
      written = refused_by_written 8 18 a c;
      accepted = (λ z. let x = passed_all 8 18 a c z in (x.0, x.1), λ x. convert_accepted 8 18 a c x.0 x.1 (λ e. absurd (omega arith)));
      unchanged = unchanged 8 18 a c;
    }

-- and, going back, 24 if the fold mask is another than 0
pub narrow_numbers : (a c : List ℕ) → NarrowNumber a c (narrow_step a c).result.number (narrow_step a c).state
narrow_numbers a c =
    record {
      read = refused_by_read 18 8 a c;
      written = refused_by_written 18 8 a c;
      stray = refused_stray 18 8 a c;
      folded = λ p l f. refused_folded 18 8 a c p l refl f;
      accepted = (λ z. let x = passed_all 18 8 a c z in (x.0, x.1, x.2 refl), λ x. convert_accepted 18 8 a c x.0 x.1 (λ e. x.2));
      unchanged = unchanged 18 8 a c;
    }
