-- What the calls that convert give: where a test stops them, and where none does; and that what they read fits both layouts.
-- Assumes nothing.
use mathlib.Core.Path.{◌≡◌, refl, ap, sym, ◌∙◌}
use mathlib.Core.Logic.{◌≢◌}
use mathlib.Core.Bool.{true, not}
use mathlib.Core.List.{List, [], ◌∷◌, ◌++◌, append_assoc}
use Prim.Native.Nat.{ℕ, ◌≤◌, ◌<◌}
use native.Mathlib.Omega.{arith}
use lib.ListN.{length}
use borrow.Author.Tests.{eq-eqb, ne_eqb, ltb-true}
use Rattle.common.specs.Tests.{refusal}
use Rattle.common.proofs.Tests.{is_false, refused, passed, accepted, refusal_after, refusal_before}
use Rattle.cube.specs.Cube.{largest_dimension, port_count}
use Rattle.cube.specs.Axes.{present}
use Rattle.cube.proofs.Bits.{no_bit_above}
use Rattle.cube.proofs.PartnerPorts.{unfolded_present}
use Rattle.layout.specs.Layout.{length_of, dimension_at, fold_at}
use Rattle.table.specs.View.{view}
use Rattle.table.specs.Encode.{AllBytes, encode_over}
use Rattle.table.specs.TableContracts.{EnablesFit}
use Rattle.entries.specs.EntryContracts.{enable_bits}
use Rattle.soundness.specs.Sound.{Sound}
use Rattle.soundness.specs.TableTests.{length_test, table_tests}
use Rattle.soundness.proofs.Deciding.{sound_enables}
use Rattle.ownership.specs.OnTable.{done}
use Rattle.ownership.proofs.Stops.{pass_tests, table_numbered}
use Rattle.converting.specs.Converted.{fold_test, convert_step}
use Rattle.converting.specs.ConvertContracts.{BothTested, FitsBoth}
use Rattle.converting.proofs.ConvertNumbers.{KeepsFold, convert_number, convert_accepted, convert_refused, convert_done, refused_folded}

-- The test of both tables: of the one read,
module _ (q r : ℕ) (a c : List ℕ) where
  pub read_stops : {n : ℕ} → n ≡ refusal (table_tests q a) → n ≢ 0 → BothTested q r a c n
  read_stops e f =
      record {
        tests = e ∙ sym (refusal_before (table_tests q a) _ (λ z. f (e ∙ z)));
        read = λ z. absurd (f z);
        written = λ z. absurd (f z);
      }

  module _ (passes : 0 ≡ refusal (table_tests q a)) where
    past_read : refusal (table_tests q a ++ length_test r c ∷ []) ≡ refusal (length_test r c ∷ [])
    past_read = refusal_after (table_tests q a) _ (table_numbered q a) (sym passes)

    -- and of the one written
    pub written_stops : length c ≢ length_of r → BothTested q r a c 1
    written_stops h =
        record {
          tests = sym (past_read ∙ refused 1 _ (ap not (ne_eqb (length c) (length_of r) h)));
          read = λ z. sym passes;
          written = λ z. absurd (omega (arith, z));
        }

    pub neither_stops : length c ≡ length_of r → BothTested q r a c 0
    neither_stops h =
        record {
          tests = sym (past_read ∙ passed 1 [] (ap not (eq-eqb (length c) (length_of r) h)) ∙ accepted);
          read = λ z. sym passes;
          written = λ z. h;
        }

  -- Where it stops a conversion, that gives its number;
  pub both_stop : {n : ℕ} → BothTested q r a c n → n ≢ 0 → done c n [] [] ≡ convert_step q r a c
  both_stop {n} t f =
      ap (λ m. done c m [] []) number ∙ sym (convert_refused q r a c (λ z. f (number ∙ z)))
    where
      number : n ≡ (convert_step q r a c).result.number
      number =
          t.tests ∙ sym (refusal_before (table_tests q a ++ length_test r c ∷ []) (fold_test r (view a) ∷ []) (λ z. f (t.tests ∙ z)))
          ∙ ap refusal (append_assoc (table_tests q a) (length_test r c ∷ []) (fold_test r (view a) ∷ [])) ∙ sym (convert_number q r a c)

  module _ (t : BothTested q r a c 0) where
    -- else the fold mask may stop it,
    pub fold_stops : r ≡ port_count → (view a).fold ≢ 0 → done c 24 [] [] ≡ convert_step q r a c
    fold_stops e f =
        let number = refused_folded q r a c (t.read refl) (t.written refl) e f in
        ap (λ m. done c m [] []) (sym number) ∙ sym (convert_refused q r a c (λ z. omega (arith, number, z)))

    -- or nothing does.
    pub none_stops : KeepsFold r (view a).fold → {d : List ℕ} → d ≡ encode_over r (view a) → done d 0 [] [] ≡ convert_step q r a c
    none_stops k e = ap (λ b. done b 0 [] []) e ∙ sym (convert_done q r a c (convert_accepted q r a c (t.read refl) (t.written refl) k))

-- A table that passes 1 to 3 and has no fold mask shows nothing that one layout has no room for.
pub fits_both : (q : ℕ) (a : List ℕ) → AllBytes a → refusal (table_tests q a) ≡ 0 → fold_at a ≡ 0 → FitsBoth a
unfolding view EnablesFit
fits_both q a bytes p z =
    record {
      unfolded = z;
      masks = λ n h. no_bit_above 8 (enable_bits a n) (λ k l. is_false _ (λ t. omega (arith, l, low k (sound_enables a bytes x.3 n k h t).1)));
      links = λ n k l. (x.3.absent_link n k (λ h. omega (arith, l, low k h.1))).1;
    }
  where
    x : (length a ≡ length_of q) × (1 ≤ dimension_at a) × (dimension_at a ≤ largest_dimension) × Sound (view a)
    x = pass_tests q a p

    -- a port of an unfolded cube is below 8
    low : (k : ℕ) → present (dimension_at a) (fold_at a) k ≡ true → k < 8
    low k e = let below = ltb-true k (dimension_at a) (sym (unfolded_present (dimension_at a) k (omega (arith, x.2))) ∙ (rw z at e)) in omega (arith, below, x.2)
