-- ConvertSays leaves no choice: a number and bytes of which it holds are those that the call answers and leaves.
-- Assumes nothing.
use mathlib.Core.Path.{◌≡◌, refl, ap, sym, ◌∙◌}
use mathlib.Core.Logic.{inl, inr, ⊎_elim}
use mathlib.Core.List.{List}
use Prim.Native.Nat.{ℕ}
use lib.ListN.{length}
use Rattle.common.specs.Tests.{refusal}
use Rattle.common.proofs.Tests.{same?}
use Rattle.layout.specs.Resources.{Width}
use Rattle.table.specs.View.{view}
use Rattle.table.specs.Encode.{AllBytes, encode_over}
use Rattle.table.proofs.Encode.{encode_view_over}
use Rattle.soundness.specs.TableTests.{table_tests}
use Rattle.ownership.proofs.Stops.{pass_tests}
use Rattle.converting.specs.Converted.{convert_step, widen_step, narrow_step}
use Rattle.converting.specs.ConvertSays.{PassesTests, WidenNumber, NarrowNumber, ConvertSays}
use Rattle.converting.proofs.ConvertNumbers.{convert_leaves, widen_numbers, narrow_numbers}

-- Bytes of which the words hold after an accepted conversion are those that it leaves.
module _ (q r : ℕ) (width : Width r) (a c d : List ℕ) (z : (convert_step q r a c).result.number ≡ 0) (small : AllBytes d) (says : ConvertSays r a d) where
  shown : view d ≡ view a
  unfolding view
  shown = λ i.
      record {
        dimension = says.dimension i;
        fold = says.fold i;
        enabled = λ n p. says.enabled n p i;
        owner = λ n p. says.owner n p i;
        receiver = λ n k. says.receiver n k i;
        armed = λ n k. says.armed n k i;
      }

  pub says_exactly : d ≡ (convert_step q r a c).state
  says_exactly = sym (encode_view_over r width d (pass_tests r d says.passes).0 small) ∙ ap (encode_over r) shown ∙ sym (convert_leaves q r a c z)

-- Two outcomes of both of which the meaning of the numbers holds have one number.
widen_same : {a c d e : List ℕ} {n m : ℕ} → WidenNumber a c n d → WidenNumber a c m e → n ≡ m
widen_same {a} {c} {d} {e} {n} {m} one other = ⊎_elim passes (λ f. one.read f ∙ sym (other.read f)) (same? (refusal (table_tests 8 a)) 0)
  where
    passes : PassesTests 8 a → n ≡ m
    passes p = ⊎_elim (λ l. one.accepted.1 (p, l) ∙ sym (other.accepted.1 (p, l))) (λ f. one.written p f ∙ sym (other.written p f)) (same? (length c) 14338)

narrow_same : {a c d e : List ℕ} {n m : ℕ} → NarrowNumber a c n d → NarrowNumber a c m e → n ≡ m
narrow_same {a} {c} {d} {e} {n} {m} one other = ⊎_elim passes (λ f. one.read f ∙ sym (other.read f)) (same? (refusal (table_tests 18 a)) 0)
  where
    fits : PassesTests 18 a → length c ≡ 8705 → n ≡ m
    fits p l = ⊎_elim (λ z. one.accepted.1 (p, l, z) ∙ sym (other.accepted.1 (p, l, z))) (λ f. one.folded p l f ∙ sym (other.folded p l f)) (same? (view a).fold 0)

    passes : PassesTests 18 a → n ≡ m
    passes p = ⊎_elim (fits p) (λ f. one.written p f ∙ sym (other.written p f)) (same? (length c) 8705)

-- So a number and bytes of which the meaning of the numbers holds, and where it is accepted the words about its bytes, are those of the call.
pub widen_exactly : (a c : List ℕ) (n : ℕ) (d : List ℕ) → WidenNumber a c n d → (n ≡ 0 → AllBytes d × ConvertSays 18 a d) → (n ≡ (widen_step a c).result.number) × (d ≡ (widen_step a c).state)
widen_exactly a c n d meaning says =
    let called = widen_numbers a c in
    let same = widen_same meaning called in
    (same, ⊎_elim (λ z. let x = says z in says_exactly 8 18 (inr refl) a c d (sym same ∙ z) x.0 x.1) (λ f. meaning.unchanged f ∙ sym (called.unchanged (λ z. f (same ∙ z)))) (same? n 0))

pub narrow_exactly : (a c : List ℕ) (n : ℕ) (d : List ℕ) → NarrowNumber a c n d → (n ≡ 0 → AllBytes d × ConvertSays 8 a d) → (n ≡ (narrow_step a c).result.number) × (d ≡ (narrow_step a c).state)
narrow_exactly a c n d meaning says =
    let called = narrow_numbers a c in
    let same = narrow_same meaning called in
    (same, ⊎_elim (λ z. let x = says z in says_exactly 18 8 (inl refl) a c d (sym same ∙ z) x.0 x.1) (λ f. meaning.unchanged f ∙ sym (called.unchanged (λ z. f (same ∙ z)))) (same? n 0))
