-- Two tables that represent one history answer every call on both kinds alike, be they of one kind or of both: each gives what the history says. And a call on the other kind of
-- table is refused as 1.
-- Assumes nothing.
use mathlib.Core.Path.{◌≡◌, ap, sym, ◌∙◌}
use mathlib.Core.Logic.{inl, inr, ◌≢◌}
use mathlib.Core.Bool.{true, not}
use mathlib.Core.List.{List, []}
use Prim.Native.Nat.{ℕ}
use native.Mathlib.Omega.{arith}
use lib.Dec.{eqb}
use lib.ListN.{length}
use borrow.Author.Tests.{ne_eqb}
use Rattle.common.specs.Tests.{refusal}
use Rattle.common.proofs.Tests.{refused, refusal_before}
use Rattle.layout.specs.Layout.{length_of}
use Rattle.layout.specs.Resources.{Width}
use Rattle.table.specs.View.{view}
use Rattle.table.specs.Encode.{BytesOver}
use Rattle.soundness.specs.TableTests.{table_tests}
use Rattle.ownership.specs.Closing.{Each}
use Rattle.ownership.specs.Calls.{Call, OfKind, refused_with, call_tests}
use Rattle.ownership.specs.OnTable.{facts_of, lent_tests, stopped_at, table_step}
use Rattle.ownership.proofs.Stops.{lent_both}
use Rattle.ownership.proofs.Steps.{table_step_lem}
use Rattle.ownership.specs.History.{History}
use Rattle.ownership.specs.Invariant.{Represents}
use Rattle.ownership.specs.BothKinds.{AnswersAlike, AllAnswerAlike}
use Rattle.ownership.proofs.Agreement.{represents_step, represents_run, represents_results}

-- A table that shows what another shows represents what that one represents, whatever the kind of either is.
pub shown_represents : (q r : ℕ) (b c : List ℕ) (h : History) → Represents q b h → BytesOver r c → view c ≡ view b → Represents r c h
shown_represents q r b c h k bytes same = record { bytes = bytes; shows = same ∙ k.shows; valid = k.valid }

module _ (q r : ℕ) (width₁ : Width q) (width₂ : Width r) (b c : List ℕ) (h : History) (one : Represents q b h) (other : Represents r c h) where
  pub answers_alike : (a : Call) → OfKind q a → OfKind r a → AnswersAlike q r b c h a
  answers_alike a kind₁ kind₂ =
      let x = represents_step q width₁ b h one a kind₁ in
      let y = represents_step r width₂ c h other a kind₂ in
      record { answer = x.result ∙ sym y.result; one = x.represented; other = y.represented }

  pub all_answer_alike : (calls : List Call) → Each (OfKind q) calls → Each (OfKind r) calls → AllAnswerAlike q r b c h calls
  all_answer_alike calls kinds₁ kinds₂ =
      record {
        answers = represents_results q width₁ calls kinds₁ b h one ∙ sym (represents_results r width₂ calls kinds₂ c h other);
        one = represents_run q width₁ calls kinds₁ b h one;
        other = represents_run r width₂ calls kinds₂ c h other;
      }

-- A call on bytes that are not as many as those of its kind of table answers 1, whatever it is, and changes nothing;
pub wrong_length : (q : ℕ) (b : List ℕ) → length b ≢ length_of q → (a : Call) → table_step q b a ≡ record { state = b; result = refused_with 1 a }
unfolding stopped_at
wrong_length q b f a =
    let lent = lent_both q (λ ts. refusal ts ≡ 1) b a (refused 1 [] fails) (unfold table_tests in refused 1 _ fails) in
    let stops : stopped_at q b a ≡ 1 = refusal_before (lent_tests q b a) (call_tests (facts_of (view b)) a) (λ z. omega (arith, z, lent)) ∙ lent in
    (table_step_lem q b a).stopped (λ z. omega (arith, z, stops)) ∙ ap (λ (n : ℕ). record { state = b; result = refused_with n a }) stops
  where
    fails : not (eqb (length b) (length_of q)) ≡ true
    fails = ap not (ne_eqb (length b) (length_of q) f)

-- so one of the other kind does.
pub other_kind : (q r : ℕ) → Width q → Width r → q ≢ r → (b : List ℕ) → length b ≡ length_of r → (a : Call) → table_step q b a ≡ record { state = b; result = refused_with 1 a }
other_kind q r width₁ width₂ apart b long a = wrong_length q b (λ e. lengths width₁ width₂ (sym long ∙ e)) a
  where
    lengths : Width q → Width r → length_of r ≡ length_of q → ⊥
    lengths (inl e) (inl f) g = apart (e ∙ sym f)
    lengths (inr e) (inr f) g = apart (e ∙ sym f)
    lengths (inl e) (inr f) g = numbers (sym (ap length_of f) ∙ g ∙ ap length_of e)
      where
        numbers : length_of 18 ≡ length_of 8 → ⊥
        numbers h = omega arith
    lengths (inr e) (inl f) g = numbers (sym (ap length_of f) ∙ g ∙ ap length_of e)
      where
        numbers : length_of 8 ≡ length_of 18 → ⊥
        numbers h = omega arith
