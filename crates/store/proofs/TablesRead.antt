-- The number of a join or a conversion, read off the known histories of the tables read; and where the history of the table written is known after an accepted one.
-- Assumes nothing.
use mathlib.Core.Path.{◌≡◌, refl, ap, ap₂, sym, ◌∙◌, subst}
use mathlib.Core.Logic.{◌⊎◌, inl, inr, ◌≢◌}
use mathlib.Core.Bool.{cond, not, ◌||◌, false}
use mathlib.Core.List.{List, [], ◌∷◌, ◌++◌, append_assoc}
use Prim.Native.Nat.{ℕ}
use native.Mathlib.Omega.{arith}
use lib.Dec.{eqb}
use lib.ListN.{length}
use borrow.Author.Tests.{ne_eqb}
use Rattle.std.proofs.Common.{Option, Some, None}
use Rattle.std.proofs.lemmas.Option.{none-some, same_Some}
use Rattle.common.specs.Tests.{Test, test, refusal}
use Rattle.common.proofs.Tests.{refused, passed, refusal_after, refusal_before}
use Rattle.cube.specs.Cube.{port_count, largest_dimension}
use Rattle.layout.specs.Layout.{length_of}
use Rattle.table.specs.View.{View, view}
use Rattle.soundness.specs.TableTests.{length_test, table_tests}
use Rattle.ownership.specs.Calls.{only}
use Rattle.ownership.specs.HistoryView.{view_of}
use Rattle.ownership.specs.Invariant.{Represents}
use Rattle.ownership.specs.Kinds.{Kind, narrow, wide, kind_ports, same_kind, other_kind}
use Rattle.ownership.proofs.Agreement.{represents_not_stopped}
use Rattle.ownership.proofs.Stops.{table_numbered, pass_tests}
use Rattle.ownership.proofs.KindCalls.{kind_same, one_kind, kind_long}
use Rattle.joining.specs.Joined.{joined_history, join_step}
use Rattle.joining.proofs.JoinNumbers.{join_number}
use Rattle.converting.specs.Converted.{convert_step}
use Rattle.converting.proofs.ConvertNumbers.{convert_number}
use Rattle.store.specs.Store.{KnownTable, table_of, joined_of, converted_of, read_tests, known_dimension, known_fold, known_join_number, known_convert_number}

-- what stands behind a list of tests may be replaced by what gives the same number
behind_same : (xs ys zs : List Test) → refusal ys ≡ refusal zs → refusal (xs ++ ys) ≡ refusal (xs ++ zs)
unfolding refusal
behind_same [] ys zs e = e
behind_same (x ∷ xs) ys zs e = ap (cond x.when x.number) (behind_same xs ys zs e)

-- what is known of bytes is represented by them
abbrev pub Holds : List ℕ → Option KnownTable → Type 0
Holds b o = (t : KnownTable) → o ≡ Some t → Represents (kind_ports t.kind) b t.history

-- A table of another kind is refused as 1.
wrong_kind : (q r : ℕ) (b : List ℕ) (ys : List Test) → length b ≡ length_of r → length_of r ≢ length_of q → refusal (table_tests q b ++ ys) ≡ 1
wrong_kind q r b ys l f = refusal_before (table_tests q b) ys (λ z. omega (arith, one, z)) ∙ one
  where
    one : refusal (table_tests q b) ≡ 1
    one = unfold table_tests in refused 1 _ (ap not (ne_eqb (length b) (length_of q) (λ e. f (sym l ∙ e))))

-- Where a known history is represented by the bytes, the tests of the table, its dimension and its fold mask are those that are read off the history.
module _ (b : List ℕ) where
  read_tested : (w : Kind) (o : Option KnownTable) → Holds b o → (ys : List Test) → refusal (table_tests (kind_ports w) b ++ ys) ≡ refusal (read_tests w b o ++ ys)
  unfolding read_tests
  read_tested w None r ys = refl
  read_tested w (Some t) r ys = go (one_kind w t.kind)
    where
      k : Represents (kind_ports t.kind) b t.history
      k = r t refl

      go : (w ≡ t.kind) ⊎ ((same_kind w t.kind ≡ false) × (kind_ports w ≢ kind_ports t.kind)) → refusal (table_tests (kind_ports w) b ++ ys) ≡ refusal (test (not (same_kind w t.kind)) 1 ∷ ys)
      go (inl e) =
          refusal_after (table_tests (kind_ports w) b) ys (table_numbered (kind_ports w) b)
          (subst (λ (v : Kind). refusal (table_tests (kind_ports v) b) ≡ 0) (sym e) (represents_not_stopped (kind_ports t.kind) b t.history k))
          ∙ sym (passed 1 ys (ap not (ap (same_kind w) (sym e) ∙ kind_same w)))
      go (inr d) = wrong_kind (kind_ports w) (kind_ports t.kind) b ys k.bytes.long (λ e. d.1 (ap kind_ports (sym (kind_long t.kind w e)))) ∙ sym (refused 1 ys (ap not d.0))

  dimension_known : (o : Option KnownTable) → Holds b o → (view b).dimension ≡ known_dimension b o
  unfolding known_dimension
  dimension_known (Some t) r = ap (λ (v : View). v.dimension) (r t refl).shows ∙ unfold view_of in refl
  dimension_known None r = refl

  fold_known : (o : Option KnownTable) → Holds b o → (view b).fold ≡ known_fold b o
  unfolding known_fold
  fold_known (Some t) r = ap (λ (v : View). v.fold) (r t refl).shows ∙ unfold view_of in refl
  fold_known None r = refl

  -- a known table that passes the tests of a kind is of that kind
  pub of_its_kind : (w : Kind) (t : KnownTable) → Represents (kind_ports t.kind) b t.history → refusal (table_tests (kind_ports w) b) ≡ 0 → Represents (kind_ports w) b t.history
  of_its_kind w t k p = subst (λ (v : Kind). Represents (kind_ports v) b t.history) (kind_long t.kind w (sym k.bytes.long ∙ (pass_tests (kind_ports w) b p).0)) k

-- So the number of a join is that of the tests read off what is known,
module _ (a b c : List ℕ) (o p : Option KnownTable) (one : Holds a o) (other : Holds b p) where
  number_known : (join_step a b c).result.number ≡ known_join_number a o b p (length c)
  unfolding known_join_number
  number_known =
      join_number a b c ∙ read_tested a narrow o one _ ∙ behind_same (read_tests narrow a o) _ _ (read_tested b narrow p other _)
      ∙ ap₂ (λ (D E : ℕ). refusal (read_tests narrow a o ++ (read_tests narrow b p ++ length_test port_count c ∷ test (not (eqb D E) || eqb D largest_dimension) 29 ∷ []))) (dimension_known a o one) (dimension_known b p other)
      ∙ ap refusal (sym (append_assoc (read_tests narrow a o) (read_tests narrow b p) _))

  pub join_as_known : (join_step a b c).result ≡ only (known_join_number a o b p (length c))
  unfolding join_step
  join_as_known = ap only number_known

-- and so is that of a conversion.
pub convert_as_known : (w : Kind) (a c : List ℕ) (o : Option KnownTable) → Holds a o
    → (convert_step (kind_ports w) (kind_ports (other_kind w)) a c).result ≡ only (known_convert_number w a o (length c))
convert_as_known w a c o r = answers ∙ ap only (number w)
  where
    n : ℕ
    n = (convert_step (kind_ports w) (kind_ports (other_kind w)) a c).result.number

    answers : (convert_step (kind_ports w) (kind_ports (other_kind w)) a c).result ≡ only n
    answers = unfold convert_step in refl

    number : (w : Kind) → (convert_step (kind_ports w) (kind_ports (other_kind w)) a c).result.number ≡ known_convert_number w a o (length c)
    number narrow = unfold known_convert_number in (convert_number 8 18 a c ∙ read_tested a narrow o r _ ∙ refl)
    number wide =
        unfold known_convert_number in
        (convert_number 18 8 a c ∙ read_tested a wide o r _
        ∙ ap (λ (f : ℕ). refusal (read_tests wide a o ++ length_test 8 c ∷ test (not (eqb f 0)) 24 ∷ [])) (fold_known a o r))

-- A history is known after an accepted join only where both are known, and after an accepted conversion only where that of the table read is.
pub both_known : (o p : Option KnownTable) (t : KnownTable) → joined_of o p ≡ Some t
    → (x : KnownTable) × (y : KnownTable) × (o ≡ Some x) × (p ≡ Some y) × (table_of narrow (joined_history x.history y.history) ≡ t)
unfolding joined_of
both_known (Some x) (Some y) t e = (x, y, refl, refl, same_Some _ _ e)
both_known (Some x) None t e = absurd (none-some t e)
both_known None p t e = absurd (none-some t e)

pub source_known : (w : Kind) (o : Option KnownTable) (t : KnownTable) → converted_of w o ≡ Some t → (x : KnownTable) × (o ≡ Some x) × (table_of (other_kind w) x.history ≡ t)
unfolding converted_of
source_known w (Some x) t e = (x, refl, same_Some _ _ e)
source_known w None t e = absurd (none-some t e)
