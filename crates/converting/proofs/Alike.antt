-- A table written by a conversion represents the history of the table read. So both show the same, each answers every call as the other does, and they convert into each other.
-- Assumes nothing.
use mathlib.Core.Path.{◌≡◌, refl, ap, sym, ◌∙◌, subst}
use mathlib.Core.List.{List, []}
use Prim.Native.Nat.{ℕ}
use lib.ListN.{length}
use Rattle.layout.specs.Layout.{length_of}
use Rattle.layout.specs.Resources.{Width}
use Rattle.table.specs.View.{View, view}
use Rattle.table.specs.Encode.{AllBytes, encode_over}
use Rattle.ownership.specs.Calls.{Call, OfKind}
use Rattle.ownership.specs.Closing.{Each}
use Rattle.ownership.specs.OnTable.{done}
use Rattle.ownership.specs.History.{History}
use Rattle.ownership.specs.HistoryView.{view_of, bytes_of}
use Rattle.ownership.specs.Invariant.{Represents}
use Rattle.ownership.specs.FromTable.{history_of}
use Rattle.ownership.specs.Agrees.{table_after, history_after}
use Rattle.ownership.proofs.Agreement.{represents_fold, bytes_represent, represents_sound, represents_not_stopped, represents_bytes}
use Rattle.ownership.specs.BothKinds.{AllAnswerAlike}
use Rattle.ownership.proofs.BothKinds.{all_answer_alike}
use Rattle.ownership.proofs.FromTable.{sound_represents}
use Rattle.ownership.proofs.Range.{FoldFits}
use Rattle.converting.specs.Converted.{convert_step}
use Rattle.converting.specs.ConvertSays.{ConvertSays, ThereAndBack, ConvertBoth, SameInBoth}
use Rattle.converting.proofs.ConvertNumbers.{convert_accepted, passed_all, convert_done, convert_leaves}

-- Two tables that represent one history convert into each other: what each shows is what the history says.
module _ (q r : ℕ) (width : Width q) (width' : Width r) (a d : List ℕ) (h : History) (one : Represents q a h) (other : Represents r d h) where
  abbrev same : view a ≡ view d
  same = one.shows ∙ sym other.shows

  pub there : (c : List ℕ) → length c ≡ length_of r → convert_step q r a c ≡ done d 0 [] []
  there c l =
      convert_done q r a c (convert_accepted q r a c (represents_not_stopped q a h one) l (λ e. ap (λ (v : View). v.fold) one.shows ∙ fold_of ∙ (represents_fold r d h other).plain e))
      ∙ ap (λ b. done b 0 [] []) (ap (encode_over r) one.shows ∙ bytes_are ∙ sym (represents_bytes r width' d h other))
    where
      fold_of : (view_of h).fold ≡ h.fold
      fold_of = unfold view_of in refl

      bytes_are : encode_over r (view_of h) ≡ bytes_of r h
      bytes_are = unfold bytes_of in refl

module _ (q r : ℕ) (width : Width q) (width' : Width r) (a d : List ℕ) (h : History) (one : Represents q a h) (other : Represents r d h) where
  pub convert_both : ConvertBoth q r a d
  unfolding ThereAndBack
  convert_both = record { there = there q r width width' a d h one other; back = there r q width' width d a h other one }

-- Every answer of every call that is one of both kinds is the same in both,
pub same_in_both : (q r : ℕ) → Width q → Width r → (a d : List ℕ) (h : History) → Represents q a h → Represents r d h → SameInBoth q r a d
same_in_both q r width width' a d h one other =
    record {
      answers = λ calls one other. (alike calls one other).answers;
      leave = λ calls one other.
          let x = alike calls one other in convert_both q r width width' (table_after q a calls) (table_after r d calls) (history_after h calls) x.one x.other;
    }
  where
    alike : (calls : List Call) → Each (OfKind q) calls → Each (OfKind r) calls → AllAnswerAlike q r a d h calls
    alike = all_answer_alike q r width width' a d h one other

-- and an accepted conversion leaves the table that represents the history of the table read (Wide 15).
module _ (q r : ℕ) (width : Width q) (width' : Width r) (a c : List ℕ) (z : (convert_step q r a c).result.number ≡ 0) where
  abbrev d : List ℕ
  d = (convert_step q r a c).state

  pub convert_represents : (h : History) → Represents q a h → Represents r d h
  convert_represents h one = subst (λ b. Represents r b h) (sym bytes) (bytes_represent r width' h one.valid fold)
    where
      bytes : d ≡ bytes_of r h
      bytes = convert_leaves q r a c z ∙ ap (encode_over r) one.shows ∙ unfold bytes_of in refl

      fold : FoldFits r h.fold
      fold =
          record {
            small = (represents_fold q a h one).small;
            plain = λ e. sym (ap (λ (v : View). v.fold) one.shows ∙ unfold view_of in refl) ∙ ((passed_all q r a c z).2 e);
          }

  -- Of any bytes that are read: they pass 1 to 3, and so they represent a history.
  module _ (small : AllBytes a) where
    read : Represents q a (history_of (view a))
    read = sound_represents q a small (passed_all q r a c z).0

    written : Represents r d (history_of (view a))
    written = convert_represents (history_of (view a)) read

    pub convert_shows : view d ≡ view a
    convert_shows = written.shows ∙ sym read.shows

    -- In plain words:
    pub convert_says : ConvertSays r a d
    convert_says =
        record {
          dimension = ap (λ (v : View). v.dimension) convert_shows;
          fold = ap (λ (v : View). v.fold) convert_shows;
          enabled = λ n p. ap (λ (v : View). v.enabled n p) convert_shows;
          owner = λ n p. ap (λ (v : View). v.owner n p) convert_shows;
          receiver = λ n k. ap (λ (v : View). v.receiver n k) convert_shows;
          armed = λ n k. ap (λ (v : View). v.armed n k) convert_shows;
          passes = represents_not_stopped r d (history_of (view a)) written;
          is_sound = represents_sound r d (history_of (view a)) written;
        }

    -- Wide 14: there and back gives the same bytes,
    pub there_and_back : ThereAndBack q r a d
    there_and_back = (convert_both q r width width' a d (history_of (view a)) read written).back

    -- and Wide 13: any call gives the same on both.
    pub converted_alike : SameInBoth q r a d
    converted_alike = same_in_both q r width width' a d (history_of (view a)) read written
