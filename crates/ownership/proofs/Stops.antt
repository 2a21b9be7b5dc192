-- Where a call on a table is stopped: a sound table leaves the tests of the call alone.
-- Assumes nothing.
use mathlib.Core.Path.{◌≡◌, refl, ap, sym, ◌∙◌}
use mathlib.Core.Bool.{Bool, true, false, cond, not}
use mathlib.Core.List.{List, [], ◌∷◌}
use Prim.Native.Nat.{ℕ, ◌≤◌}
use native.Mathlib.Omega.{arith}
use lib.Dec.{eqb, leb}
use lib.ListN.{length}
use borrow.Author.Tests.{eq-eqb, eqb-true, leb-true, not-false}
use Rattle.cube.specs.Cube.{largest_dimension}
use Rattle.common.specs.Tests.{Test, test, refusal}
use Rattle.common.proofs.Tests.{passed, accepted, first_passed, Avoids, avoids, avoiding, refusal_after, refusal_both, both}
use Rattle.layout.specs.Layout.{length_of, dimension_at}
use Rattle.table.specs.View.{view}
use Rattle.soundness.specs.Sound.{Sound}
use Rattle.soundness.specs.SoundTest.{sound_test}
use Rattle.soundness.specs.TableTests.{table_tests}
use Rattle.soundness.proofs.Passing.{answers, usable, decided}
use Rattle.ownership.specs.Calls.{Call, making, form, call_tests}
use Rattle.ownership.specs.OnTable.{facts_of, lent_tests, stopped_at}

pub table_numbered : (q : ℕ) (b : List ℕ) → Avoids 0 (table_tests q b)
unfolding avoids table_tests
table_numbered q b = avoiding 0 _ refl

-- The tests of the lent table are all three, but for a making, which is stopped by the length alone. What holds of both lists holds of those of a call.
pub lent_both : (q : ℕ) (P : List Test → Type 0) (b : List ℕ) (a : Call) → P (test (not (eqb (length b) (length_of q))) 1 ∷ []) → P (table_tests q b) → P (lent_tests q b a)
unfolding lent_tests
lent_both q P b a alone all = go (form a).is_making
  where
    go : (x : Bool) → P (cond x (test (not (eqb (length b) (length_of q))) 1 ∷ []) (table_tests q b))
    go true = alone
    go false = all

pub lent_numbered : (q : ℕ) (b : List ℕ) (a : Call) → Avoids 0 (lent_tests q b a)
lent_numbered q b a = lent_both q (Avoids 0) b a (unfold avoids in avoiding 0 _ refl) (table_numbered q b)

-- A call that no test stops, whatever the table: no test of the call applies;
pub none_stops : (q : ℕ) (b : List ℕ) (a : Call) → stopped_at q b a ≡ 0 → refusal (call_tests (facts_of (view b)) a) ≡ 0
unfolding stopped_at
none_stops q b a e = (refusal_both (lent_tests q b a) _ (lent_numbered q b a) e).1

-- and the table passes its tests, but for a making.
pub none_stops_lent : (q : ℕ) (b : List ℕ) (a : Call) → (form a).is_making ≡ false → stopped_at q b a ≡ 0 → refusal (table_tests q b) ≡ 0
unfolding stopped_at lent_tests
none_stops_lent q b a h e =
    let r : refusal (lent_tests q b a) ≡ 0 = (refusal_both (lent_tests q b a) _ (lent_numbered q b a) e).0 in
    rw h at r

-- A table that passes the tests of a lent table has the right length, 8,705 or 14,338 bytes, has a dimension from 1 to 8, and is sound.
pub pass_tests : (q : ℕ) (b : List ℕ) → refusal (table_tests q b) ≡ 0 → (length b ≡ length_of q) × (1 ≤ dimension_at b) × (dimension_at b ≤ largest_dimension) × Sound (view b)
unfolding table_tests view
pass_tests q b e =
    let x = first_passed _ 1 _ (λ z. omega arith) e in
    let y = first_passed _ 2 _ (λ z. omega arith) x.1 in
    let d = both (leb 1 (dimension_at b)) (leb (dimension_at b) 8) (not-false _ y.0) in
    (eqb-true (length b) (length_of q) (not-false _ x.0), leb-true 1 (dimension_at b) d.0, leb-true (dimension_at b) 8 d.1, (answers q b).sound e)

-- So whatever the call, the table has that length.
pub none_stops_length : (q : ℕ) (b : List ℕ) (a : Call) → stopped_at q b a ≡ 0 → length b ≡ length_of q
unfolding stopped_at
none_stops_length q b a e =
    lent_both q (λ ts. refusal ts ≡ 0 → length b ≡ length_of q) b a (λ r. eqb-true (length b) (length_of q) (not-false _ (first_passed _ 1 _ (λ z. omega arith) r).0))
    (λ r. (pass_tests q b r).0) (refusal_both (lent_tests q b a) _ (lent_numbered q b a) e).0

module _ (q : ℕ) (b : List ℕ) (long : length b ≡ length_of q) where
  length_passes : refusal (test (not (eqb (length b) (length_of q))) 1 ∷ []) ≡ 0
  length_passes = passed 1 [] (ap not (eq-eqb (length b) (length_of q) long)) ∙ accepted

  after_lent : (a : Call) → refusal (lent_tests q b a) ≡ 0 → stopped_at q b a ≡ refusal (call_tests (facts_of (view b)) a)
  unfolding stopped_at
  after_lent a e = refusal_after (lent_tests q b a) (call_tests (facts_of (view b)) a) (lent_numbered q b a) e

  -- On a table of the right length a making is stopped by its dimension alone.
  pub making_stopped : (D : ℕ) → stopped_at q b (making D) ≡ refusal (call_tests (facts_of (view b)) (making D))
  making_stopped D = after_lent (making D) (unfold lent_tests in length_passes)

  module _ (least : 1 ≤ dimension_at b) (most : dimension_at b ≤ largest_dimension) (sound : Sound (view b)) where
    -- A sound table passes the tests of a lent table,
    pub tests_pass : refusal (table_tests q b) ≡ 0
    tests_pass = sym (usable q b long least most (go (sound_test (view b)) refl)).tests
      where
        go : (x : Bool) → sound_test (view b) ≡ x → x ≡ true
        go true e = refl
        go false e = absurd ((decided b most).fails e sound)

    -- so that a call on it is stopped by the tests of the call alone.
    pub stopped_is : (a : Call) → stopped_at q b a ≡ refusal (call_tests (facts_of (view b)) a)
    stopped_is a = after_lent a (lent_both q (λ ts. refusal ts ≡ 0) b a length_passes tests_pass)
