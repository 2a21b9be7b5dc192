-- What the call that joins two tables gives: where a test stops it, and where none does.
-- Assumes nothing.
use mathlib.Core.Path.{◌≡◌, ap, ap₂, sym, ◌∙◌}
use mathlib.Core.Logic.{◌≢◌, ◌⊎◌, ⊎_elim}
use mathlib.Core.Bool.{not, ◌||◌}
use mathlib.Core.List.{List, [], ◌∷◌, ◌++◌, append_assoc}
use Prim.Native.Nat.{ℕ}
use native.Mathlib.Omega.{arith}
use lib.Dec.{eqb}
use lib.ListN.{length}
use borrow.Author.Tests.{eq-eqb, ne_eqb}
use Rattle.common.specs.Tests.{refusal}
use Rattle.common.proofs.Tests.{or_left, or_right, refused, passed, accepted, refusal_after, refusal_before}
use Rattle.cube.specs.Cube.{port_count, largest_dimension}
use Rattle.layout.specs.Layout.{table_length, dimension_at}
use Rattle.table.specs.View.{view}
use Rattle.table.specs.Encode.{encode}
use Rattle.soundness.specs.TableTests.{length_test, table_tests}
use Rattle.ownership.specs.OnTable.{done}
use Rattle.ownership.proofs.Stops.{pass_tests, table_numbered}
use Rattle.joining.specs.Joined.{joined_view, halves_test, join_tests, join_step}
use Rattle.joining.specs.JoinContracts.{Joinable}

-- a table that passes its tests has the right length
pub tested_long : (b : List ℕ) → 0 ≡ refusal (table_tests port_count b) → length b ≡ table_length
tested_long b z = (pass_tests port_count b (sym z)).0

module _ (a b c : List ℕ) where
  join_stopped : {n : ℕ} → n ≡ refusal (join_tests a b c) → n ≢ 0 → done c n [] [] ≡ join_step a b c
  unfolding join_step
  join_stopped {n} e f = rw (← e, ne_eqb n 0 f)

  in_order : refusal (join_tests a b c) ≡ refusal (table_tests port_count a ++ (table_tests port_count b ++ (length_test port_count c ∷ halves_test (view a) (view b) ∷ [])))
  unfolding join_tests
  in_order = ap refusal (append_assoc (table_tests port_count a) (table_tests port_count b) (length_test port_count c ∷ halves_test (view a) (view b) ∷ []))

  -- a test of the first stops it
  pub first_stops : {n : ℕ} → n ≡ refusal (table_tests port_count a) → n ≢ 0 → done c n [] [] ≡ join_step a b c
  first_stops e f = join_stopped (e ∙ sym (refusal_before (table_tests port_count a) _ (λ z. f (e ∙ z))) ∙ sym in_order) f

  module _ (first : 0 ≡ refusal (table_tests port_count a)) where
    after_first : refusal (join_tests a b c) ≡ refusal (table_tests port_count b ++ length_test port_count c ∷ halves_test (view a) (view b) ∷ [])
    after_first = in_order ∙ refusal_after (table_tests port_count a) _ (table_numbered port_count a) (sym first)

    -- one of the second
    pub second_stops : {n : ℕ} → n ≡ refusal (table_tests port_count b) → n ≢ 0 → done c n [] [] ≡ join_step a b c
    second_stops e f = join_stopped (e ∙ sym (refusal_before (table_tests port_count b) _ (λ z. f (e ∙ z))) ∙ sym after_first) f

    module _ (second : 0 ≡ refusal (table_tests port_count b)) where
      after_second : refusal (join_tests a b c) ≡ refusal (length_test port_count c ∷ halves_test (view a) (view b) ∷ [])
      after_second = after_first ∙ refusal_after (table_tests port_count b) _ (table_numbered port_count b) (sym second)

      -- the length of the third
      pub third_stops : length c ≢ table_length → done c 1 [] [] ≡ join_step a b c
      third_stops h = join_stopped {n = 1} (sym (after_second ∙ refused 1 _ (ap not (ne_eqb (length c) table_length h)))) (λ z. omega arith)

      module _ (third : length c ≡ table_length) where
        after_third : refusal (join_tests a b c) ≡ refusal (halves_test (view a) (view b) ∷ [])
        after_third = after_second ∙ passed 1 _ (ap not (eq-eqb (length c) table_length third))

        -- the two dimensions
        pub halves_stop : (dimension_at a ≢ dimension_at b) ⊎ (dimension_at a ≡ largest_dimension) → done c 29 [] [] ≡ join_step a b c
        unfolding view
        halves_stop h =
            join_stopped {n = 29}
            (sym (after_third ∙ refused 29 []
            (⊎_elim (λ f. or_left (eqb (dimension_at a) 8) (ap not (ne_eqb (dimension_at a) (dimension_at b) f))) (λ e. or_right (not (eqb (dimension_at a) (dimension_at b))) (eq-eqb (dimension_at a) 8 e)) h)))
            (λ z. omega arith)

        -- or no test does, and the joined table is written
        module _ (same : dimension_at a ≡ dimension_at b) (small : dimension_at a ≢ largest_dimension) where
          none_stops : refusal (join_tests a b c) ≡ 0
          unfolding view
          none_stops = after_third ∙ passed 29 [] (ap₂ ◌||◌ (ap not (eq-eqb (dimension_at a) (dimension_at b) same)) (ne_eqb (dimension_at a) 8 small)) ∙ accepted

          pub halves_joined : {d : List ℕ} → d ≡ encode (joined_view (view a) (view b)) → done d 0 [] [] ≡ join_step a b c
          unfolding join_step
          halves_joined q = rw (none_stops, q)

-- What passes the tests of both halves and has their dimension in common can be joined.
pub joinable : (a b : List ℕ) (D : ℕ) → 0 ≡ refusal (table_tests port_count a) → 0 ≡ refusal (table_tests port_count b) → D ≡ dimension_at a → D ≡ dimension_at b → D ≢ largest_dimension → Joinable a b D
joinable a b D first second e f h =
    let x = pass_tests port_count a (sym first) in
    let y = pass_tests port_count b (sym second) in
    record { first_long = x.0; second_long = y.0; first = e; second = f; room = omega (arith, x.2, h); first_sound = x.3; second_sound = y.3 }
