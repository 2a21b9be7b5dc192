-- Calls 1: the numbers of the tests of each call, in the order in which they are made.
-- Assumes nothing.
use mathlib.Core.Path.{◌≡◌, refl}
use mathlib.Core.List.{List, [], ◌∷◌, ◌++◌, map}
use Prim.Native.Nat.{ℕ}
use Rattle.common.specs.Tests.{Test}
use Rattle.soundness.specs.TableTests.{table_tests}
use Rattle.table.specs.View.{view}
use Rattle.ownership.specs.Calls.{Call, making, blocking, unblocking, opening, closing, tracing, arming, disarming, opening_all, booking, judging, folding, call_tests}
use Rattle.judging.specs.Judged.{judge_tests}
use Rattle.ownership.specs.OnTable.{facts_of, lent_tests}

abbrev numbers : ℕ → List ℕ → Call → List ℕ
numbers q b a = map (λ (t : Test). t.number) (lent_tests q b a ++ call_tests (facts_of (view b)) a)

module _ (q : ℕ) (b : List ℕ) where
  making_numbers : (D : ℕ) → numbers q b (making D) ≡ 1 ∷ 2 ∷ []
  unfolding lent_tests call_tests
  making_numbers D = refl

  blocking_numbers : (n p : ℕ) → numbers q b (blocking n p) ≡ 1 ∷ 2 ∷ 3 ∷ 4 ∷ 6 ∷ 13 ∷ []
  unfolding lent_tests table_tests call_tests
  blocking_numbers n p = refl

  unblocking_numbers : (n p : ℕ) → numbers q b (unblocking n p) ≡ 1 ∷ 2 ∷ 3 ∷ 4 ∷ 6 ∷ []
  unfolding lent_tests table_tests call_tests
  unblocking_numbers n p = refl

  opening_numbers : (s c t y v : ℕ) → numbers q b (opening s c t y v) ≡ 1 ∷ 2 ∷ 3 ∷ 4 ∷ 5 ∷ 7 ∷ 8 ∷ 9 ∷ []
  unfolding lent_tests table_tests call_tests
  opening_numbers s c t y v = refl

  closing_numbers : (s c : ℕ) → numbers q b (closing s c) ≡ 1 ∷ 2 ∷ 3 ∷ 4 ∷ 5 ∷ 12 ∷ []
  unfolding lent_tests table_tests call_tests
  closing_numbers s c = refl

  tracing_numbers : (s c : ℕ) (buffer : List ℕ) → numbers q b (tracing s c buffer) ≡ 1 ∷ 2 ∷ 3 ∷ 4 ∷ 5 ∷ 12 ∷ 14 ∷ []
  unfolding lent_tests table_tests call_tests
  tracing_numbers s c buffer = refl

  arming_numbers : (n k : ℕ) → numbers q b (arming n k) ≡ 1 ∷ 2 ∷ 3 ∷ 4 ∷ 5 ∷ []
  unfolding lent_tests table_tests call_tests
  arming_numbers n k = refl

  disarming_numbers : (n k : ℕ) → numbers q b (disarming n k) ≡ 1 ∷ 2 ∷ 3 ∷ 4 ∷ 5 ∷ 21 ∷ []
  unfolding lent_tests table_tests call_tests
  disarming_numbers n k = refl

  -- Jobs 3
  job_numbers : (sends : List ℕ) → numbers q b (opening_all sends) ≡ 1 ∷ 2 ∷ 3 ∷ 28 ∷ []
  unfolding lent_tests table_tests call_tests
  job_numbers sends = refl

  -- Books 7
  booking_numbers : (ports index : List ℕ) → numbers q b (booking ports index) ≡ 1 ∷ 2 ∷ 3 ∷ 23 ∷ []
  unfolding lent_tests table_tests call_tests
  booking_numbers ports index = refl

  -- Judging 3
  judging_numbers : (ports index : List ℕ) (circuits hops : ℕ) → numbers q b (judging ports index circuits hops) ≡ 1 ∷ 2 ∷ 3 ∷ 25 ∷ 26 ∷ 27 ∷ 11 ∷ []
  unfolding lent_tests table_tests call_tests judge_tests
  judging_numbers ports index circuits hops = refl

  -- Folding 4: 6 for a fold bit, 13 for a held partner link
  folding_numbers : (mask : ℕ) → numbers q b (folding mask) ≡ 1 ∷ 2 ∷ 3 ∷ 6 ∷ 13 ∷ []
  unfolding lent_tests table_tests call_tests
  folding_numbers mask = refl
