-- Which test of judging is the first that applies, and what then is the answer.
-- Assumes nothing.
use mathlib.Core.Path.{◌≡◌, refl}
use mathlib.Core.Bool.{true, false}
use mathlib.Core.List.{List, [], map}
use Prim.Native.Nat.{ℕ}
use Rattle.std.specs.List.{list_all}
use Rattle.common.specs.Tests.{refusal}
use Rattle.book.specs.Lookup.{well_formed}
use Rattle.judging.specs.Judged.{JudgeFacts, judge_net, circuits_in, target_in, circuit_fits, links_fit, all_links, targets_fit, judge_tests}

module _ (a : JudgeFacts) (ports index : List ℕ) (circuits hops : ℕ) where
  abbrev answer : ℕ
  answer = refusal (judge_tests a ports index circuits hops)

  -- a book that is not well formed,
  pub ill_formed : well_formed ports index circuits hops ≡ false → 25 ≡ answer
  unfolding judge_tests refusal
  ill_formed e = rw e refl

  module _ (well : well_formed ports index circuits hops ≡ true) where
    -- one with a circuit that does not fit,
    pub unfit_circuit : list_all (circuit_fits a) (circuits_in ports index circuits) ≡ false → 26 ≡ answer
    unfolding judge_tests refusal
    unfit_circuit e = rw (well, e) refl

    module _ (fit : list_all (circuit_fits a) (circuits_in ports index circuits) ≡ true) where
      -- one with a link that is not free or is shared,
      pub unfit_links : links_fit a.free [] (all_links (judge_net a) (circuits_in ports index circuits)) ≡ false → 27 ≡ answer
      unfolding judge_tests refusal
      unfit_links e = rw (well, fit, e) refl

      module _ (free : links_fit a.free [] (all_links (judge_net a) (circuits_in ports index circuits)) ≡ true) where
        -- one with a target that has too few channels,
        pub unfit_targets : targets_fit a.available [] (map (target_in (judge_net a)) (circuits_in ports index circuits)) ≡ false → 11 ≡ answer
        unfolding judge_tests refusal
        unfit_targets e = rw (well, fit, free, e) refl

        -- and one to which none of these applies
        pub accepted : targets_fit a.available [] (map (target_in (judge_net a)) (circuits_in ports index circuits)) ≡ true → 0 ≡ answer
        unfolding judge_tests refusal
        accepted e = rw (well, fit, free, e) refl
