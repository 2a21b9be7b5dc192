-- The tests of a call read off a table that agrees with a valid history answer what they answer when read off the history.
-- Assumes nothing.
use mathlib.Core.Path.{◌≡◌, refl, sym, ◌∙◌, ap, fun_ext}
use mathlib.Core.Bool.{◌&&◌, ◌||◌, Bool, true, false, not}
use mathlib.Core.List.{List, [], ◌∷◌, map}
use Prim.Native.Nat.{◌-◌, ◌*◌, ◌^◌, ℕ, ◌<◌}
use lib.Dec.{ltb}
use lib.ListN.{length}
use Rattle.common.specs.Tests.{Test, test, refusal}
use Rattle.common.proofs.Tests.{refused, passed}
use Rattle.std.specs.List.{list_all}
use Rattle.common.specs.Lists.{any, from}
use Rattle.cube.specs.Cube.{channels, source_of, channel_of}
use Rattle.cube.proofs.Circuits.{channel_below}
use Rattle.paths.specs.CubeNetwork.{ports}
use Rattle.ownership.specs.Calls.{Call, making, blocking, unblocking, opening, closing, tracing, arming, disarming, opening_all, booking, judging, folding, unfolds, channel_number, judged_by, call_tests}
use Rattle.ownership.specs.OnTable.{facts_of}
use Rattle.ownership.specs.History.{History, net_on, facts_on, stopped_on}
use Rattle.ownership.specs.Invariant.{Valid}
use Rattle.ownership.specs.HistoryView.{view_of}
use Rattle.ownership.proofs.Allowed.{channel_small}
use Rattle.ownership.proofs.Sameness.{held_same, free_same, taken_same, available_alike}
use Rattle.book.specs.Book.{BookCircuit, hop_count, line_length}
use Rattle.book.specs.Lookup.{well_formed}
use Rattle.judging.specs.Judged.{judge_tests, circuits_in, in_cube, is_permitted, circuit_fits, links_fit, all_links, targets_fit, target_in}
use Rattle.ownership.proofs.OpenSame.{open_same}
use Rattle.ownership.proofs.BookSame.{book_same}

-- a list of tests, by what comes behind its first; behind the test of the channel that is below 8
past : (t : Test) (ts us : List Test) → refusal ts ≡ refusal us → refusal (t ∷ ts) ≡ refusal (t ∷ us)
unfolding refusal
past t ts us e = rw e

past_channel : (c : ℕ) (ts us : List Test) → (c < channels → refusal ts ≡ refusal us) → refusal (channel_number c ∷ ts) ≡ refusal (channel_number c ∷ us)
past_channel c ts us h = go (ltb 7 c) refl
  where
    go : (b : Bool) → ltb 7 c ≡ b → refusal (test b 5 ∷ ts) ≡ refusal (test b 5 ∷ us)
    go true e = refused 5 ts refl ∙ sym (refused 5 us refl)
    go false e = passed 5 ts refl ∙ h (channel_small c e) ∙ sym (passed 5 us refl)

-- So do those of judging: of each circuit of a book, and of free links and available channels.
module _ (h : History) (valid : Valid h) where
  circuits_same : circuit_fits (judged_by (facts_of (view_of h))) ≡ circuit_fits (judged_by (facts_on h))
  unfolding circuit_fits in_cube facts_of facts_on view_of
  circuits_same =
      fun_ext (λ x.
      ap (λ (o : Bool). in_cube (judged_by (facts_on h)) x && (is_permitted (net_on h) (source_of x.number) (target_in (net_on h) x) x.ports && not o))
      (open_same h valid (source_of x.number) (channel_of x.number) (channel_below x.number)))

  judged_same : (ports index : List ℕ) (circuits hops : ℕ)
      → refusal (judge_tests (judged_by (facts_of (view_of h))) ports index circuits hops) ≡ refusal (judge_tests (judged_by (facts_on h)) ports index circuits hops)
  unfolding judge_tests facts_of facts_on view_of
  judged_same ports index circuits hops = λ i.
      let xs = circuits_in ports index circuits in
      refusal (
      test (not (well_formed ports index circuits hops)) 25 ∷ test (not (list_all (circuits_same i) xs)) 26
      ∷ test (not (links_fit (free_same h i) [] (all_links (net_on h) xs))) 27
      ∷ test (not (targets_fit (available_alike h i) [] (map (target_in (net_on h)) xs))) 11 ∷ []
      )

-- The tests of a call answer the same on both.
pub stopped_same : (h : History) → Valid h → (a : Call) → refusal (call_tests (facts_of (view_of h)) a) ≡ stopped_on h a
unfolding stopped_on call_tests facts_of facts_on view_of
stopped_same h valid (making D) = refl
stopped_same h valid (blocking n p) = past _ _ _ (past _ _ _ (ap (λ (held : ℕ → ℕ → Bool). refusal (test (held n p) 13 ∷ [])) (held_same h)))
stopped_same h valid (unblocking n p) = refl
stopped_same h valid (opening s c t y v) =
    past _ _ _ (past_channel c _ _ (λ l. past _ _ _ (past _ _ _ (ap (λ (b : Bool). refusal (test b 9 ∷ [])) (open_same h valid s c l)))))
stopped_same h valid (closing s c) = past _ _ _ (past_channel c _ _ (λ l. ap (λ (b : Bool). refusal (test (not b) 12 ∷ [])) (open_same h valid s c l)))
stopped_same h valid (tracing s c buffer) =
    past _ _ _ (past_channel c _ _ (λ l. ap (λ (b : Bool). refusal (test (not b) 12 ∷ test (ltb (length buffer) 9) 14 ∷ [])) (open_same h valid s c l)))
stopped_same h valid (arming n k) = refl
stopped_same h valid (disarming n k) = past _ _ _ (past _ _ _ (ap (λ (f : ℕ → ℕ → Bool). refusal (test (f n k) 21 ∷ [])) (taken_same h)))
stopped_same h valid (opening_all sends) = refl
stopped_same h valid (folding mask) = past _ _ _ (ap (λ (held : ℕ → ℕ → Bool). refusal (test (any (λ p. unfolds (facts_on h) mask p && any (λ n. held n (17 - p)) (from 0 (2 ^ h.dimension))) (from 0 h.dimension)) 13 ∷ [])) (held_same h))
stopped_same h valid (judging ports index circuits hops) = judged_same h valid ports index circuits hops
stopped_same h valid (booking ports index) = ap (λ (xs : List BookCircuit). refusal (test (ltb (length ports) (hop_count xs) || ltb (length index) (line_length * length xs)) 23 ∷ [])) (book_same h valid)
