-- A table accepts exactly the loadable books, and every book that was written of it once its circuits are closed and their receive channels
-- armed.
-- Assumes nothing.
use mathlib.Core.Path.{◌≡◌, refl, ap, sym, ◌∙◌}
use mathlib.Core.Logic.{⊎_elim, ◌↔◌}
use mathlib.Core.Bool.{Bool, true, false, and-true}
use mathlib.Core.List.{List, []}
use Prim.Native.Nat.{ℕ, ◌≤◌}
use native.Mathlib.Omega.{arith}
use borrow.Author.Tests.{eqb-true}
use Rattle.common.specs.Tests.{refusal}
use Rattle.common.proofs.Tests.{same?, is_false, avoids}
use Rattle.common.proofs.Lists.{any_some}
use Rattle.cube.specs.Cube.{largest_dimension, circuit_of, source_of}
use Rattle.paths.specs.Network.{is_free, link_state}
use Rattle.table.specs.View.{View, view, held_in, held_by, available}
use Rattle.layout.specs.Resources.{Width}
use Rattle.table.specs.Encode.{AllBytes}
use Rattle.circuit_path.specs.OpenCircuit.{is_open_in}
use Rattle.answers.specs.SendOnTable.{state_in, free_in}
use Rattle.soundness.specs.TableTests.{table_tests}
use Rattle.judging.specs.Judged.{judge_facts, circuits_in, judge_tests}
use Rattle.judging.specs.Loadable.{Loadable}
use Rattle.judging.proofs.Loadable.{circuits_exactly, links_exactly, targets_exactly, first_fails, first_holds, accepted_exactly}
use Rattle.book.proofs.WellFormedBook.{well_formed_exactly}
use Rattle.judging.proofs.WrittenAccepted.{written_accepted}
use Rattle.ownership.specs.Calls.{booking, judging, CallResult, call_tests, result_of, After}
use Rattle.ownership.specs.TableFacts.{open_in}
use Rattle.ownership.specs.OnTable.{facts_of, stopped_at, table_step}
use Rattle.ownership.specs.Allowed.{Allowed}
use Rattle.ownership.specs.Agrees.{table_after, Accepted}
use Rattle.ownership.specs.Judging.{JudgingSays, emptied, judging_of, emptying, BookAccepted}
use Rattle.ownership.proofs.Allowed.{allowed}
use Rattle.ownership.proofs.Stops.{none_stops, none_stops_lent, pass_tests, stopped_is}
use Rattle.ownership.proofs.Steps.{table_step_lem}
use Rattle.ownership.proofs.OnSound.{open_sound}
use Rattle.ownership.proofs.Emptied.{closes_accepted, closes_pass, closes_show}

-- a table that passes its tests is of a cube
dimension_fits : (q : ℕ) (b : List ℕ) → refusal (table_tests q b) ≡ 0 → (view b).dimension ≤ largest_dimension
unfolding view
dimension_fits q b e = (pass_tests q b e).2

-- nested pairs as one list of three facts, or of four
three : {A P Q R : Type 0} → A ↔ (P × (Q × R)) → A ↔ (P × Q × R)
three e = ((λ a. let h = e.0 a in (h.0, h.1.0, h.1.1)), (λ h. e.1 (h.0, (h.1, h.2))))

four : {A P Q R S : Type 0} → A ↔ (P × (Q × (R × S))) → A ↔ (P × Q × R × S)
four e = ((λ a. let h = e.0 a in (h.0, h.1.0, h.1.1.0, h.1.1.1)), (λ h. e.1 (h.0, (h.1, (h.2, h.3)))))

module _ (q : ℕ) (b ports index : List ℕ) (circuits hops : ℕ) where
  -- the number that a judging answers
  abbrev number : ℕ
  number = (table_step q b (judging ports index circuits hops)).result.number

  -- Where the table passes its tests, it is that of the first test of the book that applies, and 0 where none does,
  judging_number : refusal (table_tests q b) ≡ 0 → number ≡ refusal (judge_tests (judge_facts (view b)) ports index circuits hops)
  unfolding call_tests result_of facts_of open_in
  judging_number e =
      let a = judging ports index circuits hops in
      let p = pass_tests q b e in
      ⊎_elim (λ z. ap (λ (g : CallResult). g.number) ((table_step_lem q b a).result z) ∙ sym z)
      (λ f. ap (λ (x : After (List ℕ)). x.result.number) ((table_step_lem q b a).stopped f)) (same? (stopped_at q b a) 0)
      ∙ stopped_is q b p.0 p.1 p.2 p.3 a

  -- so that it says what is wrong with the book,
  pub judging_says : refusal (table_tests q b) ≡ 0 → JudgingSays b ports index circuits hops number
  unfolding judge_tests avoids
  judging_says e =
      let a = judge_facts (view b) in
      let xs = circuits_in ports index circuits in
      let form = well_formed_exactly ports index circuits hops in
      let right = circuits_exactly a xs in
      let linked = links_exactly a xs in
      let enough = targets_exactly a xs in
      rw (judging_number e)
      record {
        accepted = accepted_exactly a ports index circuits hops;
        bad_book = first_fails form 25 _ refl (omega arith);
        bad_circuit = first_holds form 25 _ (λ z. omega arith) (λ w. first_fails right 26 _ refl (omega arith));
        bad_link =
            three
            (first_holds form 25 _ (λ z. omega arith)
            (λ w. first_holds right 26 _ (λ z. omega arith)
            (λ r. first_fails (linked r) 27 _ refl (omega arith))));
        too_few =
            four
            (first_holds form 25 _ (λ z. omega arith)
            (λ w. first_holds right 26 _ (λ z. omega arith)
            (λ r. first_holds (linked r) 27 _ (λ z. omega arith)
            (λ l. first_fails enough 11 [] refl (omega arith)))));
      }

  -- and Judging 2: a yes means exactly that the table passes its tests and the book is loadable.
  pub judging_exactly : Accepted q b (judging ports index circuits hops) ↔ ((refusal (table_tests q b) ≡ 0) × Loadable (judge_facts (view b)) ports index circuits hops)
  judging_exactly = (
    (λ answers_0.
        let a = judging ports index circuits hops in
        let e = none_stops_lent q b a refl ((table_step_lem q b a).passed answers_0) in
        (e, (judging_says e).accepted.0 answers_0)),
    (λ h. (judging_says h.0).accepted.1 h.1),
  )

-- What is asked in judging of a table that shows nothing held: no send channel is open, every enabled link is free and every armed channel is available.
module _ (v : View) where
  none_open : (s c : ℕ) → is_open_in (emptied v) (circuit_of s c) ≡ false
  unfolding is_open_in emptied
  none_open s c =
      is_false _ (λ e.
      let r = any_some (held_by (emptied v) (circuit_of s c) (source_of (circuit_of s c))) _ e in
      let zero_is = eqb-true 0 (circuit_of s c) r.2 in
      omega arith)

  all_free : (n p : ℕ) → free_in (emptied v) n p ≡ v.enabled n p
  unfolding free_in state_in held_in emptied is_free link_state
  all_free n p = go (v.enabled n p)
    where
      go : (on : Bool) → is_free (link_state on false) ≡ on
      go true = refl
      go false = refl

  all_available : (n k : ℕ) → available (emptied v) n k ≡ v.armed n k
  unfolding available emptied
  all_available n k = and-true (v.armed n k)

-- The book that a booking wrote is accepted by every table that passes its tests and shows nothing held, and the links and channels as the table of the booking
-- showed them, whatever calls led to it.
module _ (q : ℕ) (width : Width q) (b ports index : List ℕ) (booked : Accepted q b (booking ports index)) where
  -- what the booking gave
  abbrev written : CallResult
  written = (table_step q b (booking ports index)).result

  pub emptied_accepts : (left : List ℕ) → refusal (table_tests q left) ≡ 0 → view left ≡ emptied (view b) → Accepted q left (judging_of written)
  unfolding result_of facts_of Allowed emptied
  emptied_accepts left pass shows =
      let a = booking ports index in
      let z = (table_step_lem q b a).passed booked in
      let e = none_stops_lent q b a refl z in
      let sound = (pass_tests q b e).3 in
      let r = allowed (facts_of (view b)) a (none_stops q b a z) in
      rw ((table_step_lem q b a).result z)
      (judging_number q _ _ _ _ _ pass
      ∙ rw shows
      (written_accepted (view b) (dimension_fits q b e) (open_sound (view b) sound) sound.held_enabled sound.held_armed (judge_facts (emptied (view b))) refl refl (none_open (view b))
      (all_free (view b)) (λ n k l. all_available (view b) n k) ports index r.0 r.1))

  -- Judging 9
  pub book_accepted : AllBytes b → BookAccepted q b written
  book_accepted small =
      let e = none_stops_lent q b (booking ports index) refl ((table_step_lem q b (booking ports index)).passed booked) in
      record {
        closed = λ g m. ap (λ (x : CallResult). x.number) (closes_accepted q width b small e g m);
        shows = closes_show q width b small e;
        accepted = emptied_accepts (table_after q b (emptying b)) (closes_pass q width b small e) (closes_show q width b small e);
      }
