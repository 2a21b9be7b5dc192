-- A job on the bytes of a table is its single opens in turn, and says what they say.
-- Assumes nothing.
use mathlib.Core.Path.{◌≡◌, refl, ap, sym, ◌∙◌}
use mathlib.Core.Logic.{◌⊎◌, inl, inr, ⊎_elim, ◌≢◌}
use mathlib.Core.Bool.{cond}
use mathlib.Core.List.Memᴰ
use mathlib.Core.List.{List, [], ◌∷◌, ◌++◌, map}
use Prim.Native.Nat.{ℕ, suc, ◌/◌}
use native.Mathlib.Omega.{arith}
use lib.Dec.{eqb}
use lib.ListN.{length, length-map}
use borrow.Author.Tests.{eq-eqb, ne_eqb}
use Rattle.common.specs.Lists.{from}
use Rattle.common.specs.Tests.{refusal}
use Rattle.common.proofs.Tests.{same?}
use Rattle.common.proofs.From.{length_from}
use Rattle.table.specs.View.{View, view}
use Rattle.layout.specs.Resources.{Width}
use Rattle.table.specs.Encode.{AllBytes}
use Rattle.table.proofs.Encode.{encode_view_over}
use Rattle.soundness.specs.TableTests.{table_tests}
use Rattle.ownership.specs.Sends.{Send, send_at, sends_in, JobResult}
use Rattle.ownership.specs.Calls.{Call, OfKind, opening_all, opening_of, CallResult, refused_with, call_tests, result_of, no_job, After, call_on}
use Rattle.ownership.specs.InTurn.{Job, one_more, in_turn, single_open, after_job}
use Rattle.ownership.specs.TableFacts.{facts_with, opened, job_in}
use Rattle.ownership.specs.Update.{updated}
use Rattle.ownership.specs.OnTable.{facts_of, stopped_at, table_step, done}
use Rattle.ownership.specs.Agrees.{table_after, after_calls, call_results}
use Rattle.ownership.specs.Allowed.{Allowed}
use Rattle.ownership.specs.JobSays.{single_opens, AllAccepted, number_after, FirstRefused, JobSays, opens_on}
use Rattle.ownership.proofs.InTurn.{same_call, same_job, turn_accepted, turn_refused, turn_keeps, turn_same}
use Rattle.ownership.proofs.Steps.{step_says, table_step_lem}
use Rattle.ownership.proofs.Stops.{none_stops, none_stops_lent, pass_tests, stopped_is}
use Rattle.ownership.proofs.Allowed.{allowed}
use Rattle.ownership.proofs.Agreement.{represents_step}
use Rattle.ownership.proofs.FromTable.{sound_represents, keeps_sound, shows_update}

-- bytes that pass the tests of a lent table, as each call leaves them
pub record Passes (q : ℕ) (b : List ℕ) : Type 0 where
  pub small : AllBytes b
  pub tests : refusal (table_tests q b) ≡ 0

pub passes_kept : (q : ℕ) → Width q → (b : List ℕ) (a : Call) → OfKind q a → Passes q b → Passes q (table_step q b a).state
passes_kept q width b a kind p =
    record {
      small = (represents_step q width b _ (sound_represents q b p.small p.tests) a kind).represented.bytes.small;
      tests = keeps_sound q width b p.small p.tests a kind;
    }

-- On what such bytes show, a single open is the same,
module _ (q : ℕ) (width : Width q) (b : List ℕ) (x : Send) (p : Passes q b) where
  abbrev shown_open : After View
  shown_open = single_open (facts_with no_job) opened (view b) x

  result_shown : shown_open.result ≡ (opens_on q b x).result
  unfolding table_step call_on call_tests facts_of result_of
  result_shown =
      let r = pass_tests q b p.tests in
      ap (λ n. cond (eqb n 0) (result_of (facts_of (view b)) (opening_of x)) (refused_with n (opening_of x))) (sym (stopped_is q b r.0 r.1 r.2 r.3 (opening_of x)))

  number_shown : shown_open.result.number ≡ (opens_on q b x).result.number
  number_shown = ap (λ (g : CallResult). g.number) result_shown

  state_shown : shown_open.state ≡ view (opens_on q b x).state
  unfolding updated
  state_shown =
      let says = step_says (view b) (opened (view b) x) (facts_with no_job (view b)) (refusal (call_tests (facts_with no_job (view b)) (opening_of x))) (opening_of x) in
      let g = table_step_lem q b (opening_of x) in
      ⊎_elim (λ e. says.accepted (number_shown ∙ e) ∙ sym (shows_update q width b p.small p.tests (opening_of x) tt (g.passed e)))
      (λ f. says.refused (λ e. f (sym number_shown ∙ e)) ∙ sym (ap view (g.refused f))) (same? (opens_on q b x).result.number 0)

  shown_open_lem : shown_open ≡ same_call view (opens_on q b x)
  shown_open_lem = λ i. record { state = state_shown i; result = result_shown i }

-- and so is a job.
job_shown : (q : ℕ) → Width q → (b : List ℕ) → Passes q b → (xs : List Send) → job_in (view b) xs ≡ same_job view (in_turn (opens_on q) b xs)
unfolding job_in
job_shown q width b p xs = turn_same view (opens_on q) (single_open (facts_with no_job) opened) (Passes q) (λ b x p e. passes_kept q width b (opening_of x) tt p) (shown_open_lem q width) xs b p

-- A job that no test stops is its single opens in turn on the bytes of the table; where one is refused, the bytes are as before.
pub job_step : (q : ℕ) → Width q → (b sends : List ℕ) → AllBytes b → stopped_at q b (opening_all sends) ≡ 0
    → table_step q b (opening_all sends)
    ≡ (let j = in_turn (opens_on q) b (sends_in sends) in done (after_job b j) j.result.number (j.result.sends ∷ []) (sends ∷ []))
job_step q width b sends small z = λ i. record { state = state i; result = result i }
  where
    p : Passes q b
    p = record { small = small; tests = none_stops_lent q b (opening_all sends) refl z }

    j : Job (List ℕ)
    j = in_turn (opens_on q) b (sends_in sends)

    given : JobResult → CallResult
    given r = record { number = r.number; values = r.sends ∷ []; buffers = sends ∷ [] }

    result : (table_step q b (opening_all sends)).result ≡ given j.result
    result =
        (table_step_lem q b (opening_all sends)).result z
        ∙ (unfold result_of facts_of in ap (λ (x : Job View). given x.result) (job_shown q width b p (sends_in sends)))

    last : Passes q j.state
    last = turn_keeps (opens_on q) (Passes q) (λ b x p e. passes_kept q width b (opening_of x) tt p) (sends_in sends) b p

    state : (table_step q b (opening_all sends)).state ≡ after_job b j
    state = ⊎_elim accepts refuses (same? j.result.number 0)
      where
        number : (table_step q b (opening_all sends)).result.number ≡ j.result.number
        number = ap (λ (g : CallResult). g.number) result

        accepts : j.result.number ≡ 0 → (table_step q b (opening_all sends)).state ≡ after_job b j
        accepts e =
            (table_step_lem q b (opening_all sends)).accepted (number ∙ e)
            ∙ (unfold updated after_job in rw (job_shown q width b p (sends_in sends), eq-eqb _ 0 e) (encode_view_over q width j.state (pass_tests q j.state last.tests).0 last.small))

        refuses : j.result.number ≢ 0 → (table_step q b (opening_all sends)).state ≡ after_job b j
        refuses f = (table_step_lem q b (opening_all sends)).refused (λ e. f (sym number ∙ e)) ∙ (unfold after_job in rw (ne_eqb _ 0 f))

-- In plain words: calls that are all accepted, one by one;
accepted_first : (q : ℕ) (b : List ℕ) (a : Call) (more : List Call) → AllAccepted q b (a ∷ more) → ((table_step q b a).result.number ≡ 0) × AllAccepted q (table_step q b a).state more
unfolding call_results
accepted_first q b a more all = (all _ (Memᴰ.head refl), λ g m. all g (Memᴰ.tail m))

-- single opens that are all acknowledged;
opens_all : (q : ℕ) (xs : List Send) (b : List ℕ) → AllAccepted q b (map opening_of xs)
    → in_turn (opens_on q) b xs ≡ record { result = record { number = 0; sends = length (map opening_of xs) }; state = table_after q b (map opening_of xs) }
unfolding in_turn after_calls
opens_all q [] b all = refl
opens_all q (x ∷ more) b all =
    let first = accepted_first q b (opening_of x) (map opening_of more) all in
    turn_accepted (opens_on q) b x more first.0 ∙ ap one_more (opens_all q more (opens_on q b x).state first.1)

-- and the first that is not.
opens_until : (q : ℕ) (before : List Call) (xs : List Send) (b : List ℕ) (a : Call) (after : List Call) → map opening_of xs ≡ before ++ a ∷ after → AllAccepted q b before → number_after q b before a ≢ 0
    → (in_turn (opens_on q) b xs).result ≡ record { number = number_after q b before a; sends = length before }
unfolding after_calls
opens_until q [] [] b a after e all f = let u : ◌≡◌ {A = ℕ} 0 1 = cc in absurd (omega arith)
opens_until q [] (x ∷ more) b a after e all f =
    let call : opening_of x ≡ a = cc in
    let same = ap (λ (u : Call). (table_step q b u).result.number) call in
    ap (λ (j : Job (List ℕ)). j.result) (turn_refused (opens_on q) b x more (λ z. f (sym same ∙ z))) ∙ ap (λ n. record { number = n; sends = 0 }) same
opens_until q (y ∷ before) [] b a after e all f = let u : ◌≡◌ {A = ℕ} 0 1 = cc in absurd (omega arith)
opens_until q (y ∷ before) (x ∷ more) b a after e all f =
    let call : opening_of x ≡ y = cc in
    let rest : map opening_of more ≡ before ++ a ∷ after = cc in
    let first = accepted_first q b y before all in
    ap (λ (j : Job (List ℕ)). j.result) (turn_accepted (opens_on q) b x more (ap (λ (u : Call). (table_step q b u).result.number) call ∙ first.0))
    ∙ ap (λ (u : Call). (one_more (in_turn (opens_on q) (table_step q b u).state more)).result) call
    ∙ ap (λ (r : JobResult). record { number = r.number; sends = suc r.sends }) (opens_until q before more (table_step q b y).state a after rest first.1 f)

-- One of the two is so of any calls.
either : (q : ℕ) (calls : List Call) (b : List ℕ) → AllAccepted q b calls ⊎ FirstRefused q b calls
unfolding after_calls call_results
either q [] b = inl (λ g m. absurd (Memᴰ.not-nil m))
either q (a ∷ more) b = ⊎_elim (λ e. ⊎_elim (λ all. inl (later more e all)) (λ r. inr (later_refused e r)) (either q more (table_step q b a).state)) (λ f. inr (here f)) (same? (table_step q b a).result.number 0)
  where
    later : (calls : List Call) → (table_step q b a).result.number ≡ 0 → AllAccepted q (table_step q b a).state calls → AllAccepted q b (a ∷ calls)
    later calls e all g m = ⊎_elim (λ first. ap (λ (x : CallResult). x.number) first ∙ e) (λ k. all g k) (Memᴰ.cases_cons m)

    later_refused : (table_step q b a).result.number ≡ 0 → FirstRefused q (table_step q b a).state more → FirstRefused q b (a ∷ more)
    later_refused e r =
        record { before = a ∷ r.before; call = r.call; after = r.after; split = ap (a ∷◌) r.split; accepted = later r.before e r.accepted; refused = r.refused }

    here : (table_step q b a).result.number ≢ 0 → FirstRefused q b (a ∷ more)
    here f = record { before = []; call = a; after = more; split = refl; accepted = λ g m. absurd (Memᴰ.not-nil m); refused = f }

-- How many sends a list of bytes has.
pub sends_count : (sends : List ℕ) → length (sends_in sends) ≡ length sends / 10
unfolding sends_in
sends_count sends = length-map (from 0 (length sends / 10)) (send_at sends) ∙ length_from 0 (length sends / 10)

-- So a job that no test stops says what its single opens say.
pub job_says : (q : ℕ) → Width q → (b sends : List ℕ) → AllBytes b → stopped_at q b (opening_all sends) ≡ 0 → JobSays q b sends (table_step q b (opening_all sends))
unfolding after_job Allowed
job_says q width b sends small z =
    let may = allowed (facts_of (view b)) (opening_all sends) (none_stops q b (opening_all sends) z) in
    let count : length (single_opens sends) ≡ length sends / 10 = length-map (sends_in sends) opening_of ∙ sends_count sends in
    record {
      length_is = omega (arith, count, may.0);
      most = omega (arith, count, may.1);
      either = either q (single_opens sends) b;
      all = λ all. job_step q width b sends small z ∙ rw (opens_all q (sends_in sends) b all);
      first = λ r. job_step q width b sends small z ∙ rw (opens_until q r.before (sends_in sends) b r.call r.after r.split r.accepted r.refused, ne_eqb _ 0 r.refused);
    }
