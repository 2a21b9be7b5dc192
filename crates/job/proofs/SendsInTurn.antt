-- The sends of a list in turn, as a loop opens them: what is left to be opened at each place.
-- Assumes nothing.
use mathlib.Core.Bool.{Bool, true, false, cond}
use mathlib.Core.Path.{◌≡◌, refl, ap, sym, ◌∙◌}
use mathlib.Core.Logic.{⊎_elim, ◌≢◌}
use mathlib.Core.List.{List, [], ◌∷◌, map}
use Prim.Native.Nat.{ℕ, zero, suc, ◌+◌, ◌-◌, ◌*◌, ◌/◌, ◌≤◌, ◌<◌}
use native.Mathlib.Omega.{arith}
use native.Mathlib.Numerals.{add-one}
use lib.ListN.{length}
use borrow.Author.Tests.{ne_eqb}
use Rattle.common.specs.Lists.{from}
use Rattle.common.specs.Tests.{refusal}
use Rattle.layout.specs.Layout.{word_at}
use Rattle.table.specs.View.{view}
use Rattle.table.specs.Encode.{AllBytes}
use Rattle.soundness.specs.TableTests.{table_tests}
use Rattle.cube.specs.Cube.{channels, circuit_of}
use Rattle.answers.specs.declared.Acknowledged.{Acknowledged}
use Rattle.answers.specs.declared.Rejected.{Rejected}
use Rattle.answers.specs.declared.Opening.{Opening}
use Rattle.common.specs.declared.refusal.Refusal.{Refusal}
use Rattle.answers.specs.PassOnBytes.{opened_answer}
use Rattle.std.proofs.Common.{Result, Ok, Err}
use Rattle.answers.specs.SendAnswer.{sent_on_bytes}
use Rattle.ownership.specs.Sends.{Send, send_at, sends_in}
use Rattle.ownership.specs.Calls.{Call, opening, opening_all, opening_of, call_tests, After}
use Rattle.ownership.specs.InTurn.{Job, one_more, ends_with, in_turn, after_job}
use Rattle.ownership.specs.OnTable.{facts_of, stopped_at, table_step, done}
use Rattle.ownership.specs.JobSays.{opens_on}
use Rattle.ownership.proofs.InTurn.{turn_accepted, turn_refused}
use Rattle.ownership.proofs.Steps.{table_step_lem}
use Rattle.ownership.proofs.FromTable.{keeps_sound}
use Rattle.ownership.proofs.JobSays.{job_step}
use Rattle.ownership.proofs.Stops.{pass_tests, stopped_is}
use Rattle.router.proofs.TableStep.{call_refused, call_opens}
use Rattle.call_tests.proofs.Stopping.{job_passed, open_small, open_vector}
use Rattle.common.specs.Refusals.{number_of}
use Rattle.common.proofs.Refusals.{refused}
use Rattle.common.proofs.Tests.{clash, same?}
use Rattle.layout.specs.Layout.{length_of}
use Rattle.layout.specs.Resources.{Width}
use Rattle.std.specs.Result.{is_err}
use Rattle.job.specs.declared.JobRefused.{JobRefused}
use Rattle.job.specs.JobValues.{job_number, job_sends}
use Rattle.job.specs.JobContracts.{OpenedAt, job_of, read_as}

-- the sends from a place on
abbrev pub sends_from : List ℕ → ℕ → List Send
sends_from sends i = map (send_at sends) (from i (length sends / 10 - i))

-- a job behind so many acknowledged sends
abbrev pub further : ℕ → Job (List ℕ) → Job (List ℕ)
further i j = record { result = record { number = j.result.number; sends = i + j.result.sends }; state = j.state }

-- none, one more, and one that is refused
further_none : (j : Job (List ℕ)) → further 0 j ≡ j
further_none j = λ k. record { result = record { number = j.result.number; sends = same k }; state = j.state }
  where
    same : 0 + j.result.sends ≡ j.result.sends
    same = omega arith

further_more : (i : ℕ) (j : Job (List ℕ)) → further i (one_more j) ≡ further (i + 1) j
further_more i j = λ k. record { result = record { number = j.result.number; sends = same k }; state = j.state }
  where
    same : i + suc j.result.sends ≡ i + 1 + j.result.sends
    same = omega arith

further_refused : (i : ℕ) (b : List ℕ) (n : ℕ) → further i (ends_with b n) ≡ job_of b n i
further_refused i b n = ap (job_of b n) same
  where
    same : i + 0 ≡ i
    same = omega arith

module _ (q : ℕ) (sends : List ℕ) where
  pub at_first : (b : List ℕ) → in_turn (opens_on q) b (sends_in sends) ≡ further 0 (in_turn (opens_on q) b (sends_from sends 0))
  unfolding sends_in
  at_first b = ap (λ k. in_turn (opens_on q) b (map (send_at sends) (from 0 k))) all ∙ sym (further_none _)
    where
      all : length sends / 10 ≡ length sends / 10 - 0
      all = omega arith

  sends_next : (i : ℕ) → i < length sends / 10 → sends_from sends i ≡ send_at sends i ∷ sends_from sends (i + 1)
  unfolding from
  sends_next i h = rw add-one (ap (λ k. map (send_at sends) (from i k)) less)
    where
      less : length sends / 10 - i ≡ suc (length sends / 10 - suc i)
      less = omega (arith, h)

  module _ (b : List ℕ) (i : ℕ) (h : i < length sends / 10) where
    -- the send at place i is acknowledged,
    pub goes_on : (opens_on q b (send_at sends i)).result.number ≡ 0
        → further i (in_turn (opens_on q) b (sends_from sends i)) ≡ further (i + 1) (in_turn (opens_on q) (opens_on q b (send_at sends i)).state (sends_from sends (i + 1)))
    goes_on e =
        ap (λ xs. further i (in_turn (opens_on q) b xs)) (sends_next i h) ∙ ap (further i) (turn_accepted (opens_on q) b (send_at sends i) (sends_from sends (i + 1)) e) ∙ further_more i _

    -- or it is the first that is refused
    pub stops_here : (opens_on q b (send_at sends i)).result.number ≢ 0 → further i (in_turn (opens_on q) b (sends_from sends i)) ≡ job_of b (opens_on q b (send_at sends i)).result.number i
    stops_here f =
        ap (λ xs. further i (in_turn (opens_on q) b xs)) (sends_next i h) ∙ ap (further i) (turn_refused (opens_on q) b (send_at sends i) (sends_from sends (i + 1)) f) ∙ further_refused i b _

  -- and none is left.
  pub all_opened : (b : List ℕ) (i : ℕ) → length sends / 10 ≤ i → further i (in_turn (opens_on q) b (sends_from sends i)) ≡ job_of b 0 i
  unfolding in_turn from
  all_opened b i h = ap (λ k. further i (in_turn (opens_on q) b (map (send_at sends) (from i k)))) none ∙ further_refused i b 0
    where
      none : length sends / 10 - i ≡ 0
      none = omega (arith, h)

  -- Of one send at most: what the job leaves is what its open left, as a refused one leaves every byte.
  pub short_state : (b : List ℕ) → length sends ≤ 10 → (in_turn (opens_on q) b (sends_in sends)).state ≡ after_job b (in_turn (opens_on q) b (sends_in sends))
  unfolding sends_in from in_turn after_job
  short_state b h = left (length sends / 10) (omega (arith, h))
    where
      job : ℕ → Job (List ℕ)
      job k = in_turn (opens_on q) b (map (send_at sends) (from 0 k))

      same : (c : Bool) → b ≡ cond c b b
      same true = refl
      same false = refl

      left : (k : ℕ) → k ≤ 1 → (job k).state ≡ after_job b (job k)
      left zero l = refl
      left (suc zero) l =
          ⊎_elim (λ e. rw (turn_accepted (opens_on q) b (send_at sends 0) [] e) refl) (λ f. rw (turn_refused (opens_on q) b (send_at sends 0) [] f) (same _))
          (same? (opens_on q b (send_at sends 0)).result.number 0)
      left (suc (suc k)) l = absurd (omega (arith, l))

-- The loop, at the sends from i on: what is known there of the table, and of the bytes before the job.
module _ (q : ℕ) (b₀ b sends : List ℕ) (i : ℕ) (left : in_turn (opens_on q) b₀ (sends_in sends) ≡ further i (in_turn (opens_on q) b (sends_from sends i))) where
  module _ (h : i < length sends / 10) {after : List ℕ} where
    pub stopped_at_lem : (e : Refusal) → OpenedAt q b sends i (number_of e) after → job_of after (number_of e) i ≡ in_turn (opens_on q) b₀ (sends_in sends)
    stopped_at_lem e o =
        let g : (opens_on q b (send_at sends i)).result.number ≢ 0 = λ z. refused e (o.number_is ∙ z) in
        let same = o.bytes_are ∙ (table_step_lem q b (opening_of (send_at sends i))).refused g in
        (λ k. job_of (same k) (o.number_is k) i) ∙ sym (left ∙ stops_here q sends b i h g)

    pub went_on : OpenedAt q b sends i 0 after → in_turn (opens_on q) b₀ (sends_in sends) ≡ further (i + 1) (in_turn (opens_on q) after (sends_from sends (i + 1)))
    went_on o = left ∙ goes_on q sends b i h (sym o.number_is) ∙ ap (λ u. further (i + 1) (in_turn (opens_on q) u (sends_from sends (i + 1)))) (sym o.bytes_are)

  pub ended : {count : ℕ} → count ≡ length sends / 10 → i ≤ count → count ≤ i → job_of b 0 count ≡ in_turn (opens_on q) b₀ (sends_in sends)
  ended {count} e l m = ap (job_of b 0) same ∙ sym (left ∙ all_opened q sends b i (omega (arith, e, m)))
    where
      same : count ≡ i
      same = omega (arith, l, m)

pub still_passes : {q : ℕ} → Width q → {b sends after : List ℕ} {i n : ℕ} → OpenedAt q b sends i n after → AllBytes b → refusal (table_tests q b) ≡ 0 → refusal (table_tests q after) ≡ 0
still_passes {q} width {b} {sends} {after} {i} o small pass = rw o.bytes_are (keeps_sound q width b small pass (opening_of (send_at sends i)) tt)

-- What a job that no test stops asks of its table and of its list.
module _ (q : ℕ) (b sends : List ℕ) (e : 0 ≡ stopped_at q b (opening_all sends)) where
  pub all_passes : refusal (table_tests q b) ≡ 0
  all_passes = (job_passed q b sends e).0

  pub all_long : length b ≡ length_of q
  all_long = (pass_tests q b all_passes).0

  pub all_short : length sends ≤ 640
  all_short = (job_passed q b sends e).2

-- The whole job, from what its sends came to: the bytes kept where one was refused, and else those after them.
module _ {q : ℕ} (width : Width q) (b sends : List ℕ) (e : 0 ≡ stopped_at q b (opening_all sends)) (small : AllBytes b) where
  came_to : {left after : List ℕ} {n k : ℕ} → job_of after n k ≡ in_turn (opens_on q) b (sends_in sends) → left ≡ after_job b (job_of after n k)
      → done left n (k ∷ []) (sends ∷ []) ≡ table_step q b (opening_all sends)
  came_to {n = n} {k = k} j w =
      ap (λ u. done u n (k ∷ []) (sends ∷ [])) w
      ∙ ap (λ (x : Job (List ℕ)). done (after_job b x) x.result.number (x.result.sends ∷ []) (sends ∷ [])) j
      ∙ sym (job_step q width b sends small (sym e))

  pub none_opened : (r : Result ℕ JobRefused) → is_err r ≡ true → {after left : List ℕ} → job_of after (job_number r) (job_sends r) ≡ in_turn (opens_on q) b (sends_in sends) → left ≡ b
      → done left (job_number r) (job_sends r ∷ []) (sends ∷ []) ≡ table_step q b (opening_all sends)
  unfolding after_job
  none_opened (Ok k) f j w = absurd (clash f refl)
  none_opened (Err x) f j w = came_to j (w ∙ rw (ne_eqb (number_of x.refusal) 0 (refused x.refusal)))

  pub each_opened : (r : Result ℕ JobRefused) → is_err r ≡ false → {after : List ℕ} → job_of after (job_number r) (job_sends r) ≡ in_turn (opens_on q) b (sends_in sends)
      → done after (job_number r) (job_sends r ∷ []) (sends ∷ []) ≡ table_step q b (opening_all sends)
  unfolding after_job
  each_opened (Ok k) f j = came_to j refl
  each_opened (Err x) f j = absurd (clash refl f)

  -- A list of one send at most asks for no bytes kept: where it is refused, all are as they were.
  pub short_job : length sends ≤ 10 → {after : List ℕ} {n k : ℕ} → job_of after n k ≡ in_turn (opens_on q) b (sends_in sends) → done after n (k ∷ []) (sends ∷ []) ≡ table_step q b (opening_all sends)
  short_job h j = came_to j (ap (λ (x : Job (List ℕ)). x.state) j ∙ short_state q sends b h ∙ ap (after_job b) (sym j))

-- One send, as the code reads it, on a table that passes its tests: those of its arguments are all that can stop it.
module _ (q : ℕ) (b sends : List ℕ) (i : ℕ) (x : Opening) (pass : refusal (table_tests q b) ≡ 0) where
  abbrev call : Call
  call = opening x.source.0 x.channel x.target.0 x.routing x.vector

  stops : {n : ℕ} → n ≡ refusal (call_tests (facts_of (view b)) call) → n ≡ stopped_at q b call
  stops e = let p = pass_tests q b pass in e ∙ sym (stopped_is q b p.0 p.1 p.2 p.3 call)

  module _ (e : 0 ≡ refusal (call_tests (facts_of (view b)) call)) where
    pub send_small : (x.source.0 < 256) × (x.channel < channels)
    send_small = open_small q b x.source.0 x.channel x.target.0 x.routing x.vector (stops e)

    pub send_vector : x.vector ≢ 0
    send_vector = open_vector q b x.source.0 x.channel x.target.0 x.routing x.vector (stops e)

    pub send_stopped : 0 ≡ stopped_at q b call
    send_stopped = stops e

  module _ (is : read_as x ≡ send_at sends i) where
    -- the number and the bytes of the single call
    open_done : {after : List ℕ} {n h r k : ℕ} → done after n (h ∷ r ∷ k ∷ []) [] ≡ table_step q b call → OpenedAt q b sends i n after
    open_done e =
        let y = e ∙ ap (opens_on q b) is in
        record { number_is = ap (λ (a : After (List ℕ)). a.result.number) y; bytes_are = ap (λ (a : After (List ℕ)). a.state) y }

    pub open_refused : (e : Refusal) → number_of e ≡ refusal (call_tests (facts_of (view b)) call) → OpenedAt q b sends i (number_of e) b
    open_refused e f = open_done (call_refused q b call e (stops f))

    module _ (width : Width q) (e : 0 ≡ refusal (call_tests (facts_of (view b)) call)) (small : AllBytes b) {after : List ℕ} where
      pub open_accepted : (a : Acknowledged) → opened_answer (Ok a) after ≡ sent_on_bytes b x.source.0 x.target.0 (circuit_of x.source.0 x.channel) x.routing x.vector → OpenedAt q b sends i 0 after
      open_accepted a g = open_done (call_opens width b x.source.0 x.channel x.target.0 x.routing x.vector (stops e) small refl (Ok a) g)

      pub open_rejected : (r : Rejected) → opened_answer (Err r) after ≡ sent_on_bytes b x.source.0 x.target.0 (circuit_of x.source.0 x.channel) x.routing x.vector → OpenedAt q b sends i (number_of r.refusal) after
      open_rejected r g = open_done (call_opens width b x.source.0 x.channel x.target.0 x.routing x.vector (stops e) small refl (Err r) g)

-- which stand in ten bytes of the list.
pub send_is : (sends : List ℕ) (i : ℕ) {s c t y v : ℕ} → s ≡ word_at sends (10 * i) → c ≡ word_at sends (10 * i + 2) → t ≡ word_at sends (10 * i + 4) → y ≡ word_at sends (10 * i + 6) → v ≡ word_at sends (10 * i + 8)
    → record { source = s; channel = c; target = t; type = y; vector = v } ≡ send_at sends i
unfolding send_at
send_is sends i es ec et ey ev = λ k. record { source = (es ∙ ap (word_at sends) first) k; channel = ec k; target = et k; type = ey k; vector = ev k }
  where
    first : 10 * i ≡ 10 * i + 0
    first = omega arith

-- With these the check proves what a whole job answers, and what it asks.
pub ruleset whole_job = (call_refused, all_passes, all_short)

-- what the loop over its sends comes to,
pub ruleset sends_in_turn = (at_first, went_on, ended)

-- and what one send answers, and what it asks.
pub ruleset one_send = (open_refused, send_small, send_vector)
