-- History 11, one theorem about lists of calls. A table that represents a history represents one after every call, and after an accepted making any bytes.
-- Assumes nothing.
use mathlib.Core.Path.{◌≡◌, refl, ap, ap₂, sym, ◌∙◌, subst}
use mathlib.Core.Logic.{⊎_elim, ◌≢◌}
use mathlib.Core.Bool.{true, false, not, ◌&&◌, Bool}
use mathlib.Core.List.{List, [], ◌∷◌}
use Prim.Native.Nat.{ℕ, ◌≤◌, ◌<◌}
use lib.Dec.{leb}
use lib.ListN.{length}
use borrow.Author.Tests.{le-leb}
use Rattle.common.specs.Tests.{refusal}
use Rattle.common.proofs.Tests.{same?, passed, accepted}
use Rattle.cube.specs.Cube.{largest_dimension, channels, circuit_of}
use Rattle.paths.specs.Network.{Path}
use Rattle.paths.specs.Send.{SendResult}
use Rattle.layout.specs.Layout.{length_of, dimension_at}
use Rattle.layout.specs.Resources.{Width}
use Rattle.table.specs.View.{View, view}
use Rattle.soundness.specs.Sound.{Sound}
use Rattle.circuit_path.specs.PathOf.{path_of}
use Rattle.circuit_path.specs.Traced.{traced_into}
use Rattle.soundness.specs.TableTests.{table_tests}
use Rattle.table.specs.Encode.{encode_over}
use Rattle.table.proofs.Encode.{encode_view_over}
use Rattle.table.proofs.Encoded.{encode_bytes_over, view_encode_over}
use Rattle.book.specs.Book.{BookCircuit, port_bytes, index_bytes, hop_count}
use Rattle.book.specs.BookOf.{book_of}
use Rattle.ownership.specs.Calls.{Call, making, blocking, unblocking, opening, closing, tracing, arming, disarming, opening_all, booking, judging, folding, OfKind, CallResult, refused_with, answered, call_tests, result_of}
use Rattle.ownership.specs.InTurn.{Job}
use Rattle.ownership.specs.Sends.{sends_in, JobResult}
use Rattle.ownership.specs.TableFacts.{job_in}
use Rattle.ownership.specs.Update.{updated}
use Rattle.ownership.specs.OnTable.{facts_of, stopped_at, table_step}
use Rattle.ownership.specs.History.{History, facts_on, stopped_on, listed, applied, history_step, new_history}
use Rattle.ownership.specs.Agrees.{table_after, table_results, history_after, history_results, Agrees, Accepted, after_calls, call_results}
use Rattle.ownership.specs.Closing.{Each, call_more}
use Rattle.ownership.specs.Invariant.{Valid, Represents}
use Rattle.ownership.specs.HistoryView.{view_of, bytes_of}
use Rattle.ownership.specs.Allowed.{Allowed}
use Rattle.ownership.proofs.Allowed.{allowed_on}
use Rattle.ownership.proofs.Stops.{none_stops, making_stopped, tests_pass, stopped_is}
use Rattle.ownership.proofs.StepBytes.{made_shows}
use Rattle.ownership.proofs.Range.{FoldFits, fold_fits, sound_fits}
use Rattle.ownership.proofs.Refused.{refused_within}
use Rattle.ownership.proofs.Sameness.{send_same, waiting_same}
use Rattle.ownership.proofs.CircuitValid.{armed_inside, valid_sound}
use Rattle.ownership.proofs.BookSame.{book_same}
use Rattle.ownership.proofs.Stopped.{stopped_same}
use Rattle.ownership.proofs.OpenSame.{path_listed}
use Rattle.ownership.proofs.ValidAfter.{made_valid, applied_valid, applied_fold}
use Rattle.ownership.proofs.Applied.{made_view, job_same, applied_view}
use Rattle.ownership.proofs.Steps.{table_step_lem, history_step_lem}
use Rattle.answers.specs.SendOnTable.{waiting_helps, send_in}

-- The fold mask of a history that a table represents is one that such a table can have,
pub represents_fold : (q : ℕ) (b : List ℕ) (h : History) → Represents q b h → FoldFits q h.fold
unfolding view view_of
represents_fold q b h k = subst (FoldFits q) (ap (λ (v : View). v.fold) k.shows) (fold_fits q b k.bytes)

-- and the bytes of a valid history with such a fold mask represent it.
pub bytes_represent : (q : ℕ) → Width q → (h : History) → Valid h → FoldFits q h.fold → Represents q (bytes_of q h) h
unfolding bytes_of
bytes_represent q width h valid fold =
    let eight : (n k : ℕ) → (view_of h).armed n k ≡ true → k < channels = unfold view_of in λ n k e. (armed_inside h valid n k e).1 in
    let fits = sound_fits q width (view_of h) (unfold view_of in valid.most) (valid_sound h valid) eight (unfold view_of in fold) in
    record { bytes = encode_bytes_over q width (view_of h) fits; shows = view_encode_over q width (view_of h) fits; valid = valid }

-- what a table that represents a history is
module _ (q : ℕ) (b : List ℕ) (h : History) (k : Represents q b h) where
  dimension_is : dimension_at b ≡ h.dimension
  dimension_is = unfold view view_of in ap (λ (v : View). v.dimension) k.shows

  least : 1 ≤ dimension_at b
  least = rw dimension_is k.valid.least

  most : dimension_at b ≤ largest_dimension
  most = rw dimension_is k.valid.most

  -- Every table that represents a history is sound, and none of the tests of the lent table stops a call on it.
  pub represents_sound : Sound (view b)
  represents_sound = rw k.shows (valid_sound h k.valid)

  pub represents_not_stopped : refusal (table_tests q b) ≡ 0
  represents_not_stopped = tests_pass q b k.bytes.long least most represents_sound

  -- a call is stopped on the table where the history stops it, by the same test
  pub stops_alike : (a : Call) → stopped_at q b a ≡ stopped_on h a
  stops_alike a = stopped_is q b k.bytes.long least most represents_sound a ∙ ap (λ v. refusal (call_tests (facts_of v) a)) k.shows ∙ stopped_same h k.valid a

  -- and where no test does, it gives what the history says
  results_alike : (a : Call) → stopped_on h a ≡ 0 → result_of (facts_of (view b)) a ≡ result_of (facts_on h) a
  unfolding result_of facts_of facts_on
  results_alike (making D) e = refl
  results_alike (blocking n p) e = refl
  results_alike (unblocking n p) e = refl
  results_alike (opening s c t y v) e =
      ap₂ (λ (helps : Bool) (x : SendResult). answered helps x.outcome x.scouts) (ap (λ u. waiting_helps u s t y v) k.shows ∙ waiting_same h s t y v)
      (ap (λ u. send_in u s t y v) k.shows ∙ send_same h s t y v)
  results_alike (closing s c) e = refl
  results_alike (arming n k) e = refl
  results_alike (disarming n k) e = refl
  results_alike (opening_all sends) e =
      ap (λ (j : JobResult). record { number = j.number; values = j.sends ∷ []; buffers = sends ∷ [] })
      (ap (λ u. (job_in u (sends_in sends)).result) k.shows ∙ ap (λ (j : Job View). j.result) (job_same h k.valid (sends_in sends)))
  results_alike (judging ports index circuits hops) e = refl
  results_alike (folding mask) e = refl
  results_alike (booking ports index) e =
      ap (λ (xs : List BookCircuit). record { number = 0; values = length xs ∷ hop_count xs ∷ []; buffers = traced_into (port_bytes xs) ports ∷ traced_into (index_bytes xs) index ∷ [] })
      (ap book_of k.shows ∙ book_same h k.valid)
  results_alike (tracing s c buffer) e = ap (λ (w : Path). record { number = 0; values = length w ∷ []; buffers = traced_into w buffer ∷ [] }) path_alike
    where
      path_alike : path_of (view b) (circuit_of s c) ≡ listed h.circuits s c
      path_alike =
          let r : Allowed (facts_on h) (tracing s c buffer) = allowed_on h (tracing s c buffer) e in
          unfold Allowed facts_on in ap (λ v. path_of v (circuit_of s c)) k.shows ∙ path_listed h k.valid s c r.1 r.2

  -- What a call gives, on the table and in the history, and that the table represents the history still.
  pub record Step (a : Call) : Type 0 where
    pub result : (table_step q b a).result ≡ (history_step h a).result
    pub represented : Represents q (table_step q b a).state (history_step h a).state

  result_same : (a : Call) → (table_step q b a).result ≡ (history_step h a).result
  result_same a =
      ⊎_elim (λ e. (table_step_lem q b a).result (stops_alike a ∙ e) ∙ results_alike a e ∙ sym ((history_step_lem h a).result e))
      (λ f. rw ((table_step_lem q b a).stopped (λ z. f (sym (stops_alike a) ∙ z)), (history_step_lem h a).stopped f) (ap (λ i. refused_with i a) (stops_alike a)))
      (same? (stopped_on h a) 0)

module _ (q : ℕ) (width : Width q) (b : List ℕ) (h : History) (k : Represents q b h) where
  pub represents_step : (a : Call) → OfKind q a → Step q b h k a
  represents_step a kind = record { result = result_same q b h k a; represented = ⊎_elim accepts refuses (same? (history_step h a).result.number 0) }
    where
      number : (table_step q b a).result.number ≡ (history_step h a).result.number
      number = ap (λ (g : CallResult). g.number) (result_same q b h k a)

      -- the bytes of an accepted call show the update of what they showed, which is what the history then says
      accepts : (history_step h a).result.number ≡ 0 → Represents q (table_step q b a).state (history_step h a).state
      accepts e =
          let passes = (history_step_lem h a).passed e in
          let shown : bytes_of q (applied h a) ≡ encode_over q (updated (view_of h) a) = unfold bytes_of in ap (encode_over q) (applied_view h k.valid a passes) in
          let bytes = (table_step_lem q b a).accepted (number ∙ e) ∙ ap (λ v. encode_over q (updated v a)) k.shows ∙ sym shown in
          rw (bytes, (history_step_lem h a).accepted e) (bytes_represent q width (applied h a) (applied_valid h k.valid a passes) (applied_fold q h k.valid (represents_fold q b h k) a kind passes))

      refuses : (history_step h a).result.number ≢ 0 → Represents q (table_step q b a).state (history_step h a).state
      refuses f = rw ((table_step_lem q b a).refused (λ z. f (sym number ∙ z)), (history_step_lem h a).refused f) k

-- The bytes of a table that represents a history are those of the history.
pub represents_bytes : (q : ℕ) → Width q → (b : List ℕ) (h : History) → Represents q b h → b ≡ bytes_of q h
unfolding bytes_of
represents_bytes q width b h k = sym (encode_view_over q width b k.bytes.long k.bytes.small) ∙ ap (encode_over q) k.shows

-- From any table that represents a history, a list of calls on its kind of table agrees with the history, and the table represents it afterwards.
pub represents_run : (q : ℕ) → Width q → (calls : List Call) → Each (OfKind q) calls → (b : List ℕ) (h : History) → Represents q b h → Represents q (table_after q b calls) (history_after h calls)
unfolding after_calls
represents_run q width [] kinds b h k = k
represents_run q width (a ∷ more) (call_more kind kinds) b h k = represents_run q width more kinds (table_step q b a).state (history_step h a).state (represents_step q width b h k a kind).represented

pub represents_results : (q : ℕ) → Width q → (calls : List Call) → Each (OfKind q) calls → (b : List ℕ) (h : History) → Represents q b h → table_results q b calls ≡ history_results h calls
unfolding call_results
represents_results q width [] kinds b h k = refl
represents_results q width (a ∷ more) (call_more kind kinds) b h k =
    let s = represents_step q width b h k a kind in ap₂ ◌∷◌ s.result (represents_results q width more kinds (table_step q b a).state (history_step h a).state s.represented)

pub represents_agrees : (q : ℕ) → Width q → (calls : List Call) → Each (OfKind q) calls → (b : List ℕ) (h : History) → Represents q b h → Agrees q b h calls
represents_agrees q width calls kinds b h k =
    let after = represents_run q width calls kinds b h k in record { bytes = represents_bytes q width _ _ after; results = represents_results q width calls kinds b h k; valid = after.valid; refused = λ before a more e. refused_within q before b a }

-- a making of a dimension from 1 to 8 is accepted on any table of the right length
pub making_accepted : (q : ℕ) (b : List ℕ) (D : ℕ) → length b ≡ length_of q → 1 ≤ D → D ≤ largest_dimension → Accepted q b (making D)
unfolding result_of call_tests
making_accepted q b D long l m =
    let inside : not (leb 1 D && leb D 8) ≡ false = ap not (ap₂ ◌&&◌ (le-leb 1 D l) (le-leb D 8 m)) in
    ap (λ (g : CallResult). g.number) ((table_step_lem q b (making D)).result (making_stopped q b long D ∙ passed 2 [] inside ∙ accepted))

-- After an accepted making any bytes represent the history, whatever the table and the history were.
module _ (q : ℕ) (b : List ℕ) (h : History) (D : ℕ) (e : Accepted q b (making D)) where
  pub making_passes : stopped_on h (making D) ≡ 0
  unfolding stopped_on call_tests
  making_passes = none_stops q b (making D) ((table_step_lem q b (making D)).passed e)

  pub made_result : (table_step q b (making D)).result ≡ (history_step h (making D)).result
  unfolding result_of
  made_result = (table_step_lem q b (making D)).result ((table_step_lem q b (making D)).passed e) ∙ sym ((history_step_lem h (making D)).result making_passes)

  made_history : (history_step h (making D)).state ≡ new_history D
  unfolding applied
  made_history = (history_step_lem h (making D)).accepted (sym (ap (λ (g : CallResult). g.number) made_result) ∙ e)

  pub made_clears : (history_step h (making D)).state.circuits ≡ []
  made_clears = rw made_history

pub made_represents : (q : ℕ) → Width q → (b : List ℕ) (h : History) (D : ℕ) → Accepted q b (making D) → Represents q (table_step q b (making D)).state (history_step h (making D)).state
made_represents q width b h D e =
    let m = made_shows q width b D ((table_step_lem q b (making D)).passed e) in
    rw (made_history q b h D e) record { bytes = m.bytes; shows = m.shows ∙ sym (made_view D); valid = made_valid D m.least m.most }

-- History 11. From any bytes, after an accepted making and any list of calls, refused ones included, with the setting of a fold mask on wide tables alone.
pub demand_3 : (q : ℕ) → Width q → (b : List ℕ) (h : History) (D : ℕ) → Accepted q b (making D) → (calls : List Call) → Each (OfKind q) calls → Agrees q b h (making D ∷ calls)
unfolding after_calls call_results
demand_3 q width b h D e calls kinds =
    let r = represents_agrees q width calls kinds (table_step q b (making D)).state (history_step h (making D)).state (made_represents q width b h D e) in
    record { bytes = r.bytes; results = ap₂ ◌∷◌ (made_result q b h D e) r.results; valid = r.valid; refused = λ before a more e. refused_within q before b a }
