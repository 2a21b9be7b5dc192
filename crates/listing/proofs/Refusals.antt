-- Rules about what a printed line shows of a refusal, and of a line that cannot be read, as theorems over its definition.
-- Assumes nothing.
use mathlib.Core.Path.{◌≡◌, refl, ap, sym, ◌∙◌}
use mathlib.Core.Logic.{◌≢◌, ◌⊎◌, inl, inr, ⊎_elim, ◌↔◌}
use mathlib.Core.Bool.{Bool, true, false, cond, not, ◌&&◌, false≢true}
use mathlib.Core.List.{List, [], ◌∷◌, append-nil}
use mathlib.Core.Option.{Option, none, some}
use Prim.Native.Nat.{ℕ, ◌<◌}
use lib.Dec.{eqb, ltb, lit<}
use borrow.Author.Rules.{rules}
use borrow.Author.Tests.{ne_eqb, eqb-true, eqb-false, ltb-true, not-true}
use Rattle.layout.specs.Layout.{wide_ports}
use Rattle.common.specs.Tests.{Test, test, refusal}
use Rattle.common.proofs.Tests.{same?, both, refused, passed, accepted as tests_accepted}
use Rattle.paths.specs.Send.{Outcome, acknowledged, route_rejected, receive_rejected}
use Rattle.table.specs.View.{View}
use Rattle.answers.specs.SendOnTable.{send_in}
use Rattle.soundness.specs.TableTests.{table_tests}
use Rattle.judging.specs.Judged.{judge_tests}
use Rattle.ownership.specs.Calls.{Call, making, blocking, unblocking, opening, closing, tracing, arming, disarming, opening_all, booking, judging, folding, opening_of, answered, carries_scouts, call_tests, result_of, no_job, After}
use Rattle.ownership.specs.InTurn.{single_open}
use Rattle.ownership.specs.Sends.{Send, sends_in}
use Rattle.ownership.specs.TableFacts.{facts_with, opened, job_in}
use Rattle.ownership.proofs.InTurn.{turn_number}
use Rattle.ownership.specs.OnTable.{facts_of, lent_tests, stopped_at, table_step}
use Rattle.ownership.proofs.Steps.{step_says, table_step_lem}
use Rattle.text.specs.Lines.{cut, lines}
use Rattle.text.specs.Row.{nothing, shows, in_order, rows_text}
use Rattle.input_line.specs.Line.{asks}
use Rattle.printed_line.specs.PrintedLine.{call_row, unreadable, row_for}
use Rattle.listing.specs.Listing.{rows, header, listing, printed}
use Rattle.listing.specs.Sentences.{Shown, IsOpen, WasSent}
use Rattle.input_line.proofs.Asking.{short_line}
use Rattle.listing.proofs.EightFields.{line_shown}

-- Listing 17: every field but line and answer is `-`.
pub unreadable_line : {S : Type 0} (makes : S → Call → After S) (s : S) (n : ℕ) (l : List ℕ) → asks l ≡ none
    → in_order (row_for makes s n (asks l)) ≡ shows n ∷ nothing ∷ shows 20 ∷ nothing ∷ nothing ∷ nothing ∷ nothing ∷ nothing ∷ []
unfolding in_order row_for unreadable
unreadable_line makes s n l e = ap (λ (a : Option Call). in_order (row_for makes s n a)) e

-- Listing 14, Listing 15: a refused S shows `-` for receive channel and ports.
module _ {S : Type 0} (makes : S → Call → After S) (state : S) (line s c t y v : ℕ)
    (refused : (makes state (opening s c t y v)).result.number ≢ 0) where
  pub refused_row : ((row_for makes state line (some (opening s c t y v))).receive ≡ nothing)
      × ((row_for makes state line (some (opening s c t y v))).ports ≡ nothing)
  unfolding row_for call_row
  refused_row = let e = ne_eqb (makes state (opening s c t y v)).result.number 0 refused in (rw e, rw e)

-- Listing 14: the field of the scouts shows a number exactly where S answered 0, 10, 11 or 22.
shown_if : (b : Bool) (n : ℕ) → Shown (cond b (shows n) nothing) ↔ (b ≡ true)
unfolding Shown
shown_if true n = ((λ p. refl), (λ e. tt))
shown_if false n = ((λ p. absurd p), (λ e. absurd (false≢true e)))

-- the answers that carry scouts, by their numbers
was_sent : (n : ℕ) → carries_scouts n ≡ true → (n ≡ 0) ⊎ (n ≡ 10) ⊎ (n ≡ 11) ⊎ (n ≡ 22)
unfolding carries_scouts
was_sent n e =
    ⊎_elim inl (λ f. inr (⊎_elim inl (λ g. inr (⊎_elim inl (λ h. inr (eqb-true n 22 (rw (ne_eqb n 0 f, ne_eqb n 10 g, ne_eqb n 11 h) at e))) (same? n 11))) (same? n 10)))
    (same? n 0)

is_sent : (n : ℕ) → (n ≡ 0) ⊎ (n ≡ 10) ⊎ (n ≡ 11) ⊎ (n ≡ 22) → carries_scouts n ≡ true
unfolding carries_scouts
is_sent n (inl e) = rw e
is_sent n (inr (inl e)) = rw e
is_sent n (inr (inr (inl e))) = rw e
is_sent n (inr (inr (inr e))) = rw e

pub scouts_row : {S : Type 0} (makes : S → Call → After S) (state : S) (line : ℕ) (a : Call)
    → Shown (row_for makes state line (some a)).scouts ↔ WasSent a (makes state a).result
unfolding row_for call_row Shown IsOpen
scouts_row makes state line (making D) = ((λ p. absurd p), (λ p. p.0))
scouts_row makes state line (blocking n p) = ((λ p. absurd p), (λ p. p.0))
scouts_row makes state line (unblocking n p) = ((λ p. absurd p), (λ p. p.0))
scouts_row makes state line (opening s c t y v) = ((λ p. (tt, was_sent _ ((shown_if _ _).0 p))), (λ p. (shown_if _ _).1 (is_sent _ p.1)))
scouts_row makes state line (closing s c) = ((λ p. absurd p), (λ p. p.0))
scouts_row makes state line (tracing s c buffer) = ((λ p. absurd p), (λ p. p.0))
scouts_row makes state line (arming n k) = ((λ p. absurd p), (λ p. p.0))
scouts_row makes state line (disarming n k) = ((λ p. absurd p), (λ p. p.0))
scouts_row makes state line (opening_all sends) = ((λ p. absurd p), (λ p. p.0))
scouts_row makes state line (booking ports index) = ((λ p. absurd p), (λ p. p.0))
scouts_row makes state line (judging ports index circuits hops) = ((λ p. absurd p), (λ p. p.0))
scouts_row makes state line (folding mask) = ((λ p. absurd p), (λ p. p.0))

-- Refusals 20: no call answers 20, only a line that cannot be read does. And every answer of a call has at most two digits. Both are one test of a number,
abbrev is_answer : ℕ → Bool
is_answer n = ltb n 100 && not (eqb n 20)

is_answer_lem : (n : ℕ) → is_answer n ≡ true → (n < 100) × (n ≢ 20)
is_answer_lem n e = let r = both (ltb n 100) (not (eqb n 20)) e in (ltb-true n 100 r.0, eqb-false n 20 (not-true (eqb n 20) r.1))

-- which the numbers of all tests of a call pass,
other : (b : Bool) (n : ℕ) (ts : List Test) → is_answer n ≡ true → is_answer (refusal ts) ≡ true → is_answer (refusal (test b n ∷ ts)) ≡ true
other true n ts h k = rw (refused n ts refl) h
other false n ts h k = rw (passed n ts refl) k

nil : is_answer (refusal []) ≡ true
nil = rw tests_accepted refl

stopped_by : (b : List ℕ) (a : Call) → is_answer (stopped_at wide_ports b a) ≡ true
unfolding stopped_at lent_tests call_tests table_tests
stopped_by b (making D) = search (other, nil, rules) depth 12
stopped_by b (blocking n p) = search (other, nil, rules) depth 12
stopped_by b (unblocking n p) = search (other, nil, rules) depth 12
stopped_by b (opening s c t y v) = search (other, nil, rules) depth 12
stopped_by b (closing s c) = search (other, nil, rules) depth 12
stopped_by b (tracing s c buffer) = search (other, nil, rules) depth 12
stopped_by b (arming n k) = search (other, nil, rules) depth 12
stopped_by b (disarming n k) = search (other, nil, rules) depth 12
stopped_by b (opening_all sends) = search (other, nil, rules) depth 12
stopped_by b (booking ports index) = search (other, nil, rules) depth 12
stopped_by b (judging ports index circuits hops) = unfold judge_tests in search (other, nil, rules) depth 16
stopped_by b (folding mask) = search (other, nil, rules) depth 12

-- and what a call answers that none of them stops
sent_answer : (helps : Bool) (o : Outcome) (n : ℕ) → is_answer (answered helps o n).number ≡ true
unfolding answered
sent_answer helps (acknowledged w k) n = refl
sent_answer true route_rejected n = refl
sent_answer false route_rejected n = refl
sent_answer helps receive_rejected n = refl

-- also a job, whose number is that of a single open
open_answer : (v : View) (x : Send) → is_answer (single_open (facts_with no_job) opened v x).result.number ≡ true
unfolding result_of call_tests
open_answer v x =
    let n = refusal (call_tests (facts_with no_job v) (opening_of x)) in
    let says = step_says v (opened v x) (facts_with no_job v) n (opening_of x) in
    let tests : is_answer n ≡ true = search (other, nil, rules) depth 12 in
    ⊎_elim (λ e. rw (says.result e) (sent_answer _ (send_in v x.source x.target x.type x.vector).outcome _)) (λ f. rw (says.stopped f) tests) (same? n 0)

job_answer : (v : View) (xs : List Send) → is_answer (job_in v xs).result.number ≡ true
unfolding job_in
job_answer v xs = turn_number (single_open (facts_with no_job) opened) (λ w. Unit) (λ w x i e. tt) (λ n. is_answer n ≡ true) refl (λ w x i. open_answer w x) xs v tt

result_answer : (v : View) (a : Call) → is_answer (result_of (facts_of v) a).number ≡ true
unfolding result_of facts_of
result_answer v (making D) = refl
result_answer v (blocking n p) = refl
result_answer v (unblocking n p) = refl
result_answer u (opening s c t y v) = sent_answer _ (send_in u s t y v).outcome _
result_answer v (closing s c) = refl
result_answer v (tracing s c buffer) = refl
result_answer v (arming n k) = refl
result_answer v (disarming n k) = refl
result_answer v (opening_all sends) = job_answer v (sends_in sends)
result_answer v (booking ports index) = refl
result_answer v (judging ports index circuits hops) = refl
result_answer v (folding mask) = refl

call_answer : (b : List ℕ) (a : Call) → is_answer (table_step wide_ports b a).result.number ≡ true
call_answer b a =
    ⊎_elim (λ e. rw ((table_step_lem wide_ports b a).result e) (result_answer _ a)) (λ e. rw ((table_step_lem wide_ports b a).stopped e) (stopped_by b a)) (same? (stopped_at wide_ports b a) 0)

pub two_digits : (b : List ℕ) (a : Call) → (table_step wide_ports b a).result.number < 100
two_digits b a = (is_answer_lem _ (call_answer b a)).0

pub never_twenty : (b : List ℕ) (a : Call) → (table_step wide_ports b a).result.number ≢ 20
never_twenty b a = (is_answer_lem _ (call_answer b a)).1

-- Listing 17: a printed line whose answer is 20 is that of a line that cannot be read.
same_shown : {m n : ℕ} → shows m ≡ shows n → m ≡ n
same_shown e = cc

pub twenty : (b : List ℕ) (n : ℕ) (l : List ℕ) → (row_for (table_step wide_ports) b n (asks l)).answer ≡ shows 20 → row_for (table_step wide_ports) b n (asks l) ≡ unreadable n
twenty b n l e = go (asks l) e
  where
    go : (a : Option Call) → (row_for (table_step wide_ports) b n a).answer ≡ shows 20 → row_for (table_step wide_ports) b n a ≡ unreadable n
    go none k = unfold row_for in refl
    go (some a) k = absurd (never_twenty b a (unfold row_for in same_shown (sym (line_shown n a _ _).1 ∙ k)))

-- Listing 5: an empty line cannot be read. Listing 2: an empty input prints the header alone.
pub empty_line : asks [] ≡ none
empty_line = short_line [] (lit< tt)

pub empty_input : printed [] ≡ header
unfolding printed listing lines cut rows rows_text
empty_input = append-nil header
