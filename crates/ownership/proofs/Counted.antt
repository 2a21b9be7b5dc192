-- What the calls of a list count as in the history: a job as its single opens, or as nothing. The history is the same after both.
-- Assumes nothing.
use mathlib.Core.Path.{◌≡◌, refl, ap, ◌∙◌}
use mathlib.Core.Logic.{◌⊎◌, inl, inr, ⊎_elim}
use mathlib.Core.Bool.{Bool, true, false, cond}
use mathlib.Core.List.{List, [], ◌∷◌, ◌++◌, map}
use Prim.Native.Nat.{ℕ}
use lib.Dec.{eqb}
use borrow.Author.Tests.{eq-eqb, ne_eqb}
use Rattle.common.proofs.Tests.{same?}
use Rattle.ownership.specs.Sends.{Send, sends_in}
use Rattle.ownership.specs.Calls.{Call, making, blocking, unblocking, opening, closing, tracing, arming, disarming, opening_all, booking, judging, folding, opening_of, call_tests, result_of, After, call_on}
use Rattle.ownership.specs.InTurn.{Job, in_turn, after_job}
use Rattle.ownership.specs.History.{History, facts_on, stopped_on, job_on, applied, history_step}
use Rattle.ownership.specs.Agrees.{history_after, history_results, after_calls, call_results}
use Rattle.ownership.specs.Closing.{Each, no_call, call_more}
use Rattle.ownership.specs.StillOpen.{counts_as, with_answers, counted}
use Rattle.ownership.proofs.InTurn.{turn_accepted, turn_refused}
use Rattle.ownership.proofs.Steps.{history_step_lem}

-- a call that counts as itself, whatever it answers: every one that is no job
abbrev pub Single : Call → Type 0
Single a = (n : ℕ) → counts_as a n ≡ a ∷ []

single_or_job : (a : Call) → Single a ⊎ ((sends : List ℕ) × (a ≡ opening_all sends))
unfolding counts_as
single_or_job (making D) = inl (λ n. refl)
single_or_job (blocking m p) = inl (λ n. refl)
single_or_job (unblocking m p) = inl (λ n. refl)
single_or_job (opening s c t y v) = inl (λ n. refl)
single_or_job (closing s c) = inl (λ n. refl)
single_or_job (tracing s c buffer) = inl (λ n. refl)
single_or_job (arming m k) = inl (λ n. refl)
single_or_job (disarming m k) = inl (λ n. refl)
single_or_job (booking ports index) = inl (λ n. refl)
single_or_job (judging ports index circuits hops) = inl (λ n. refl)
single_or_job (folding mask) = inl (λ n. refl)
single_or_job (opening_all sends) = inr (sends, refl)

-- A job in the history is its single calls in turn.
abbrev pub enters : History → Send → After History
enters h x = history_step h (opening_of x)

pub job_is_calls : (h : History) (xs : List Send) → job_on h xs ≡ in_turn enters h xs
unfolding job_on history_step stopped_on call_tests facts_on applied call_on result_of
job_is_calls h xs = refl

-- calls with one number
abbrev with_number : ℕ → List Call → List (Call × ℕ)
with_number n calls = map (λ (x : Call). (x, n)) calls

-- some calls at the front of a list: the history behind them, and the calls of the list with their numbers
record FrontCounts (h next : History) (n : ℕ) (front calls : List Call) : Type 0 where
  history : history_after h (front ++ calls) ≡ history_after next calls
  numbers : with_answers (front ++ calls) (history_results h (front ++ calls)) ≡ with_number n front ++ with_answers calls (history_results next calls)

no_front : (h : History) (n : ℕ) (calls : List Call) → FrontCounts h h n [] calls
no_front h n calls = record { history = refl; numbers = refl }

-- a single call
one_front : (h : History) (a : Call) → Single a → (calls : List Call) → FrontCounts h (history_step h a).state (history_step h a).result.number (a ∷ []) calls
unfolding after_calls call_results with_answers
one_front h a single calls = record { history = refl; numbers = rw (single (history_step h a).result.number) }

-- the single opens of an accepted job
opens_front : (xs : List Send) (h : History) → (in_turn enters h xs).result.number ≡ 0 → (calls : List Call) → FrontCounts h (in_turn enters h xs).state 0 (map opening_of xs) calls
unfolding after_calls call_results with_answers counts_as
opens_front [] h e calls = unfold in_turn in no_front h 0 calls
opens_front (x ∷ more) h e calls =
    let z = first h x more e in
    let turn = turn_accepted enters h x more z in
    let rest = opens_front more (enters h x).state (rw turn at e) calls in
    rw turn (record { history = rest.history; numbers = rw z (ap ((opening_of x, 0) ∷◌) rest.numbers) })
  where
    first : (h : History) (x : Send) (more : List Send) → (in_turn enters h (x ∷ more)).result.number ≡ 0 → (enters h x).result.number ≡ 0
    first h x more e = ⊎_elim (λ z. z) (λ f. absurd (f (rw (turn_refused enters h x more f) at e))) (same? (enters h x).result.number 0)

-- an accepted job: its sends are acknowledged, and the history is that after them
job_entered : (h : History) (sends : List ℕ) → (history_step h (opening_all sends)).result.number ≡ 0
    → ((in_turn enters h (sends_in sends)).result.number ≡ 0) × ((history_step h (opening_all sends)).state ≡ (in_turn enters h (sends_in sends)).state)
unfolding applied result_of facts_on after_job
job_entered h sends e =
    let g = history_step_lem h (opening_all sends) in
    let all : (job_on h (sends_in sends)).result.number ≡ 0 = rw (g.result (g.passed e)) at e in
    (rw (job_is_calls h (sends_in sends)) at all, g.accepted e ∙ rw (eq-eqb _ 0 all) (ap (λ (j : Job History). j.state) (job_is_calls h (sends_in sends))))

-- what any call counts as
call_front : (h : History) (a : Call) (calls : List Call)
    → FrontCounts h (history_step h a).state (history_step h a).result.number (counts_as a (history_step h a).result.number) calls
call_front h a calls = ⊎_elim (λ single. rw (single (history_step h a).result.number) (one_front h a single calls)) (λ k. rw k.1 (job k.0)) (single_or_job a)
  where
    job : (sends : List ℕ) → FrontCounts h (history_step h (opening_all sends)).state (history_step h (opening_all sends)).result.number (counts_as (opening_all sends) (history_step h (opening_all sends)).result.number) calls
    job sends =
        unfold counts_as in
        ⊎_elim (λ e. let r = job_entered h sends e in rw (e, r.1) (opens_front (sends_in sends) h r.0 calls))
        (λ f. rw (ne_eqb _ 0 f, (history_step_lem h (opening_all sends)).refused f) (no_front h _ calls)) (same? (history_step h (opening_all sends)).result.number 0)

-- Jobs 8: the history after a list of calls is that after what they count as,
pub counted_after : (calls : List Call) (h : History) → history_after h (counted h calls) ≡ history_after h calls
unfolding after_calls counted
counted_after [] h = refl
counted_after (a ∷ more) h = (call_front h a (counted (history_step h a).state more)).history ∙ counted_after more (history_step h a).state

-- and so are the calls with their numbers.
pub counted_numbers : (calls : List Call) (h : History) → with_answers (counted h calls) (history_results h (counted h calls)) ≡ with_answers calls (history_results h calls)
unfolding call_results with_answers counted
counted_numbers [] h = refl
counted_numbers (a ∷ more) h =
    (call_front h a (counted (history_step h a).state more)).numbers ∙ ap (with_number (history_step h a).result.number (counts_as a (history_step h a).result.number) ++◌) (counted_numbers more (history_step h a).state)

-- What they count as are single calls.
each_append : {P : Call → Type 0} {xs ys : List Call} → Each P xs → Each P ys → Each P (xs ++ ys)
each_append no_call more = more
each_append (call_more p rest) more = call_more p (each_append rest more)

counts_single : (a : Call) (n : ℕ) → Each Single (counts_as a n)
counts_single a n = ⊎_elim (λ single. rw (single n) (call_more single no_call)) (λ k. rw k.1 (unfold counts_as in go (sends_in k.0) (eqb n 0))) (single_or_job a)
  where
    itself : (x : Send) → Single (opening_of x)
    itself x m = unfold counts_as in refl

    all : (xs : List Send) → Each Single (map opening_of xs)
    all [] = no_call
    all (x ∷ more) = call_more (itself x) (all more)

    go : (xs : List Send) (b : Bool) → Each Single (cond b (map opening_of xs) [])
    go xs true = all xs
    go xs false = no_call

pub counted_single : (calls : List Call) (h : History) → Each Single (counted h calls)
unfolding counted
counted_single [] h = no_call
counted_single (a ∷ more) h = each_append (counts_single a _) (counted_single more (history_step h a).state)

-- A list of single calls counts as itself.
pub single_counted : {calls : List Call} → Each Single calls → (h : History) → counted h calls ≡ calls
unfolding counted
single_counted no_call h = refl
single_counted (call_more {a} single more) h = rw (single (history_step h a).result.number) (ap (a ∷◌) (single_counted more (history_step h a).state))
