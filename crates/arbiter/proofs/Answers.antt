-- What a call answers, case by case: refused, with no request, and with some.
-- Assumes nothing.
use mathlib.Core.Path.{◌≡◌, refl, ap, sym, ◌∙◌}
use mathlib.Core.Logic.{◌≢◌, ⊎_elim}
use mathlib.Core.Bool.{Bool, true, false, ◌||◌}
use mathlib.Core.List.{[]}
use Prim.Native.Nat.{ℕ, ◌≤◌, ◌<◌, ◌^◌}
use native.Mathlib.Omega.{arith}
use lib.Dec.{leb, ltb}
use lib.ListN.{get_or}
use lib.Count.{count_trailing_zeros}
use borrow.Author.Tests.{lt-ltb, le-ltb, le-leb, lt-leb, ltb-false, leb-false, ne_eqb}
use Rattle.common.specs.Tests.{refusal}
use Rattle.common.proofs.Lists.{keep_none}
use Rattle.common.proofs.Tests.{refused, passed, accepted, or_left, or_right, neither, below_or, clash}
use Rattle.arbiter.specs.Arbiter as A
use Rattle.arbiter.specs.Arbiter.{Choice, is_asking, order, chosen, arbiter_tests, arbitrated, choice, last_after}
use Rattle.arbiter.specs.ArbiterContracts.{Requested}
use Rattle.arbiter.specs.Chosen.{Chosen, CallSays, bad_request, bad_record, nobody_asks, one_served}
use Rattle.arbiter.proofs.Order.{chosen_says, chosen_is}
use Rattle.common.proofs.LowestBit.{lowest_set}
use Rattle.common.specs.FirstAfter.{FirstAfter}
use Rattle.std.proofs.Common.{rules, Option, Some, None, Ok, MatchOption, IfSome}
use Rattle.arbiter.proofs.Requests.{asks_zero, asks_high, asks_below, asks_some, high_asks, none_asks, found}

module _ (last requests : ℕ) where
  -- a call is refused where its one test applies, and accepted where it does not
  stopped : leb (2 ^ 26) requests || ltb 25 last ≡ true → arbitrated last requests ≡ A.refused_choice last 31
  unfolding arbitrated
  stopped e = let number : refusal (arbiter_tests last requests) ≡ 31 = unfold arbiter_tests in refused 31 [] e in rw number

  goes_on : leb (2 ^ 26) requests || ltb 25 last ≡ false → arbitrated last requests ≡ A.accepted_choice last (chosen last requests)
  unfolding arbitrated
  goes_on e = let number : refusal (arbiter_tests last requests) ≡ 0 = unfold arbiter_tests in passed 31 [] e ∙ accepted in rw number

  pub refused_requests : 2 ^ 26 ≤ requests → arbitrated last requests ≡ A.refused_choice last 31
  refused_requests h = stopped (or_left (ltb 25 last) (le-leb (2 ^ 26) requests h))

  pub refused_record : 25 < last → arbitrated last requests ≡ A.refused_choice last 31
  refused_record h = stopped (or_right (leb (2 ^ 26) requests) (lt-ltb 25 last h))

  pub allowed : last < 26 → requests < 2 ^ 26 → arbitrated last requests ≡ A.accepted_choice last (chosen last requests)
  allowed h l = goes_on (rw (lt-leb (2 ^ 26) requests l, le-ltb 25 last (omega arith)))

  -- the number is 0 exactly for a stored requester and requests of requesters
  pub accepted_for : (arbitrated last requests).number ≡ 0 → (last < 26) × (requests < 2 ^ 26)
  accepted_for e = go (leb (2 ^ 26) requests || ltb 25 last) refl
    where
      go : (b : Bool) → leb (2 ^ 26) requests || ltb 25 last ≡ b → (last < 26) × (requests < 2 ^ 26)
      go true q = absurd (let z : 31 ≡ 0 = sym (ap (λ (c : Choice). c.number) (stopped q)) ∙ e in omega arith)
      go false q = let r = neither (leb (2 ^ 26) requests) (ltb 25 last) q in let a = leb-false (2 ^ 26) requests r.0 in let b = ltb-false 25 last r.1 in (omega arith, omega arith)

  -- any other number is 31, and the record stays
  pub refused_else : (arbitrated last requests).number ≢ 0 → arbitrated last requests ≡ A.refused_choice last 31
  refused_else e = go (leb (2 ^ 26) requests || ltb 25 last) refl
    where
      go : (b : Bool) → leb (2 ^ 26) requests || ltb 25 last ≡ b → arbitrated last requests ≡ A.refused_choice last 31
      go true q = stopped q
      go false q = absurd (e (ap (λ (c : Choice). c.number) (goes_on q) ∙ (unfold A.accepted_choice in refl)))

-- with no request nobody is served
pub nobody : (last : ℕ) → last < 26 → arbitrated last 0 ≡ record { number = 0; requester = 26; last = last }
nobody last h =
    let none : chosen last 0 ≡ 26 = unfold chosen in ap (λ xs. get_or xs 0 26) (keep_none (is_asking 0) (order last) (λ y m. asks_zero y)) in
    allowed last 0 h (omega arith) ∙ rw none (unfold A.accepted_choice in refl)

-- with some, one of them is
pub served : (last requests : ℕ) → Requested last requests → Chosen last requests (chosen last requests)
served last requests h =
    let on : is_asking requests (count_trailing_zeros 26 requests) ≡ true = unfold is_asking in lowest_set 26 requests (λ e. omega (arith, h.some)) h.inside in
    chosen_says last h.stored requests (count_trailing_zeros 26 requests) (asks_below 26 requests _ h.inside on) on

-- the record is then the requester
pub recorded : (last requests : ℕ) → Requested last requests → arbitrated last requests ≡ record { number = 0; requester = chosen last requests; last = chosen last requests }
recorded last requests h =
    let below = (served last requests h).requester in
    allowed last requests h.stored h.inside ∙ (unfold A.accepted_choice in rw (ne_eqb (chosen last requests) 26 (λ e. omega arith)))

-- what the code answers: the first bit after the record, if there is one
pub answered : (last requests : ℕ) → last < 26 → requests < 2 ^ 26 → (first : Option ℕ) → MatchOption first (requests ≡ 0) (FirstAfter requests last)
    → choice (Ok first) (last_after (Ok first) last) ≡ arbitrated last requests
answered last requests stored inside None z = sym (ap (arbitrated last) z ∙ nobody last stored)
answered last requests stored inside (Some r) f =
    let c = found last requests stored inside f in
    let h : Requested last requests = record { stored = stored; inside = inside; some = asks_some requests r c.requested } in
    sym (rw (← chosen_is last stored requests r c) (recorded last requests h))

pub one_of_them : (last requests : ℕ) → last < 26 → requests < 2 ^ 26 → (first : Option ℕ) → MatchOption first (requests ≡ 0) (FirstAfter requests last) → IfSome first (λ r. r < 26)
one_of_them last requests stored inside None z = search rules
one_of_them last requests stored inside (Some r) f = let c = found last requests stored inside f in search rules

-- A call gives what CallSays says,
pub call_says : (last requests : ℕ) → CallSays last requests (arbitrated last requests)
call_says last requests =
    ⊎_elim
    (λ inside.
    ⊎_elim
    (λ stored.
    ⊎_elim
    (λ some. let h : Requested last requests = record { stored = stored; inside = inside; some = some } in rw (recorded last requests h) (one_served _ (omega arith) (λ j l. asks_high 26 requests j inside l) (served last requests h)))
    (λ (none : requests ≤ 0). let z : requests ≡ 0 = omega arith in rw (z, nobody last stored) (nobody_asks (omega arith) asks_zero)) (below_or requests 0))
    (λ l. rw (refused_record last requests (omega arith)) (bad_record (omega arith))) (below_or 26 last))
    (λ l. let r = high_asks 26 requests l in rw (refused_requests last requests l) (bad_request r.0 r.1 r.2)) (below_or (2 ^ 26) requests)

-- and they say no more than one thing.
pub says_only : (last requests : ℕ) (c : Choice) → CallSays last requests c → arbitrated last requests ≡ c
says_only last requests _ (bad_request r h e) = refused_requests last requests (⊎_elim (λ l. absurd (clash e (asks_high 26 requests r l h))) (λ l. l) (below_or (2 ^ 26) requests))
says_only last requests _ (bad_record h) = refused_record last requests h
says_only last requests _ (nobody_asks h e) = rw (none_asks requests e) (nobody last (omega arith))
says_only last requests _ (one_served r h e c) =
    let inside : requests < 2 ^ 26 = ⊎_elim (λ l. l) (λ l. let g = high_asks 26 requests l in absurd (clash g.2 (e g.0 g.1))) (below_or (2 ^ 26) requests) in
    let h : Requested last requests = record { stored = omega arith; inside = inside; some = asks_some requests r c.requested } in
    recorded last requests h ∙ rw (chosen_is last (omega arith) requests r c)
