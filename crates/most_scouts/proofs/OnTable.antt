-- The scouts that an open answers, of any table and whatever its bytes.
-- Assumes nothing.
use mathlib.Core.Path.{◌≡◌, refl}
use mathlib.Core.Logic.{◌⊎◌, ⊎_elim}
use mathlib.Core.Bool.{Bool}
use mathlib.Core.List.{List}
use Prim.Native.Nat.{ℕ, ◌+◌, ◌≤◌}
use native.Mathlib.Omega.{arith}
use native.Mathlib.Nat.{le_trans}
use lib.ListN.{get_or}
use Rattle.cube.specs.Cube.{largest_dimension}
use Rattle.common.proofs.Tests.{same?}
use Rattle.paths.specs.Send.{Outcome, acknowledged, route_rejected, receive_rejected}
use Rattle.table.specs.View.{view, receive, shape_of}
use Rattle.answers.specs.SendOnTable.{free_in, waiting_helps, send_in}
use Rattle.ownership.specs.Calls.{opening, CallResult, scouts_of, answered, result_of}
use Rattle.ownership.specs.OnTable.{facts_of, stopped_at, table_step}
use Rattle.ownership.specs.Allowed.{Allowed}
use Rattle.ownership.proofs.Allowed.{allowed}
use Rattle.ownership.proofs.Stops.{none_stops, none_stops_lent, pass_tests}
use Rattle.ownership.proofs.Steps.{table_step_lem}
use Rattle.most_scouts.specs.Unarrived.{most_sent, most_unfolded, most_folded}
use Rattle.most_scouts.specs.Promises.{open_scouts, RejectedCounted, RejectedMost, RejectedMostFolded, OpensCounted, OpensMost, OpensMostFolded, OpensBelowPapers}
use Rattle.most_scouts.proofs.Sends.{Bounds, send_bounds}
use Rattle.most_scouts.proofs.Numbers.{unfolded_most, folded_most, papers_bound}

-- what an open gives is within n
abbrev Said : ℕ → CallResult → Type 0
Said n g = (((g.number ≡ 10) ⊎ (g.number ≡ 22)) → scouts_of g ≤ n) × (scouts_of g ≤ n + 1)

answered_said : (helps : Bool) (o : Outcome) (m n : ℕ) → Bounds n (record { outcome = o; scouts = m }) → Said n (answered helps o m)
unfolding answered
answered_said helps (acknowledged w k) m n h = (⊎_elim (λ e. absurd (omega (arith, e))) (λ e. absurd (omega (arith, e))), omega (arith, h.1))
answered_said helps route_rejected m n h = ((λ e. h.0 refl), omega (arith, h.1))
answered_said helps receive_rejected m n h = (⊎_elim (λ e. absurd (omega (arith, e))) (λ e. absurd (omega (arith, e))), omega (arith, h.1))

module _ (q : ℕ) (b : List ℕ) (s c t y v : ℕ) where
  abbrev most : ℕ
  most = most_sent (shape_of (view b)) s t

  -- an open that no test stops is on a table of dimension 8 at most
  pub fits : stopped_at q b (opening s c t y v) ≡ 0 → (view b).dimension ≤ largest_dimension
  unfolding view
  fits e = (pass_tests q b (none_stops_lent q b (opening s c t y v) refl e)).2

  passed_said : stopped_at q b (opening s c t y v) ≡ 0 → Said most (table_step q b (opening s c t y v)).result
  unfolding Allowed result_of facts_of
  passed_said e =
      let r = allowed (facts_of (view b)) (opening s c t y v) (none_stops q b (opening s c t y v) e) in
      rw ((table_step_lem q b (opening s c t y v)).result e)
      (answered_said (waiting_helps (view b) s t y v) (send_in (view b) s t y v).outcome (send_in (view b) s t y v).scouts most
      (send_bounds (shape_of (view b)) (fits e) (free_in (view b)) s t r.0 r.1 (receive (view b) t) y v))

  -- a stopped open has sent none
  none_sent : (n : ℕ) → (stopped_at q b (opening s c t y v) ≡ 0 → Said n (table_step q b (opening s c t y v)).result) → Said n (table_step q b (opening s c t y v)).result
  none_sent n passed = ⊎_elim passed (λ f. rw ((table_step_lem q b (opening s c t y v)).stopped f) ((λ e. omega arith), omega arith)) (same? (stopped_at q b (opening s c t y v)) 0)

  said_more : (m n : ℕ) → m ≤ n → Said m (table_step q b (opening s c t y v)).result → Said n (table_step q b (opening s c t y v)).result
  said_more m n h i = ((λ e. le_trans (i.0 e) h), le_trans i.1 (omega (arith, h)))

  counted : Said most (table_step q b (opening s c t y v)).result
  counted = none_sent most passed_said

  by_unfolded : (view b).fold ≡ 0 → Said (get_or most_unfolded (view b).dimension 0) (table_step q b (opening s c t y v)).result
  by_unfolded z = none_sent _ (λ e. said_more most _ (unfolded_most (shape_of (view b)) t (fits e) s z) (passed_said e))

  by_folded : Said (get_or most_folded (view b).dimension 0) (table_step q b (opening s c t y v)).result
  by_folded = none_sent _ (λ e. said_more most _ (folded_most (shape_of (view b)) t (fits e) s) (passed_said e))

  below_papers : (view b).fold ≡ 0 → open_scouts q b s c t y v ≤ 123300
  below_papers z =
      ⊎_elim (λ e. le_trans (by_unfolded z).1 (papers_bound (view b).dimension (fits e)))
      (λ f. rw ((table_step_lem q b (opening s c t y v)).stopped f) (omega arith)) (same? (stopped_at q b (opening s c t y v)) 0)

pub rejected_counted : RejectedCounted
rejected_counted q b s c t y v = (counted q b s c t y v).0

pub rejected_most : RejectedMost
rejected_most q b s c t y v e z = (by_unfolded q b s c t y v z).0 e

pub rejected_most_folded : RejectedMostFolded
rejected_most_folded q b s c t y v = (by_folded q b s c t y v).0

pub opens_counted : OpensCounted
opens_counted q b s c t y v = (counted q b s c t y v).1

pub opens_most : OpensMost
opens_most q b s c t y v z = (by_unfolded q b s c t y v z).1

pub opens_most_folded : OpensMostFolded
opens_most_folded q b s c t y v = (by_folded q b s c t y v).1

pub opens_below_papers : OpensBelowPapers
opens_below_papers q b s c t y v = below_papers q b s c t y v
