-- What an open of one routing type acknowledges, one of another does too: of the calls themselves, on one table, whatever its bytes.
-- Assumes nothing.
use mathlib.Core.Path.{◌≡◌, refl, sym, subst, ◌∙◌}
use mathlib.Core.Logic.{◌⊎◌, inl, inr, ⊎_elim}
use mathlib.Core.List.{List}
use Prim.Native.Nat.{ℕ, ◌≤◌}
use native.Mathlib.Omega.{arith}
use Rattle.cube.specs.Cube.{largest_dimension}
use Rattle.common.proofs.Tests.{same?}
use Rattle.paths.specs.Send.{Outcome, acknowledged, route_rejected, receive_rejected}
use Rattle.paths.specs.CubeNetwork.{attempts}
use Rattle.paths.proofs.Inclusion.{fixed_route, helix_route}
use Rattle.paths.proofs.Send.{fixed_bounded, helix_bounded, helix_folded}
use Rattle.cube.specs.Cube.{port_count}
use Rattle.layout.specs.Layout.{length_of}
use Rattle.layout.proofs.Folds.{fold_none}
use Rattle.ownership.proofs.BothKinds.{wrong_length}
use lib.ListN.{length}
use Rattle.layout.specs.Layout.{dimension_at}
use Rattle.layout.specs.Resources.{Width}
use Rattle.table.specs.View.{view, receive, shape_of}
use Rattle.answers.specs.SendOnTable.{free_in, waiting_helps, send_in}
use Rattle.answers.specs.SendSays.{SomeRoute}
use Rattle.ownership.specs.Calls.{opening, scouts_of, answered, result_of, After}
use Rattle.ownership.specs.OnTable.{facts_of, stopped_at, table_step}
use Rattle.ownership.specs.Allowed.{Allowed}
use Rattle.ownership.proofs.Allowed.{allowed, allowed_passes}
use Rattle.ownership.proofs.Stops.{none_stops, none_stops_lent, pass_tests, stopped_is}
use Rattle.ownership.proofs.Steps.{table_step_lem}
use Rattle.ownership.proofs.OnSound.{open_answers}
use mathlib.Core.Bool.{Bool}

module _ (q : ℕ) (b : List ℕ) (s c t v : ℕ) where
  -- what an open of a routing type answers
  abbrev pub number_of_type : ℕ → ℕ
  number_of_type y = (table_step q b (opening s c t y v)).result.number

  -- no test but that of the type looks at the type
  another_type : (y z : ℕ) → (z ≡ 0) ⊎ (z ≡ 1) ⊎ (z ≡ 3) ⊎ (z ≡ 4) → stopped_at q b (opening s c t y v) ≡ 0 → stopped_at q b (opening s c t z v) ≡ 0
  unfolding Allowed
  another_type y z k e =
      let p = pass_tests q b (none_stops_lent q b (opening s c t y v) refl e) in
      let r = allowed (facts_of (view b)) (opening s c t y v) (none_stops q b (opening s c t y v) e) in
      stopped_is q b p.0 p.1 p.2 p.3 (opening s c t z v)
      ∙ allowed_passes (facts_of (view b)) (opening s c t z v) (r.0, r.1, r.2, r.3, r.4, r.5, k)

  abbrev RouteOf : ℕ → Type 0
  RouteOf y = SomeRoute (view b) s t (attempts (shape_of (view b)) y v)

  more_routes : Width q → (y z : ℕ) → (z ≡ 0) ⊎ (z ≡ 1) ⊎ (z ≡ 3) ⊎ (z ≡ 4) → (RouteOf y → RouteOf z) → number_of_type y ≡ 0 → number_of_type z ≡ 0
  more_routes width y z k more n =
      let e = (table_step_lem q b (opening s c t y v)).passed n in
      let h = (open_answers q width b s c t y v e).exactly.0 n in
      (open_answers q width b s c t z v (another_type y z k e)).exactly.1 (more h.0, h.1)

  -- no open of a type reports more scouts than a send of it
  answered_scouts : (helps : Bool) (o : Outcome) (n : ℕ) → scouts_of (answered helps o n) ≡ n
  unfolding answered
  answered_scouts helps (acknowledged w k) n = refl
  answered_scouts helps route_rejected n = refl
  answered_scouts helps receive_rejected n = refl

  scouts_most : (y m : ℕ) → ((p : dimension_at b ≤ largest_dimension) → (send_in (view b) s t y v).scouts ≤ m) → scouts_of (table_step q b (opening s c t y v)).result ≤ m
  unfolding result_of facts_of
  scouts_most y m most =
      let step = table_step_lem q b (opening s c t y v) in
      ⊎_elim
      (λ e. rw (step.result e, answered_scouts (waiting_helps (view b) s t y v) (send_in (view b) s t y v).outcome (send_in (view b) s t y v).scouts) (most (pass_tests q b (none_stops_lent q b (opening s c t y v) refl e)).2))
      (λ f. rw (step.stopped f) (omega arith)) (same? (stopped_at q b (opening s c t y v)) 0)

  -- A type 3 open reports at most 9 scouts, a type 1 open at most 72 where nothing is folded, and at most 144 whatever is.
  pub fixed_open_scouts : scouts_of (table_step q b (opening s c t 3 v)).result ≤ 9
  fixed_open_scouts = scouts_most 3 9 (λ h. unfold view in fixed_bounded (shape_of (view b)) (free_in (view b)) (receive (view b) t) s v t h)

  pub helix_open_scouts : (view b).fold ≡ 0 → scouts_of (table_step q b (opening s c t 1 v)).result ≤ 72
  helix_open_scouts z = scouts_most 1 72 (λ h. helix_bounded (shape_of (view b)) (free_in (view b)) (receive (view b) t) s v t (unfold view in h) z)

  pub helix_open_scouts_folded : scouts_of (table_step q b (opening s c t 1 v)).result ≤ 144
  helix_open_scouts_folded = scouts_most 1 144 (λ h. helix_folded (shape_of (view b)) (free_in (view b)) (receive (view b) t) s v t (unfold view in h))

  -- Promises 7, of opens that differ in the type alone: what type 3 acknowledges, type 1 does too,
  pub fixed_open_in_helix : Width q → number_of_type 3 ≡ 0 → number_of_type 1 ≡ 0
  fixed_open_in_helix width = more_routes width 3 1 (inr (inl refl)) (fixed_route (shape_of (view b)) (free_in (view b)) (receive (view b) t) s v t)

  -- and what type 1 does, type 0.
  pub helix_open_in_maze : Width q → number_of_type 1 ≡ 0 → number_of_type 0 ≡ 0
  helix_open_in_maze width = more_routes width 1 0 (inl refl) (helix_route (shape_of (view b)) (free_in (view b)) (receive (view b) t) s v t)

  pub types_rise : Width q → (number_of_type 3 ≡ 0 → number_of_type 1 ≡ 0) × (number_of_type 1 ≡ 0 → number_of_type 0 ≡ 0)
  types_rise width = (fixed_open_in_helix width, helix_open_in_maze width)

-- The bound of Scouts 8, for both passes together: so on every narrow table, where nothing is folded.
few_narrow : (b : List ℕ) (s c t y v : ℕ) → length b ≡ length_of port_count → scouts_of (table_step port_count b (opening s c t y v)).result ≤ 123300
unfolding view
few_narrow b s c t y v long =
    ⊎_elim (λ e. (open_answers port_count (inl refl) b s c t y v e).bounded (fold_none b long))
    (λ f. subst (λ (x : After (List ℕ)). scouts_of x.result ≤ 123300) (sym ((table_step_lem port_count b (opening s c t y v)).stopped f)) (omega arith))
    (same? (stopped_at port_count b (opening s c t y v)) 0)

pub narrow_scouts : (b : List ℕ) (s c t y v : ℕ) → scouts_of (table_step port_count b (opening s c t y v)).result ≤ 123300
narrow_scouts b s c t y v =
    ⊎_elim (few_narrow b s c t y v) (λ other. rw (wrong_length port_count b other (opening s c t y v)) (omega arith)) (same? (length b) (length_of port_count))
