-- What few failing links cannot do to a send, said of the answer of an open on a table.
-- Assumes nothing.
use mathlib.Core.Path.{◌≡◌, refl, ◌∙◌}
use mathlib.Core.Logic.{◌⊎◌, inl, inr, ⊎_elim, ◌≢◌}
use mathlib.Core.Bool.{false}
use mathlib.Core.List.{List}
use Prim.Native.Nat.{ℕ, ◌-◌, ◌^◌, ◌≤◌, ◌<◌}
use native.Mathlib.Omega.{arith}
use lib.Pow.{pow_pos}
use borrow.Author.Tests.{lt-ltb}
use Rattle.common.specs.Tests.{refusal}
use Rattle.common.proofs.Tests.{clash, same?, avoids, avoiding, never_answered}
use Rattle.common.proofs.Every.{decide}
use Rattle.cube.specs.Bits.{has}
use Rattle.cube.specs.Cube.{largest_dimension, channels}
use Rattle.cube.proofs.Bits.{high_has, zero_has}
use Rattle.cube.proofs.PortsInside.{ones}
use Rattle.paths.specs.Waiting.{SomePathEnabled, AllEnabled, EveryPathBlocked, CrossesBlocked}
use Rattle.paths.specs.CubeNetwork.{Node, attempts}
use Rattle.paths.proofs.Words.{free_path_links}
use Rattle.layout.specs.Layout.{dimension_at}
use Rattle.layout.specs.Resources.{Width}
use Rattle.table.specs.View.{View, view, available, shape_of, net}
use Rattle.soundness.specs.TableTests.{table_tests}
use Rattle.answers.specs.SendOnTable.{free_in}
use Rattle.answers.specs.SendSays.{SomeRoute, Available}
use Rattle.ownership.specs.Calls.{opening, call_tests}
use Rattle.ownership.specs.OnTable.{facts_of, lent_tests, stopped_at, table_step}
use Rattle.ownership.specs.TableFacts.{open_in}
use Rattle.ownership.specs.Allowed.{Allowed}
use Rattle.ownership.specs.Promises.{open_number}
use Rattle.ownership.proofs.Allowed.{allowed, allowed_passes}
use Rattle.ownership.proofs.Stops.{none_stops, none_stops_lent, pass_tests, stopped_is}
use Rattle.ownership.proofs.Steps.{table_step_lem}
use Rattle.ownership.proofs.OnSound.{open_answers}
use Rattle.faults.specs.Faults.{full_vector, EachPortType}
use Rattle.faults.specs.OnTables.{not_free, blocked, opening_over_all, FewFindRoute, FewNever22, EveryNodeReached, EnoughStop, FoldedFindRoute, AllFoldedFindRoute, FoldedNever22}
use Rattle.faults.proofs.FreeHelix.{unfolded_routes}
use Rattle.faults.proofs.Folded.{folded_routes, all_folded_routes}
use Rattle.faults.proofs.LinksOut.{none_leave}

-- a receive channel of a node is available, or none is
available_or : (v : View) (t : ℕ) → Available v t ⊎ (Available v t → ⊥)
available_or v t = ⊎_elim inl (λ none. inr (λ a. clash a.2 (none a.0 a.1))) (decide channels (available v t))

-- a path without a failing link is free
route_of : (v : View) (s t y d : ℕ) → SomePathEnabled (net v) (free_in v) s t (attempts (shape_of v) y d) → SomeRoute v s t (attempts (shape_of v) y d)
unfolding SomePathEnabled AllEnabled
route_of v s t y d x = (x.0, x.1, (x.2.0, x.2.1, (free_path_links (net v) (free_in v) s x.2.0).1 x.2.2))

-- no test of an open has the number 22
open_tests : (q : ℕ) (b : List ℕ) (s c t y d : ℕ) → stopped_at q b (opening s c t y d) ≢ 22
unfolding stopped_at lent_tests table_tests call_tests avoids
open_tests q b s c t y d = never_answered 22 _ (avoiding 22 _ refl) (λ z. omega arith)

module _ (q : ℕ) (width : Width q) (b : List ℕ) (s c t y d : ℕ) where
  abbrev v : View
  v = view b

  -- an open that no test stops is one between nodes of a cube
  placed : stopped_at q b (opening s c t y d) ≡ 0 → (v.dimension ≤ largest_dimension) × Node (shape_of v) s × Node (shape_of v) t
  unfolding Allowed facts_of view
  placed e =
      let p = pass_tests q b (none_stops_lent q b (opening s c t y d) refl e) in
      let r = allowed (facts_of (view b)) (opening s c t y d) (none_stops q b (opening s c t y d) e) in
      (p.2, r.0, r.1)

  -- with a path of free links it answers 0 or 11,
  finds : stopped_at q b (opening s c t y d) ≡ 0 → SomePathEnabled (net v) (free_in v) s t (attempts (shape_of v) y d)
      → ((open_number q b s c t y d ≡ 0) × Available v t) ⊎ ((open_number q b s c t y d ≡ 11) × (Available v t → ⊥))
  finds e x =
      let says = open_answers q width b s c t y d e in
      let route = route_of v s t y d x in
      ⊎_elim (λ a. inl (says.exactly.1 (route, a), a)) (λ no. inr (says.rejected_receive.1 (route, no), no)) (available_or v t)

  -- and with one of enabled links it does not answer 22.
  never_22 : (stopped_at q b (opening s c t y d) ≡ 0 → SomePathEnabled (net v) v.enabled s t (attempts (shape_of v) y d)) → (table_step q b (opening s c t y d)).result.number ≢ 22
  unfolding SomePathEnabled AllEnabled EveryPathBlocked CrossesBlocked
  never_22 some n =
      ⊎_elim
      (λ e. let x = some e in let k = (open_answers q width b s c t y d e).rejected_blocked.0 n x.0 x.1 x.2.0 x.2.1 in clash (x.2.2 k.0 k.1) k.2)
      (λ f. open_tests q b s c t y d (rw ((table_step_lem q b (opening s c t y d)).stopped f) at n)) (same? (stopped_at q b (opening s c t y d)) 0)

-- Few failing links leave such paths.
pub few_find_route : FewFindRoute
unfolding not_free
few_find_route q width b z few s c t y k e =
    let p = placed q width b s c t y _ e in
    finds q width b s c t y _ e (unfolded_routes (shape_of (view b)) z p.0 (free_in (view b)) few s t p.1 p.2 y k)

pub few_never_22 : FewNever22
unfolding blocked
few_never_22 q width b z few s c t y k =
    never_22 q width b s c t y _ (λ e. let p = placed q width b s c t y _ e in unfolded_routes (shape_of (view b)) z p.0 (view b).enabled few s t p.1 p.2 y k)

pub folded_find_route : FoldedFindRoute
unfolding not_free
folded_find_route q width b few s c t y k e =
    let p = placed q width b s c t y _ e in
    finds q width b s c t y _ e (folded_routes (shape_of (view b)) p.0 (free_in (view b)) s t p.1 p.2 few y k)

pub all_folded_find_route : AllFoldedFindRoute
unfolding not_free
all_folded_find_route q width b all few s c t y k e =
    let p = placed q width b s c t y _ e in
    finds q width b s c t y _ e (all_folded_routes (shape_of (view b)) p.0 (free_in (view b)) s t p.1 p.2 all few y k)

pub folded_never_22 : FoldedNever22
unfolding blocked
folded_never_22 q width b (inl few) s c t y k =
    never_22 q width b s c t y _ (λ e. let p = placed q width b s c t y _ e in folded_routes (shape_of (view b)) p.0 (view b).enabled s t p.1 p.2 few y k)
folded_never_22 q width b (inr x) s c t y k =
    never_22 q width b s c t y _ (λ e. let p = placed q width b s c t y _ e in all_folded_routes (shape_of (view b)) p.0 (view b).enabled s t p.1 p.2 x.0 x.1 y k)

-- No link out of the source may be taken: every path is blocked.
pub enough_stop : EnoughStop
enough_stop q width b s c t y d h e = (open_answers q width b s c t y d e).rejected_blocked.1 (none_leave (shape_of (view b)) (view b).enabled s t y d h)

-- The full vector has a port, and none at or above D.
full_some : (D : ℕ) → 1 ≤ D → D ≤ largest_dimension → full_vector D ≢ 0
unfolding full_vector
full_some D some fits e = clash (ones D 0 fits (omega arith) ∙ lt-ltb 0 D some) (rw e (zero_has 0))

full_below : (D p : ℕ) → D ≤ p → has (full_vector D) p ≡ false
unfolding full_vector
full_below D p l = high_has D (2 ^ D - 1) p (omega (arith, pow_pos D)) l

-- so no test stops an open over all ports whose source, channel and target are there, on a table that passes its own
none_stop : (q : ℕ) (b : List ℕ) → refusal (table_tests q b) ≡ 0 → (s c t y : ℕ) → Node (shape_of (view b)) s → Node (shape_of (view b)) t → c < channels
    → open_in (view b) s c ≡ false → EachPortType y → stopped_at q b (opening_over_all b s c t y) ≡ 0
unfolding Allowed facts_of view
none_stop q b pass s c t y i j l idle k =
    let p = pass_tests q b pass in
    stopped_is q b p.0 p.1 p.2 p.3 (opening_over_all b s c t y)
    ∙ allowed_passes (facts_of (view b)) (opening_over_all b s c t y) (i, j, l, full_some (dimension_at b) p.1 p.2, full_below (dimension_at b), idle, known y k)
  where
    known : (y : ℕ) → EachPortType y → (y ≡ 0) ⊎ (y ≡ 1) ⊎ (y ≡ 3) ⊎ (y ≡ 4)
    known y (inl e) = inl e
    known y (inr (inl e)) = inr (inl e)
    known y (inr (inr e)) = inr (inr (inr e))

pub every_node_reached : EveryNodeReached
every_node_reached q width b pass z few s c t y i j l idle k a =
    ⊎_elim (λ x. x.0) (λ x. absurd (x.1 a)) (few_find_route q width b z few s c t y k (none_stop q b pass s c t y i j l idle k))
