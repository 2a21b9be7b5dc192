-- More freedom never hurts, of two tables.
-- Assumes nothing.
use mathlib.Core.Path.{◌≡◌, refl, sym, ◌∙◌, subst}
use mathlib.Core.Logic.{◌⊎◌, inl, inr, ⊎_elim}
use mathlib.Core.Bool.{Bool, true, false}
use mathlib.Core.List.Memᴰ
use mathlib.Core.List.{List, [], ◌∷◌}
use Prim.Native.Nat.{ℕ, ◌≤◌}
use lib.Dec.{eqb, ltb}
use Rattle.common.specs.Tests.{refusal}
use Rattle.common.proofs.Tests.{both, and, either, or_left, or_right, clash}
use Rattle.cube.specs.Axes.{axis, present}
use Rattle.cube.specs.Bits.{has}
use Rattle.cube.specs.Cube.{largest_dimension}
use Rattle.paths.specs.Send.{Attempt}
use Rattle.paths.specs.Sentences.{Tries}
use Rattle.paths.specs.CubeNetwork.{Node, attempts}
use Rattle.paths.proofs.Words.{free_link}
use Rattle.layout.specs.Resources.{Width}
use Rattle.table.specs.View.{View, view, shape_of, held_in}
use Rattle.soundness.specs.Sound.{Sound}
use Rattle.soundness.specs.TableTests.{table_tests}
use Rattle.answers.specs.SendOnTable.{state_in, free_in}
use Rattle.answers.specs.SendSays.{FreeRoute, SomeRoute}
use Rattle.ownership.specs.Calls.{opening}
use Rattle.ownership.specs.OnTable.{facts_of, stopped_at}
use Rattle.ownership.specs.Agrees.{Accepted}
use Rattle.ownership.specs.Allowed.{Allowed}
use Rattle.ownership.proofs.Allowed.{allowed, allowed_passes}
use Rattle.ownership.proofs.Stops.{none_stops, none_stops_lent, pass_tests, stopped_is}
use Rattle.ownership.proofs.Steps.{table_step_lem}
use Rattle.ownership.proofs.OnSound.{open_answers}
use Rattle.freedom.specs.Freedom.{AtLeastAsFree, MazeType, FoldsNoMore}
use Rattle.freedom.proofs.Paths.{FreeInOther, given_too, others_too}
use Rattle.freedom.proofs.HelixPaths.{helix_too_of, lowest_too_of}

-- a link that is enabled in a sound table is one of its cube
pub enabled_there : (w : View) → Sound w → (n p : ℕ) → w.enabled n p ≡ true → present w.dimension w.fold p ≡ true
enabled_there w sound n p e = go (present w.dimension w.fold p) refl
  where
    go : (b : Bool) → present w.dimension w.fold p ≡ b → present w.dimension w.fold p ≡ true
    go true i = i
    go false i = absurd (clash e (sound.absent_link n p (λ l. clash l.1 i)).0)

-- a port that is there is there in a cube of the same dimension with more folded
pub present_wider : (D fold mask : ℕ) → ((p : ℕ) → has fold p ≡ true → has mask p ≡ true) → (q : ℕ) → present D fold q ≡ true → present D mask q ≡ true
unfolding present
present_wider D fold mask more q e =
    let a = both (ltb q 18) _ e in
    let b = both (ltb (axis q) D) _ a.1 in
    and a.0 (and b.0 (⊎_elim (λ own. or_left _ own) (λ on. or_right (eqb q (axis q)) (more (axis q) on)) (either (eqb q (axis q)) _ b.1)))

module _ (v w : View) (sound : Sound w) (s c t x : ℕ) (free : AtLeastAsFree s c t v w) (source : Node (shape_of v) s) where
  links_too : FreeInOther (shape_of v) (shape_of w) (free_in v) (free_in w)
  unfolding free_in state_in
  links_too n p l e = let r = free.links n p l e in (enabled_there w sound n p ((free_link (w.enabled n p) (held_in w n p)).0 r).0, r)

  -- what is tried first or later, on the one and on the other
  no_attempt : SomeRoute v s t [] → SomeRoute w s t []
  no_attempt h = absurd (Memᴰ.not-nil h.1)

  attempt_more : (a b : Attempt) (ones others : List Attempt) → (FreeRoute v s t a → FreeRoute w s t b) → (SomeRoute v s t ones → SomeRoute w s t others) → SomeRoute v s t (a ∷ ones) → SomeRoute w s t (b ∷ others)
  attempt_more a b ones others one rest h =
      ⊎_elim (λ e. (b, Memᴰ.head refl, one (subst (FreeRoute v s t) e h.2))) (λ m. let r = rest (h.0, m, h.2) in (r.0, Memᴰ.tail r.1, r.2)) (Memᴰ.cases_cons h.1)

  -- a free path that a routing type may try on the one is one on the other
  abbrev RouteToo : ℕ → Type 0
  RouteToo type = SomeRoute v s t (attempts (shape_of v) type x) → SomeRoute w s t (attempts (shape_of w) type x)

  maze_too : RouteToo 0
  unfolding attempts Tries
  maze_too = attempt_more _ _ [] [] (given_too (shape_of v) (shape_of w) (free_in v) (free_in w) links_too t s x source) no_attempt

  alternate_too : RouteToo 4
  unfolding attempts Tries
  alternate_too =
      attempt_more _ _ _ _ (given_too (shape_of v) (shape_of w) (free_in v) (free_in w) links_too t s x source)
      (attempt_more _ _ [] [] (others_too (shape_of v) (shape_of w) (free_in v) (free_in w) links_too t s x source) no_attempt)

  mazes_too : (type : ℕ) → MazeType type → RouteToo type
  mazes_too type (inl e) = rw e maze_too
  mazes_too type (inr e) = rw e alternate_too

  module _ (fits : v.dimension ≤ largest_dimension) (target : Node (shape_of v) t) (fewer : FoldsNoMore v w) where
    ports_fewer : (q : ℕ) → present w.dimension w.fold q ≡ true → present v.dimension v.fold q ≡ true
    ports_fewer q e = rw free.dimension (present_wider w.dimension w.fold v.fold fewer q e)

    helix_too : RouteToo 1
    unfolding attempts Tries
    helix_too =
        attempt_more _ _ [] []
        (λ h. let r = helix_too_of (shape_of v) (shape_of w) free.dimension ports_fewer (free_in v) (free_in w) links_too t fits s source target x (h.1.0, h.1.1, (h.0, h.1.2, h.2)) in (r.2.0, (r.0, r.1, r.2.1), r.2.2))
        no_attempt

    fixed_too : RouteToo 3
    unfolding attempts Tries
    fixed_too =
        attempt_more _ _ [] []
        (λ h. let r = lowest_too_of (shape_of v) (shape_of w) free.dimension ports_fewer (free_in v) (free_in w) links_too t fits s source target x (h.1.0, h.1.1, (h.0, h.1.2, h.2)) in (r.2.0, (r.0, r.1, r.2.1), r.2.2))
        no_attempt

    each_too : (type : ℕ) → (type ≡ 0) ⊎ (type ≡ 1) ⊎ (type ≡ 3) ⊎ (type ≡ 4) → RouteToo type
    each_too type (inl e) = rw e maze_too
    each_too type (inr (inl e)) = rw e helix_too
    each_too type (inr (inr (inl e))) = rw e fixed_too
    each_too type (inr (inr (inr e))) = rw e alternate_too

-- a table that passes its tests has a dimension of at most 8
dimension_fits : (q : ℕ) (b : List ℕ) → refusal (table_tests q b) ≡ 0 → (view b).dimension ≤ largest_dimension
unfolding view
dimension_fits q b e = (pass_tests q b e).2

-- The tests of the open pass on the other table, and one of its paths is free there.
pub more_freedom : (q r : ℕ) → Width q → Width r → (a b : List ℕ) → refusal (table_tests r b) ≡ 0 → (s c t type vector : ℕ) → AtLeastAsFree s c t (view a) (view b)
    → MazeType type ⊎ FoldsNoMore (view a) (view b) → Accepted q a (opening s c t type vector) → Accepted r b (opening s c t type vector)
unfolding Allowed facts_of
more_freedom q r width other a b passes s c t type vector free masks e =
    let x = opening s c t type vector in
    let z = (table_step_lem q a x).passed e in
    let fits = dimension_fits q a (none_stops_lent q a x refl z) in
    let o = pass_tests r b passes in
    let h = allowed (facts_of (view a)) x (none_stops q a x z) in
    let D = sym free.dimension in
    let sent : stopped_at r b x ≡ 0 =
    stopped_is r b o.0 o.1 o.2 o.3 x
    ∙ allowed_passes (facts_of (view b)) x (rw D h.0, rw D h.1, h.2, h.3, (λ n l. h.4 n (rw D at l)), free.send_channel, h.6) in
    let found = (open_answers q width a s c t type vector z).exactly.0 e in
    let route = ⊎_elim (λ m. mazes_too (view a) (view b) o.3 s c t vector free h.0 type m) (λ f. each_too (view a) (view b) o.3 s c t vector free h.0 fits h.1 f type h.6) masks in
    (open_answers r other b s c t type vector sent).exactly.1 (route found.0, (found.1.0, found.1.1, free.receives found.1.0 found.1.1 found.1.2))
