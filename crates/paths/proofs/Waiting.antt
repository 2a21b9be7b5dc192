-- Whether closing circuits could help a send (Searches 13), as it is computed and as a rule of its paths, is the same; and what it says of the send.
-- Assumes nothing.
use mathlib.Core.Path.{◌≡◌, refl, ap, ◌∙◌, fun_ext}
use mathlib.Core.Logic.{◌↔◌, ◌≢◌}
use mathlib.Core.Bool.{Bool, true, false, ◌||◌}
use mathlib.Core.List.Memᴰ
use mathlib.Core.List.{List, [], ◌∷◌}
use Prim.Native.Nat.{ℕ, ◌≤◌}
use native.Mathlib.Omega.{arith}
use Rattle.cube.specs.Cube.{largest_dimension}
use Rattle.common.specs.Lists.{◌∈◌, any}
use Rattle.common.proofs.Tests.{clash, is_false, and}
use Rattle.paths.specs.Network.{Network, Path, Link, links, free_path}
use Rattle.paths.specs.Pass.{PassResult, none, found}
use Rattle.paths.specs.Send.{Receive, lowest_available, none_available, Outcome, acknowledged, route_rejected, receive_rejected, Acknowledged, outcome_of_path, outcome, Attempt, send_goes_on, runs}
use Rattle.paths.specs.Sentences.{Free, Tries, AttemptsSay}
use Rattle.paths.specs.CubeNetwork.{Shape, Node, network, attempts, send}
use Rattle.paths.specs.Waiting.{finds_path, some_attempt, CrossesBlocked, AllEnabled, EveryPathBlocked, SomePathEnabled}
use Rattle.paths.proofs.Words.{free_path_links}
use Rattle.paths.proofs.Attempts.{goes_on_after, runs_stop, runs_on, not_route_rejected, acknowledged_route, route_acknowledged, receive_rejected_route}
use Rattle.paths.proofs.Send.{send_says}

-- a test that is not false is true
is_true : (b : Bool) → (b ≡ false → ⊥) → b ≡ true
is_true true h = refl
is_true false h = absurd (h refl)

-- What one attempt comes to is a route rejection exactly where it finds no path,
rejected_one : (r : Receive) (x : PassResult) → (outcome r x ≡ route_rejected) ↔ (finds_path x ≡ false)
unfolding outcome outcome_of_path finds_path
rejected_one r (none c) = ((λ e. refl), (λ e. refl))
rejected_one (lowest_available k) (found w c) = ((λ e. let z : ◌≡◌ {A = ℕ} 0 1 = cc in absurd (omega arith)), (λ e. absurd (clash refl e)))
rejected_one none_available (found w c) = ((λ e. let z : ◌≡◌ {A = ℕ} 0 1 = cc in absurd (omega arith)), (λ e. absurd (clash refl e)))

-- and so is what attempts made in turn come to, exactly where none of them finds one.
pub route_rejected_exactly : (r : Receive) (xs : List PassResult) → ((runs r xs).outcome ≡ route_rejected) ↔ (any finds_path xs ≡ false)
unfolding any
route_rejected_exactly r [] = ((λ e. refl), (λ e. unfold runs in refl))
route_rejected_exactly r (x ∷ []) = go (finds_path x) refl
  where
    go : (b : Bool) → finds_path x ≡ b → ((runs r (x ∷ [])).outcome ≡ route_rejected) ↔ (finds_path x || false ≡ false)
    go true e = ((λ h. unfold runs in absurd (clash e ((rejected_one r x).0 h))), (λ h. absurd (clash refl (rw e at h))))
    go false e = ((λ h. rw e refl), (λ h. unfold runs in (rejected_one r x).1 e))
route_rejected_exactly r (x ∷ y ∷ ys) = go (finds_path x) refl (route_rejected_exactly r (y ∷ ys))
  where
    go : (b : Bool) → finds_path x ≡ b → (((runs r (y ∷ ys)).outcome ≡ route_rejected) ↔ (any finds_path (y ∷ ys) ≡ false))
        → ((runs r (x ∷ y ∷ ys)).outcome ≡ route_rejected) ↔ (finds_path x || any finds_path (y ∷ ys) ≡ false)
    go true e ih =
        let off : send_goes_on (outcome r x) ≡ false = is_false _ (λ h. clash e ((rejected_one r x).0 ((goes_on_after (outcome r x)).0 h))) in
        rw (runs_stop r x y ys off, e) ((λ h. absurd (clash e ((rejected_one r x).0 h))), (λ h. absurd (clash refl h)))
    go false e ih = rw (runs_on r x y ys ((goes_on_after (outcome r x)).1 ((rejected_one r x).1 e)), e) ih

-- A path all of whose links are enabled is what the search calls free, with `enabled` in the place of `free`; another crosses a blocked link.
module _ (N : Network) (enabled : ℕ → ℕ → Bool) where
  enabled_free : (s : ℕ) (w : Path) → AllEnabled N enabled s w ↔ Free N enabled s w
  unfolding AllEnabled
  enabled_free s w = ((free_path_links N enabled s w).1, (free_path_links N enabled s w).0)

  crosses : (s : ℕ) (w : Path) → (Free N enabled s w → ⊥) → CrossesBlocked N enabled s w
  unfolding CrossesBlocked free_path links
  crosses s [] h = absurd (h refl)
  crosses s (p ∷ w) h = go (enabled s p) refl (crosses (N.next s p) w)
    where
      go : (b : Bool) → enabled s p ≡ b → ((Free N enabled (N.next s p) w → ⊥) → CrossesBlocked N enabled (N.next s p) w)
          → (l : Link) × (l ∈ ((s, p) ∷ links N (N.next s p) w)) × (enabled l.0 l.1 ≡ false)
      go true e ih = let r = ih (λ i. h (and e i)) in (r.0, Memᴰ.tail r.1, r.2)
      go false e ih = ((s, p), Memᴰ.head refl, e)

  not_crossed : (s : ℕ) (w : Path) → Free N enabled s w → CrossesBlocked N enabled s w → ⊥
  unfolding CrossesBlocked
  not_crossed s w f x = clash ((free_path_links N enabled s w).0 f x.0 x.1) x.2

-- a path that is free stays so with more links to take
pub wider_free : (N : Network) (f g : ℕ → ℕ → Bool) → ((n p : ℕ) → f n p ≡ true → g n p ≡ true) → (s : ℕ) (w : Path) → Free N f s w → Free N g s w
wider_free N f g more s w h = (free_path_links N g s w).1 (λ l m. more l.0 l.1 ((free_path_links N f s w).0 h l m))

-- Tests that agree on every link agree on whether a path is found, in any network.
pub same_finds : (N : Network) (f g : ℕ → ℕ → Bool) (s t : ℕ) (xs : List Attempt) → ((n p : ℕ) → f n p ≡ g n p) → some_attempt N f s t xs ≡ some_attempt N g s t xs
same_finds N f g s t xs same = ap (λ h. some_attempt N h s t xs) (fun_ext (λ n. fun_ext (same n)))

-- In the cube, of the attempts of a routing type:
module _ (S : Shape) (fits : S.dimension ≤ largest_dimension) (s t type vector : ℕ) (source : Node S s) (target : Node S t) where
  abbrev tried : List Attempt
  tried = attempts S type vector

  abbrev FreePathOf : (ℕ → ℕ → Bool) → Type 0
  FreePathOf allowed = (a : Attempt) × (a ∈ tried) × ((w : Path) × Tries (network S) s t a w × Free (network S) allowed s w)

  abbrev finds : (ℕ → ℕ → Bool) → Bool
  finds allowed = some_attempt (network S) allowed s t tried

  says : (allowed : ℕ → ℕ → Bool) (r : Receive)
      → AttemptsSay (network S) s t allowed r tried (send type S allowed r s vector t).outcome (send type S allowed r s vector t).scouts
  says allowed r = send_says S allowed r s vector t type fits source target

  -- A send is route rejected exactly where none of them finds a path.
  pub rejected_exactly : (free : ℕ → ℕ → Bool) (r : Receive) → ((send type S free r s vector t).outcome ≡ route_rejected) ↔ (finds free ≡ false)
  unfolding send some_attempt
  rejected_exactly free r = route_rejected_exactly r _

  -- one of them finds a path exactly where one of them has a path over links that may be taken
  finds_path_lem : (allowed : ℕ → ℕ → Bool) → (finds allowed ≡ true) ↔ FreePathOf allowed
  finds_path_lem allowed = (λ e. there e (send type S allowed (lowest_available 0) s vector t).outcome refl, back)
    where
      there : finds allowed ≡ true → (o : Outcome) → (send type S allowed (lowest_available 0) s vector t).outcome ≡ o → FreePathOf allowed
      there e (acknowledged w k) i = (acknowledged_route (network S) s t allowed (lowest_available 0) tried w k _ (rw i at (says allowed (lowest_available 0)))).0
      there e route_rejected i = absurd (clash e ((rejected_exactly allowed (lowest_available 0)).0 i))
      there e receive_rejected i = (receive_rejected_route (network S) s t allowed (lowest_available 0) tried _ (rw i at (says allowed (lowest_available 0)))).0

      back : FreePathOf allowed → finds allowed ≡ true
      back x =
          is_true _ (λ e. not_route_rejected (network S) s t allowed (lowest_available 0) tried _ _ (says allowed (lowest_available 0)) x ((rejected_exactly allowed (lowest_available 0)).1 e))

  -- The computed test is true exactly where some path that the type may try crosses no blocked link,
  pub waiting_exactly : (enabled : ℕ → ℕ → Bool) → (finds enabled ≡ true) ↔ SomePathEnabled (network S) enabled s t tried
  unfolding SomePathEnabled
  waiting_exactly enabled = (
    (λ e. let x = (finds_path_lem enabled).0 e in (x.0, x.1, (x.2.0, x.2.1, (enabled_free (network S) enabled s x.2.0).1 x.2.2))),
    (λ x. (finds_path_lem enabled).1 (x.0, x.1, (x.2.0, x.2.1, (enabled_free (network S) enabled s x.2.0).0 x.2.2))),
  )

  -- and false exactly where each of the type's paths has a blocked link.
  pub blocked_exactly : (enabled : ℕ → ℕ → Bool) → (finds enabled ≡ false) ↔ EveryPathBlocked (network S) enabled s t tried
  unfolding EveryPathBlocked
  blocked_exactly enabled = (
    (λ e a m w i. crosses (network S) enabled s w (λ f. clash ((finds_path_lem enabled).1 (a, m, (w, i, f))) e)),
    (λ h. is_false _ (λ e.
        let x = (finds_path_lem enabled).0 e in
        let k = h x.0 x.1 x.2.0 x.2.1 in
        not_crossed (network S) enabled s x.2.0 x.2.2 k)),
  )

  -- With more links to take, what was found stays found.
  pub more_finds : (f g : ℕ → ℕ → Bool) → ((n p : ℕ) → f n p ≡ true → g n p ≡ true) → finds f ≡ true → finds g ≡ true
  more_finds f g more e = let x = (finds_path_lem f).0 e in (finds_path_lem g).1 (x.0, x.1, (x.2.0, x.2.1, wider_free (network S) f g more s x.2.0 x.2.2))

  -- So where every free link is enabled, a send for which every path is blocked is route rejected, whatever is held:
  pub blocked_rejects : (free enabled : ℕ → ℕ → Bool) → ((n p : ℕ) → free n p ≡ true → enabled n p ≡ true) → finds enabled ≡ false
      → (r : Receive) → (send type S free r s vector t).outcome ≡ route_rejected
  blocked_rejects free enabled less e r = (rejected_exactly free r).1 (is_false _ (λ h. clash (more_finds free enabled less h) e))

  -- it never stands where a path was found.
  pub found_waits : (free enabled : ℕ → ℕ → Bool) → ((n p : ℕ) → free n p ≡ true → enabled n p ≡ true) → (r : Receive)
      → (send type S free r s vector t).outcome ≢ route_rejected → finds enabled ≡ true
  found_waits free enabled less r h = is_true _ (λ e. h (blocked_rejects free enabled less e r))

  -- Where the free links are exactly the enabled ones, as once all circuits are closed, a send that could be helped is acknowledged if the target has a
  -- channel to take.
  pub closed_acknowledges : (free enabled : ℕ → ℕ → Bool) → ((n p : ℕ) → free n p ≡ enabled n p) → finds enabled ≡ true
      → (r : Receive) → r ≢ none_available → Acknowledged (send type S free r s vector t).outcome
  closed_acknowledges free enabled same e r some =
      let f : finds free ≡ true = more_finds enabled free (λ n p i. same n p ∙ i) e in
      route_acknowledged (network S) s t free r tried _ _ (says free r) ((finds_path_lem free).0 f) some
