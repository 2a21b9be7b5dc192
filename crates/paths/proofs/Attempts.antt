-- What the attempts of a send come to, made in turn, over any network: the answer of the last one made, with the scouts of all.
-- Assumes nothing.
use mathlib.Core.Path.{◌≡◌, refl, ap, sym, subst}
use mathlib.Core.Logic.{◌⊎◌, ⊎_elim, ◌↔◌, ◌≢◌}
use mathlib.Core.Bool.{Bool, true, false, true≢false}
use mathlib.Core.List.Memᴰ
use mathlib.Core.List.{List, [], ◌∷◌, map}
use Prim.Native.Nat.{ℕ, ◌+◌, ◌<◌}
use Rattle.common.specs.Lists.{◌∈◌, Pairwise}
use Rattle.common.proofs.Tests.{clash}
use Rattle.paths.specs.Network.{Network, Path}
use Rattle.paths.specs.Permitted.{ComesBefore}
use Rattle.paths.specs.Pass.{PassResult, none, found, scouts}
use Rattle.paths.specs.Send.{Receive, lowest_available, none_available, Outcome, acknowledged, route_rejected, receive_rejected, Acknowledged, outcome_of_path, outcome, Attempt, pass_over, helix_paths, attempted, one_result, send_goes_on, runs}
use Rattle.paths.specs.Sentences.{Free, AnswerSays, says_acknowledged, says_receive_rejected, says_route_rejected, Tries, SearchSays, AttemptSays, AttemptsSay, last, ends, goes_on}
use Rattle.paths.proofs.TriedHelix.{tried_helix_lem, tried_first, tried_nothing}

-- What a search and the target's receive channels come to is as Searches 10 to 12 have it.
pub answer_says : (Search : PassResult → Type 0) (r : Receive) (x : PassResult) → Search x → AnswerSays Search r (outcome r x) (scouts x)
unfolding outcome scouts outcome_of_path
answer_says Search r (none c) h = says_route_rejected h
answer_says Search (lowest_available k) (found w c) h = says_acknowledged refl h
answer_says Search none_available (found w c) h = says_receive_rejected refl h

-- A send goes on exactly after a route rejection; then the next attempt's answer counts, and all scouts are added.
pub goes_on_after : (o : Outcome) → (send_goes_on o ≡ true) ↔ (o ≡ route_rejected)
unfolding send_goes_on
goes_on_after (acknowledged w c) = ((λ e. absurd (true≢false (sym e))), (λ h. ap send_goes_on h))
goes_on_after route_rejected = ((λ e. refl), (λ h. refl))
goes_on_after receive_rejected = ((λ e. absurd (true≢false (sym e))), (λ h. ap send_goes_on h))

pub runs_stop : (r : Receive) (x y : PassResult) (ys : List PassResult) → send_goes_on (outcome r x) ≡ false → runs r (x ∷ y ∷ ys) ≡ one_result r x
runs_stop r x y ys e = unfold runs in rw e

pub runs_on : (r : Receive) (x y : PassResult) (ys : List PassResult) → send_goes_on (outcome r x) ≡ true
    → runs r (x ∷ y ∷ ys) ≡ record { outcome = (runs r (y ∷ ys)).outcome; scouts = scouts x + (runs r (y ∷ ys)).scouts }
runs_on r x y ys e = unfold runs in rw e

-- the ports over which an attempt leaves its source
unfoldable pub ports_tried : Attempt → List ℕ
ports_tried (pass_over ps) = ps
ports_tried (helix_paths ps) = ps

-- What an attempt says, whatever it tries: acknowledged, it has a free path and a channel; receive rejected, a free path and no channel; route
-- rejected, no free path.
module _ (N : Network) (s t : ℕ) (free : ℕ → ℕ → Bool) where
  found_says : (a : Attempt) (w : Path) (c : ℕ) → SearchSays N s t free a (found w c) → Tries N s t a w × Free N free s w
  unfolding SearchSays Tries
  found_says (pass_over ps) w c f = (f.permitted, f.is_free)
  found_says (helix_paths ps) w c f = (tried_helix_lem N s t free ps f.1 f.2, f.2.is_free)

  -- a path found comes before every other free path that is tried, where the ports rise
  pub found_first : (a : Attempt) → Pairwise ◌<◌ (ports_tried a) → (w : Path) (c : ℕ) → SearchSays N s t free a (found w c)
      → (v : Path) → Tries N s t a v → Free N free s v → (v ≡ w) ⊎ ComesBefore w v
  unfolding ports_tried SearchSays Tries
  found_first (pass_over ps) rise w c f v x = f.first v x
  found_first (helix_paths ps) rise w c f v x = tried_first N s t free ps f.1 rise f.2 x.0 x.1 v x.2

  nothing_says : (a : Attempt) (c : ℕ) → SearchSays N s t free a (none c) → (w : Path) → Tries N s t a w → Free N free s w → ⊥
  unfolding SearchSays Tries
  nothing_says (pass_over ps) c f w x = f.nothing w x
  nothing_says (helix_paths ps) c f w x = tried_nothing N s t free ps f.1 f.2 x.0 x.1 w x.2

module _ (N : Network) (s t : ℕ) (free : ℕ → ℕ → Bool) (r : Receive) where
  pub acknowledged_says : (a : Attempt) (w : Path) (k n : ℕ) → AttemptSays N s t free r a (acknowledged w k) n
      → Tries N s t a w × Free N free s w × (r ≡ lowest_available k)
  acknowledged_says a w k n (says_acknowledged e f) = let x = found_says N s t free a w n f in (x.0, x.1, e)

  pub receive_rejected_says : (a : Attempt) (n : ℕ) → AttemptSays N s t free r a receive_rejected n
      → ((w : Path) × Tries N s t a w × Free N free s w) × (r ≡ none_available)
  receive_rejected_says a n (says_receive_rejected {w} e f) = let x = found_says N s t free a w n f in ((w, x.0, x.1), e)

  pub route_rejected_says : (a : Attempt) (n : ℕ) → AttemptSays N s t free r a route_rejected n → (w : Path) → Tries N s t a w → Free N free s w → ⊥
  route_rejected_says a n (says_route_rejected f) = nothing_says N s t free a n f

  -- where a channel is there to take, an attempt is acknowledged or route rejected
  acknowledged_else : (a : Attempt) (o : Outcome) (n : ℕ) → AttemptSays N s t free r a o n → r ≢ none_available → o ≢ route_rejected → Acknowledged o
  unfolding Acknowledged
  acknowledged_else a (acknowledged w k) n h g f = tt
  acknowledged_else a route_rejected n h g f = f refl
  acknowledged_else a receive_rejected n h g f = g (receive_rejected_says a n h).1

  -- route rejected, it has no free path
  no_route : (a : Attempt) (o : Outcome) (n : ℕ) → AttemptSays N s t free r a o n → (w : Path) → Tries N s t a w → Free N free s w → o ≢ route_rejected
  no_route a o n h w i f e = route_rejected_says a n (rw e at h) w i f

  -- The answer of a send is that of one of its attempts;
  pub said_by : (xs : List Attempt) (o : Outcome) (n : ℕ) → AttemptsSay N s t free r xs o n
      → (a : Attempt) × (a ∈ xs) × ((m : ℕ) × AttemptSays N s t free r a o m)
  said_by _ o n (last {a} h) = (a, Memᴰ.head refl, (n, h))
  said_by _ o n (ends {a} h e) = (a, Memᴰ.head refl, (n, h))
  said_by _ o _ (goes_on {later = xs} {n₂ = n} n₁ h rest) = let x = said_by xs o n rest in (x.0, Memᴰ.tail x.1, x.2)

  -- it is not route rejected where one of them has a free path;
  abbrev pub Route : List Attempt → Type 0
  Route xs = (a : Attempt) × (a ∈ xs) × ((w : Path) × Tries N s t a w × Free N free s w)

  pub not_route_rejected : (xs : List Attempt) (o : Outcome) (n : ℕ) → AttemptsSay N s t free r xs o n → Route xs → o ≢ route_rejected
  not_route_rejected _ o n (last {a} h) x =
      let e = ⊎_elim (λ z. z) (λ z. absurd (Memᴰ.not-nil z)) (Memᴰ.cases_cons x.1) in
      no_route a o n h x.2.0 (subst (λ b. Tries N s t b x.2.0) e x.2.1) x.2.2
  not_route_rejected _ o n (ends h f) x = f
  not_route_rejected _ o _ (goes_on {a} {later = xs} {n₂ = n} n₁ h rest) x =
      ⊎_elim
      (λ z. absurd (route_rejected_says a n₁ h x.2.0 (subst (λ b. Tries N s t b x.2.0) z x.2.1) x.2.2))
      (λ m. not_route_rejected xs o n rest (x.0, m, x.2)) (Memᴰ.cases_cons x.1)

  -- it is acknowledged exactly where one of them has a free path and a channel is there to take;
  pub acknowledged_route : (xs : List Attempt) (w : Path) (k n : ℕ) → AttemptsSay N s t free r xs (acknowledged w k) n → Route xs × (r ≡ lowest_available k)
  acknowledged_route xs w k n h =
      let x = said_by xs (acknowledged w k) n h in
      let y = acknowledged_says x.0 w k x.2.0 x.2.1 in
      ((x.0, x.1, (w, y.0, y.1)), y.2)

  pub route_acknowledged : (xs : List Attempt) (o : Outcome) (n : ℕ) → AttemptsSay N s t free r xs o n → Route xs → r ≢ none_available → Acknowledged o
  route_acknowledged xs o n h x g = let y = said_by xs o n h in acknowledged_else y.0 o y.2.0 y.2.1 g (not_route_rejected xs o n h x)

  -- it is receive rejected only where one of them has a free path and no channel is there to take.
  pub receive_rejected_route : (xs : List Attempt) (n : ℕ) → AttemptsSay N s t free r xs receive_rejected n → Route xs × (r ≡ none_available)
  receive_rejected_route xs n h =
      let x = said_by xs receive_rejected n h in
      let y = receive_rejected_says x.0 x.2.0 x.2.1 in
      ((x.0, x.1, y.0), y.1)

  -- What the attempts of a list come to, made in turn, says so where each of them does.
  abbrev said : Attempt → Type 0
  said a = AttemptSays N s t free r a (outcome r (attempted N free s t a)) (scouts (attempted N free s t a))

  pub runs_say : (a : Attempt) (xs : List Attempt) → ((x : Attempt) → x ∈ (a ∷ xs) → said x)
      → AttemptsSay N s t free r (a ∷ xs) (runs r (map (attempted N free s t) (a ∷ xs))).outcome (runs r (map (attempted N free s t) (a ∷ xs))).scouts
  runs_say a [] h = unfold runs in last (h a (Memᴰ.head refl))
  runs_say a (b ∷ bs) h = go (send_goes_on (outcome r x)) refl (h a (Memᴰ.head refl)) (runs_say b bs (λ y m. h y (Memᴰ.tail m)))
    where
      x : PassResult
      x = attempted N free s t a

      ys : List PassResult
      ys = map (attempted N free s t) (b ∷ bs)

      go : (c : Bool) → send_goes_on (outcome r x) ≡ c → said a → AttemptsSay N s t free r (b ∷ bs) (runs r ys).outcome (runs r ys).scouts
          → AttemptsSay N s t free r (a ∷ b ∷ bs) (runs r (x ∷ ys)).outcome (runs r (x ∷ ys)).scouts
      go true e i rest = rw (runs_on r x (attempted N free s t b) (map (attempted N free s t) bs) e)
          (goes_on (scouts x) (subst (λ o. AttemptSays N s t free r a o (scouts x)) ((goes_on_after (outcome r x)).0 e) i) rest)
      go false e i rest = rw (runs_stop r x (attempted N free s t b) (map (attempted N free s t) bs) e)
          (ends i (λ z. clash ((goes_on_after (outcome r x)).1 z) e))
