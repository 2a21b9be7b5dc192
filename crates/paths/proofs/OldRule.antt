-- What Searches 11 changes: a send under the earlier rule (specs/OldRule) and under this one.
-- Assumes nothing.
use mathlib.Core.Path.{◌≡◌, refl, ap, sym, ◌∙◌}
use mathlib.Core.Logic.{◌⊎◌, inl, inr, ◌≢◌, ⊎_elim}
use mathlib.Core.Bool.{Bool}
use mathlib.Core.List.{List, [], ◌∷◌, map}
use Prim.Native.Nat.{ℕ, ◌+◌, ◌<◌}
use native.Mathlib.Omega.{arith}
use Rattle.paths.specs.Network.{Network, Path, free_path}
use Rattle.paths.specs.Pass.{PassResult, none, found, whole, beginnings, pass, scouts}
use Rattle.paths.specs.Send.{Receive, lowest_available, none_available, route_rejected, receive_rejected, Acknowledged, outcome_of_path, outcome, attempted, SendResult, send_goes_on, runs}
use Rattle.paths.specs.CubeNetwork.{Shape, network, send_ports, other_ports, attempts, send}
use Rattle.paths.specs.OldRule.{old_goes_on, old_runs, old_send, EndsEarly, here, later, Changes, AlternateChanges}
use Rattle.paths.proofs.Scan.{scan_found}

-- what a send answers after an attempt that finds no path: both rules go on
abbrev after : ℕ → SendResult → SendResult
after c x = record { outcome = x.outcome; scouts = c + x.scouts }

no_more : (c : ℕ) → ◌≡◌ {A = SendResult} (record { outcome = route_rejected; scouts = c }) (after c (record { outcome = route_rejected; scouts = 0 }))
no_more c = let e : c ≡ c + 0 = omega arith in ap (λ (m : ℕ). record { outcome = route_rejected; scouts = m }) e

none_goes_on : (r : Receive) (c : ℕ) (xs : List PassResult) → runs r (none c ∷ xs) ≡ after c (runs r xs)
unfolding runs send_goes_on outcome scouts
none_goes_on r c [] = no_more c
none_goes_on r c (y ∷ ys) = refl

none_went_on : (r : Receive) (c : ℕ) (xs : List PassResult) → old_runs r (none c ∷ xs) ≡ after c (old_runs r xs)
unfolding old_runs old_goes_on outcome scouts
none_went_on r c [] = no_more c
none_went_on r c (y ∷ ys) = refl

-- A send ends early, or answers as it did.
early_or_same : (r : Receive) (xs : List PassResult) → ((n : ℕ) × EndsEarly r xs n) ⊎ (runs r xs ≡ old_runs r xs)
early_or_same r [] = inr (unfold runs old_runs in refl)
early_or_same r (none c ∷ xs) =
    ⊎_elim (λ e. inl (c + e.0, later e.1)) (λ e. inr (none_goes_on r c xs ∙ ap (after c) e ∙ sym (none_went_on r c xs))) (early_or_same r xs)
early_or_same r (found w n ∷ []) = inr (unfold runs old_runs in refl)
early_or_same (lowest_available k) (found w n ∷ y ∷ ys) = inr (unfold runs old_runs send_goes_on old_goes_on outcome outcome_of_path in refl)
early_or_same none_available (found w n ∷ y ∷ ys) = inl (n, here)

-- Where it ends early, it is receive rejected with the scouts up to there,
early_ends : (r : Receive) (xs : List PassResult) (n : ℕ) → EndsEarly r xs n → runs r xs ≡ record { outcome = receive_rejected; scouts = n }
early_ends _ _ n here = unfold runs send_goes_on outcome outcome_of_path scouts in refl
early_ends r _ _ (later {c = c} {n} {xs} e) = none_goes_on r c xs ∙ ap (after c) (early_ends r xs n e)

-- and the target has no channel,
early_held : (r : Receive) (xs : List PassResult) (n : ℕ) → EndsEarly r xs n → r ≡ none_available
early_held _ _ n here = refl
early_held r _ _ (later {n = n} {xs} e) = early_held r xs n e

-- so that nothing was acknowledged by the old rule either.
held_rejects : (x : PassResult) → Acknowledged (outcome none_available x) → ⊥
unfolding outcome outcome_of_path Acknowledged
held_rejects (none c) h = h
held_rejects (found w c) h = h

old_rejects : (xs : List PassResult) → Acknowledged (old_runs none_available xs).outcome → ⊥
old_rejects [] h = unfold old_runs Acknowledged in h
old_rejects (x ∷ []) h = held_rejects x (unfold old_runs in h)
old_rejects (none c ∷ y ∷ ys) h = old_rejects (y ∷ ys) (unfold old_runs old_goes_on outcome in h)
old_rejects (found w c ∷ y ∷ ys) h = old_rejects (y ∷ ys) (unfold old_runs old_goes_on outcome outcome_of_path in h)

-- The rules compared, of what any attempts in any network come to.
pub changes : (r : Receive) (xs : List PassResult) → Changes r xs
changes r xs =
    record {
      same = unless;
      ends = early_ends r xs;
      stays = λ h. unless (λ n e. ⊎_elim (now_rejects n e) (λ a. old_rejects xs (rw (early_held r xs n e) at a)) h);
    }
  where
    now_rejects : (n : ℕ) → EndsEarly r xs n → Acknowledged (runs r xs).outcome → ⊥
    now_rejects n e a = unfold Acknowledged in rw (early_ends r xs n e) at a

    unless : ((n : ℕ) → EndsEarly r xs n → ⊥) → runs r xs ≡ old_runs r xs
    unless f = ⊎_elim (λ (e : (n : ℕ) × EndsEarly r xs n). absurd (f e.0 e.1)) (λ e. e) (early_or_same r xs)

-- Two attempts: the same answer, unless the first finds a path to a target without a channel,
two_same : (r : Receive) (x y : PassResult) → ((w : Path) (n : ℕ) → x ≡ found w n → r ≢ none_available) → runs r (x ∷ y ∷ []) ≡ old_runs r (x ∷ y ∷ [])
unfolding runs old_runs send_goes_on old_goes_on outcome outcome_of_path
two_same r (none c) y f = refl
two_same (lowest_available k) (found w n) y f = refl
two_same none_available (found w n) y f = absurd (f w n refl refl)

-- where the old answer was that of the second, with the scouts of both; that is another one, since a pass that finds a path sends a scout.
both : (w : Path) (n : ℕ) (y : PassResult) → old_runs none_available (found w n ∷ y ∷ []) ≡ record { outcome = outcome none_available y; scouts = n + scouts y }
unfolding old_runs old_goes_on outcome outcome_of_path scouts
both w n y = refl

apart : (n : ℕ) (y : PassResult) → ((w : Path) (m : ℕ) → y ≡ found w m → 0 < m)
    → ◌≢◌ {A = SendResult} (record { outcome = receive_rejected; scouts = n }) (record { outcome = outcome none_available y; scouts = n + scouts y })
unfolding outcome outcome_of_path scouts
apart n (none c) f e =
    let o : receive_rejected ≡ route_rejected = ap (λ (x : SendResult). x.outcome) e in
    let z : ◌≡◌ {A = ℕ} 0 1 = cc in omega arith
apart n (found w m) f e = let z : n ≡ n + m = ap (λ (x : SendResult). x.scouts) e in omega (arith, f w m refl)

found_sends : (N : Network) (free : ℕ → ℕ → Bool) (s : ℕ) (ps : List ℕ) (t : ℕ) (w : Path) (n : ℕ) → pass N free s ps t ≡ found w n → 0 < n
unfolding pass
found_sends N free s ps t w n e = let x = scan_found (free_path N free s) (whole N t s) (beginnings N s ps t) 0 e in omega (arith, x.sent)

module _ (S : Shape) (free : ℕ → ℕ → Bool) (r : Receive) (s vector t : ℕ) where
  abbrev first : PassResult
  first = pass (network S) free s (send_ports S vector) t

  abbrev second : PassResult
  second = pass (network S) free s (other_ports S vector) t

  -- No acknowledgement appears or disappears, of any routing type.
  pub acknowledgement_stays : (type : ℕ) → Acknowledged (send type S free r s vector t).outcome ⊎ Acknowledged (old_send type S free r s vector t).outcome
      → send type S free r s vector t ≡ old_send type S free r s vector t
  unfolding send old_send
  acknowledgement_stays type h = (changes r (map (attempted (network S) free s t) (attempts S type vector))).stays h

  -- Nothing changes of a type 0 send,
  pub maze_unchanged : send 0 S free r s vector t ≡ old_send 0 S free r s vector t
  unfolding send old_send attempts runs old_runs
  maze_unchanged = refl

  -- nor of a type 4 send whose first pass finds no path, or whose target has a channel.
  pub alternate_unchanged : ((w : Path) (n : ℕ) → first ≡ found w n → r ≢ none_available) → send 4 S free r s vector t ≡ old_send 4 S free r s vector t
  unfolding send old_send attempts attempted
  alternate_unchanged f = two_same r first second f

  -- Every other type 4 send changes: it is receive rejected, with the scouts of its first pass.
  pub alternate_changed : (w : Path) (n : ℕ) → first ≡ found w n → r ≡ none_available → AlternateChanges S free r s vector t n
  alternate_changed w n e h =
      record {
        answers = is;
        answered = was;
        rejected = rw h (held_rejects second);
        differs = λ q.
            apart n second (found_sends (network S) free s (other_ports S vector) t)
            (sym is ∙ q ∙ was ∙ ap (λ (x : Receive). record { outcome = outcome x second; scouts = n + scouts second }) h);
      }
    where
      is : send 4 S free r s vector t ≡ record { outcome = receive_rejected; scouts = n }
      is = unfold send attempts attempted in rw (e, h) (early_ends none_available (found w n ∷ second ∷ []) n here)

      was : old_send 4 S free r s vector t ≡ record { outcome = outcome r second; scouts = n + scouts second }
      was = unfold old_send attempts attempted in rw (e, h) (both w n second)
