-- What a scan tells of its list: the member that it finds with those before it, and how many it counts.
-- Assumes nothing.
use mathlib.Core.Path.{◌≡◌, refl, ap, sym, ◌∙◌}
use mathlib.Core.Logic.{◌⊎◌, inl, inr, ⊎_elim}
use mathlib.Core.Bool.{Bool, true, false}
use mathlib.Core.List.Memᴰ
use mathlib.Core.List.{List, [], ◌∷◌, ◌++◌}
use Prim.Native.Nat.{ℕ, suc, ◌+◌, ◌≤◌}
use native.Mathlib.Omega.{arith}
use lib.ListN.{length, length-append}
use Rattle.common.specs.Lists.{◌∈◌, keep}
use Rattle.common.proofs.Tests.{clash}
use Rattle.common.proofs.Lists.{all_cons, keep_nil, keep_yes, keep_no, keep_append, length_keep}
use Rattle.paths.specs.Network.{Path}
use Rattle.paths.specs.Pass.{none, found, scan, scouts}

module _ (f g : Path → Bool) where
  -- not both tests are passed, here or by any member
  abbrev Fails : Path → Type 0
  Fails u = f u ≡ true → g u ≡ true → ⊥

  abbrev pub Neither : List Path → Type 0
  Neither us = (u : Path) → u ∈ us → Fails u

  -- w is the first of ws that passes both tests, and n is c with the number of those up to it that pass the first
  pub record First (c : ℕ) (ws : List Path) (w : Path) (n : ℕ) : Type 0 where
    pub before : List Path
    pub after : List Path
    pub place : ws ≡ before ++ w ∷ after
    pub free : f w ≡ true
    pub whole : g w ≡ true
    pub first : Neither before
    pub sent : n ≡ c + suc (length (keep f before))

  -- what a member adds to the count of those that pass the first test
  abbrev own_count : Path → ℕ
  own_count x = length (keep f (x ∷ []))

  counted : (x : Path) (us : List Path) → length (keep f (x ∷ us)) ≡ own_count x + length (keep f us)
  counted x us = ap length (keep_append f (x ∷ []) us) ∙ length-append (keep f (x ∷ [])) (keep f us)

  -- a scan stops at its first member, or counts it and goes on
  abbrev Stops : Path → List Path → ℕ → Type 0
  Stops x xs c = (f x ≡ true) × (g x ≡ true) × (scan f g c (x ∷ xs) ≡ found x (suc c))

  abbrev GoesOn : Path → List Path → ℕ → Type 0
  GoesOn x xs c = Fails x × (scan f g c (x ∷ xs) ≡ scan f g (c + own_count x) xs)

  step : (x : Path) (xs : List Path) (c : ℕ) → Stops x xs c ⊎ GoesOn x xs c
  step x xs c = go (f x) (g x) refl refl
    where
      go : (a b : Bool) → f x ≡ a → g x ≡ b → Stops x xs c ⊎ GoesOn x xs c
      go true true i j = inl (i, j, unfold scan in rw (i, j))
      go true false i j = let sum : c + own_count x ≡ suc c = omega (arith, ap length (keep_yes f x [] i), ap length (keep_nil f)) in inr ((λ y n. clash n j), rw sum (unfold scan in rw (i, j)))
      go false b i j = let sum : c + own_count x ≡ c = omega (arith, ap length (keep_no f x [] i), ap length (keep_nil f)) in inr ((λ y n. clash y i), rw sum (unfold scan in rw i))

  pub scan_found : (ws : List Path) (c : ℕ) {w : Path} {n : ℕ} → scan f g c ws ≡ found w n → First c ws w n
  scan_found [] c e = let z : ◌≡◌ {A = ℕ} 0 1 = unfold scan in cc in absurd (omega arith)
  scan_found (x ∷ xs) c {w} {n} e = ⊎_elim here (λ r. further r.0 (scan_found xs (c + own_count x) (sym r.1 ∙ e))) (step x xs c)
    where
      here : Stops x xs c → First c (x ∷ xs) w n
      here r =
          let stopped : found x (suc c) ≡ found w n = sym r.2 ∙ e in
          let same : x ≡ w = cc in
          let sum : suc c ≡ n = cc in
          rw (← same)
          record {
            before = [];
            after = xs;
            place = refl;
            free = r.0;
            whole = r.1;
            first = λ u m. absurd (Memᴰ.not-nil m);
            sent = omega (arith, ap length (keep_nil f));
          }

      further : Fails x → First (c + own_count x) xs w n → First c (x ∷ xs) w n
      further fails r =
          record {
            before = x ∷ r.before;
            after = r.after;
            place = ap (x ∷◌) r.place;
            free = r.free;
            whole = r.whole;
            first = all_cons Fails fails r.first;
            sent = omega (arith, r.sent, counted x r.before);
          }

  -- nothing found: no member passes both tests, and all that pass the first were counted
  pub scan_none : (ws : List Path) (c : ℕ) {n : ℕ} → scan f g c ws ≡ none n → Neither ws × (n ≡ c + length (keep f ws))
  scan_none [] c {n} e = let same : c ≡ n = unfold scan in cc in ((λ u m. absurd (Memᴰ.not-nil m)), omega (arith, ap length (keep_nil f)))
  scan_none (x ∷ xs) c {n} e =
      ⊎_elim (λ r. let stopped : found x (suc c) ≡ none n = sym r.2 ∙ e in let z : ◌≡◌ {A = ℕ} 0 1 = cc in absurd (omega arith))
      (λ r. let rest = scan_none xs (c + own_count x) (sym r.1 ∙ e) in (all_cons Fails r.0 rest.0, omega (arith, rest.1, counted x xs))) (step x xs c)

  -- a scan sends at most one scout for each member
  pub scan_sends : (ws : List Path) (c : ℕ) → scouts (scan f g c ws) ≤ c + length ws
  unfolding scouts
  scan_sends [] c = unfold scan in omega arith
  scan_sends (x ∷ xs) c =
      ⊎_elim (λ r. rw r.2 (omega arith)) (λ r. rw r.1 (omega (arith, scan_sends xs (c + own_count x), length_keep f (x ∷ [])))) (step x xs c)
