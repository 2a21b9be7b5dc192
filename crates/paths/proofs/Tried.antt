-- Paths tried in turn are as Searches 8 and Scouts 7 have it.
-- Assumes nothing.
use mathlib.Core.Path.{◌≡◌, refl, ap}
use mathlib.Core.Bool.{Bool, true, false, cond}
use mathlib.Core.List.Memᴰ
use mathlib.Core.List.{List, [], ◌∷◌, nil≢cons}
use Prim.Native.Nat.{ℕ, suc, ◌+◌, ◌*◌, ◌≤◌}
use native.Mathlib.Omega.{arith}
use lib.ListN.{length}
use Rattle.common.specs.Lists.{◌∈◌}
use Rattle.common.proofs.Tests.{clash, both, and}
use Rattle.common.proofs.Lists.{all_cons}
use Rattle.paths.specs.Network.{Network, Path, end, free_path}
use Rattle.paths.specs.Pass.{PassResult, none, found, scouts}
use Rattle.paths.specs.Helix.{free_front, try_paths, Front, no_front, front_more, TriedFound, TriedNone, TriedSays}

-- one step of trying: a free path is found, another is counted and left
module _ (N : Network) (free : ℕ → ℕ → Bool) (s c : ℕ) (w : Path) (ws : List Path) where
  pub try_free : free_path N free s w ≡ true → try_paths N free s c (w ∷ ws) ≡ found w (c + free_front N free s w)
  unfolding try_paths
  try_free e = rw e

  pub try_on : free_path N free s w ≡ false → try_paths N free s c (w ∷ ws) ≡ try_paths N free s (c + free_front N free s w) ws
  try_on e = unfold try_paths in rw e

module _ (N : Network) (free : ℕ → ℕ → Bool) where
  -- the computed count is that of the free hops at the front
  front_is : (n : ℕ) (w : Path) → Front N free n w (free_front N free n w)
  unfolding free_front free_path end
  front_is n [] = record { front = []; rest = []; parts = refl; is_free = refl; stopped = λ q v e. absurd (nil≢cons e); hops = refl }
  front_is n (p ∷ w) = go (free n p) refl (front_is (N.next n p) w)
    where
      go : (b : Bool) → free n p ≡ b → Front N free (N.next n p) w (free_front N free (N.next n p) w)
          → Front N free n (p ∷ w) (free_front N free n (p ∷ w))
      go true e r =
          rw e
          record {
            front = p ∷ r.front;
            rest = r.rest;
            parts = ap (p ∷◌) r.parts;
            is_free = and e r.is_free;
            stopped = r.stopped;
            hops = ap suc r.hops;
          }
      go false e r =
          rw e
          record {
            front = [];
            rest = p ∷ w;
            parts = refl;
            is_free = refl;
            stopped = λ q v i. let same : p ≡ q = cc in rw (← same) e;
            hops = refl;
          }

  -- A free path counts all its hops, and no path counts more than it has.
  pub front_free : (n : ℕ) (w : Path) → free_path N free n w ≡ true → free_front N free n w ≡ length w
  unfolding free_front free_path
  front_free n [] e = refl
  front_free n (p ∷ w) e = let b = both (free n p) (free_path N free (N.next n p) w) e in rw b.0 (ap suc (front_free (N.next n p) w b.1))

  pub front_most : (n : ℕ) (w : Path) → free_front N free n w ≤ length w
  unfolding free_front
  front_most n [] = omega arith
  front_most n (p ∷ w) = go (free n p) (front_most (N.next n p) w)
    where
      go : (b : Bool) → free_front N free (N.next n p) w ≤ length w → cond b (suc (free_front N free (N.next n p) w)) 0 ≤ suc (length w)
      go true h = omega arith
      go false h = omega arith

module _ (N : Network) (free : ℕ → ℕ → Bool) (s : ℕ) where
  -- what paths tried in turn say after c scouts: they send m more
  After : ℕ → List Path → PassResult → Type 0
  After c ws (none n) = (m : ℕ) × (n ≡ c + m) × TriedNone N free s ws m
  After c ws (found w n) = (m : ℕ) × (n ≡ c + m) × TriedFound N free s ws w m

  -- so does the trying of one more before them that is not free,
  after_one : (c : ℕ) (x : Path) (xs : List Path) (y : PassResult) → free_path N free s x ≡ false → After (c + free_front N free s x) xs y
      → After c (x ∷ xs) y
  unfolding After
  after_one c x xs (none n) h r = (
    free_front N free s x + r.0,
    omega (arith, r.1),
    record {
      nothing = all_cons (λ v. free_path N free s v ≡ true → ⊥) (λ i. clash i h) r.2.nothing;
      scouts = front_more (front_is N free s x) r.2.scouts;
    },
  )
  after_one c x xs (found w n) h r = (
    free_front N free s x + r.0,
    omega (arith, r.1),
    record {
      before = x ∷ r.2.before;
      after = r.2.after;
      place = ap (x ∷◌) r.2.place;
      is_free = r.2.is_free;
      first = all_cons (λ v. free_path N free s v ≡ true → ⊥) (λ i. clash i h) r.2.first;
      scouts = front_more (front_is N free s x) r.2.scouts;
    },
  )

  -- and of a list that begins with a free one
  after_free : (c : ℕ) (x : Path) (xs : List Path) → free_path N free s x ≡ true → After c (x ∷ xs) (found x (c + free_front N free s x))
  unfolding After
  after_free c x xs h = (
    free_front N free s x + 0,
    omega arith,
    record {
      before = [];
      after = xs;
      place = refl;
      is_free = h;
      first = λ v m. absurd (Memᴰ.not-nil m);
      scouts = front_more (front_is N free s x) no_front;
    },
  )

  tried_after_lem : (ws : List Path) (c : ℕ) → After c ws (try_paths N free s c ws)
  tried_after_lem [] c = unfold try_paths After in (0, omega arith, record { nothing = λ v m. absurd (Memᴰ.not-nil m); scouts = no_front })
  tried_after_lem (x ∷ xs) c = go (free_path N free s x) refl (tried_after_lem xs (c + free_front N free s x))
    where
      go : (b : Bool) → free_path N free s x ≡ b → After (c + free_front N free s x) xs (try_paths N free s (c + free_front N free s x) xs)
          → After c (x ∷ xs) (try_paths N free s c (x ∷ xs))
      go true h r = rw (try_free N free s c x xs h) (after_free c x xs h)
      go false h r = rw (try_on N free s c x xs h) (after_one c x xs _ h r)

  -- Paths tried in turn are as Searches 8 and Scouts 7 have it.
  pub tried_says : (ws : List Path) → TriedSays N free s ws (try_paths N free s 0 ws)
  tried_says ws = go (try_paths N free s 0 ws) (tried_after_lem ws 0)
    where
      go : (x : PassResult) → After 0 ws x → TriedSays N free s ws x
      go (none n) r = unfold After in (let same : r.0 ≡ n = omega (arith, r.1) in rw (← same) r.2)
      go (found w n) r = unfold After in (let same : r.0 ≡ n = omega (arith, r.1) in rw (← same) r.2)

  -- Each path sends at most as many scouts as it has hops.
  pub tried_sends : (l : ℕ) (ws : List Path) (c : ℕ) → ((w : Path) → w ∈ ws → length w ≤ l) → scouts (try_paths N free s c ws) ≤ c + length ws * l
  unfolding scouts
  tried_sends l [] c h = unfold try_paths in omega arith
  tried_sends l (x ∷ xs) c h = go (free_path N free s x) refl (tried_sends l xs (c + free_front N free s x) (λ w m. h w (Memᴰ.tail m)))
    where
      few : free_front N free s x ≤ l
      few = omega (arith, front_most N free s x, h x (Memᴰ.head refl))

      go : (b : Bool) → free_path N free s x ≡ b → scouts (try_paths N free s (c + free_front N free s x) xs) ≤ c + free_front N free s x + length xs * l
          → scouts (try_paths N free s c (x ∷ xs)) ≤ c + suc (length xs) * l
      go true e ih = rw (try_free N free s c x xs e) (omega (arith, few))
      go false e ih = rw (try_on N free s c x xs e) (omega (arith, few))
