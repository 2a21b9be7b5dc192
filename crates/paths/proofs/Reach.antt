-- A pass finds a path exactly where a port of its vector may be taken and leads to a node that reaches the target.
-- Assumes nothing.
use mathlib.Core.Path.{◌≡◌, refl, ap, sym, ◌∙◌}
use mathlib.Core.Bool.{Bool, true, false, cond, ◌&&◌, ◌||◌, or-false}
use mathlib.Core.List.{List, [], ◌∷◌}
use Prim.Native.Nat.{ℕ, zero, suc}
use native.Mathlib.Omega.{arith}
use lib.Dec.{eqb}
use Rattle.common.specs.Lists.{◌∈◌, any}
use Rattle.common.proofs.Tests.{is_false}
use Rattle.common.proofs.Lists.{any_some, some_any}
use Rattle.cube.specs.Helical.{helical}
use Rattle.cube.proofs.Order.{helical_mem, mem_helical}
use Rattle.paths.specs.Network.{Network, offered, Nearing}
use Rattle.paths.specs.Pass.{PassResult, none, found, pass}
use Rattle.paths.specs.Search.{hop_or, trying, arriving, sending}
use Rattle.paths.specs.Waiting.{finds_path}
use Rattle.paths.specs.Reach.{reaches_in, reaches}
use Rattle.paths.proofs.Depth.{trying_cons, search_is_pass}

-- two tests that are true of each other are the same
pub same_truth : (a b : Bool) → (a ≡ true → b ≡ true) → (b ≡ true → a ≡ true) → a ≡ b
same_truth true b h k = sym (h refl)
same_truth false true h k = k refl
same_truth false false h k = refl

-- some member passes the one test exactly where some member of another list passes the other
pub any_both : {A B : Type 0} (f : A → Bool) (g : B → Bool) (xs : List A) (ys : List B)
    → ((x : A) → x ∈ xs → f x ≡ true → (y : B) × (y ∈ ys) × (g y ≡ true)) → ((y : B) → y ∈ ys → g y ≡ true → (x : A) × (x ∈ xs) × (f x ≡ true))
    → any f xs ≡ any g ys
any_both f g xs ys there back =
    same_truth _ _ (λ e. let r = any_some f xs e in let k = there r.0 r.1 r.2 in some_any g ys k.1 k.2)
    (λ e. let r = any_some g ys e in let k = back r.0 r.1 r.2 in some_any f xs k.1 k.2)

-- so for two tests that agree on the members of one list
pub any_same : {A : Type 0} (f g : A → Bool) (xs : List A) → ((x : A) → x ∈ xs → f x ≡ g x) → any f xs ≡ any g xs
any_same f g xs h = any_both f g xs xs (λ x m e. (x, m, sym (h x m) ∙ e)) (λ x m e. (x, m, h x m ∙ e))

-- ports tried in turn find a path exactly where one that is free has a path behind it
finds_trying : (f g : ℕ → Bool) (on : ℕ → ℕ → PassResult) → ((p c : ℕ) → finds_path (on p c) ≡ g p) → (ps : List ℕ) (c : ℕ)
    → finds_path (trying f on ps c) ≡ any (λ p. f p && g p) ps
unfolding finds_path any
finds_trying f g on h [] c = unfold trying in refl
finds_trying f g on h (p ∷ ps) c = rw (trying_cons f on p ps c) (go (f p) (on p (suc c)) (h p (suc c)) (finds_trying f g on h ps))
  where
    go : (b : Bool) (x : PassResult) → finds_path x ≡ g p → ((d : ℕ) → finds_path (trying f on ps d) ≡ any (λ p. f p && g p) ps)
        → finds_path (cond b (hop_or p x (trying f on ps)) (trying f on ps c)) ≡ (b && g p) || any (λ p. f p && g p) ps
    go true (none d) e ih = unfold hop_or in rw (← e) (ih d)
    go true (found w d) e ih = unfold hop_or in rw (← e)
    go false x e ih = ih c

module _ (N : Network) (allowed : ℕ → ℕ → Bool) (t : ℕ) where
  -- the order in which ports are tried does not matter
  any_helical : (f : ℕ → Bool) (a : ℕ) (ps : List ℕ) → any f (helical a ps) ≡ any f ps
  any_helical f a ps = any_both f f _ ps (λ p m e. (p, helical_mem a ps m, e)) (λ p m e. (p, mem_helical a ps m, e))

  -- one step of each recursion, to rewrite by
  arriving_step : (k n a c : ℕ)
      → arriving (suc k) N allowed t n a c
      ≡ cond (eqb n t) (found [] c) (trying (allowed n) (λ p. arriving k N allowed t (N.next n p) p) (helical a (offered N t n)) c)
  unfolding arriving
  arriving_step k n a c = refl

  arriving_none : (n a c : ℕ) → arriving 0 N allowed t n a c ≡ cond (eqb n t) (found [] c) (none c)
  unfolding arriving
  arriving_none n a c = refl

  abbrev on_in : ℕ → ℕ → ℕ → Bool
  on_in k n p = allowed n p && reaches_in N allowed t k (N.next n p)

  in_step : (k n : ℕ) → reaches_in N allowed t (suc k) n ≡ eqb n t || any (on_in k n) (offered N t n)
  unfolding reaches_in
  in_step k n = refl

  in_none : (n : ℕ) → reaches_in N allowed t 0 n ≡ eqb n t
  unfolding reaches_in
  in_none n = refl

  finds_none : (c : ℕ) → finds_path (none c) ≡ false
  unfolding finds_path
  finds_none c = refl

  at_target : (c : ℕ) (b : Bool) (x : PassResult) {y : Bool} → finds_path x ≡ y → finds_path (cond b (found [] c) x) ≡ b || y
  unfolding finds_path
  at_target c true x e = refl
  at_target c false x e = e

  finds_arriving : (k n a c : ℕ) → finds_path (arriving k N allowed t n a c) ≡ reaches_in N allowed t k n
  finds_arriving zero n a c = rw (arriving_none n a c, in_none n) (at_target c (eqb n t) (none c) (finds_none c) ∙ or-false (eqb n t))
  finds_arriving (suc k) n a c =
      rw (arriving_step k n a c, in_step k n)
      (at_target c (eqb n t) _
      (finds_trying (allowed n) (λ p. reaches_in N allowed t k (N.next n p)) _ (λ p. finds_arriving k (N.next n p) p) (helical a (offered N t n)) c
      ∙ any_helical (on_in k n) a (offered N t n)))

  -- A pass finds a path exactly where a port of its vector may be taken and leads to a node that reaches the target,
  pub pass_reaches : (s : ℕ) (vector : List ℕ) → finds_path (pass N allowed s vector t) ≡ any (λ p. allowed s p && reaches N allowed t (N.next s p)) vector
  unfolding sending reaches
  pass_reaches s vector =
      ap finds_path (sym (search_is_pass N allowed s vector t))
      ∙ finds_trying (allowed s) _ _ (λ p. finds_arriving (N.distance t (N.next s p)) (N.next s p) p) vector 0

  -- and a node reaches the target where it is the target, or where a port that it offers may be taken and leads to a node that does.
  pub reaches_step : Nearing N t → (n : ℕ) → reaches N allowed t n ≡ eqb n t || any (λ p. allowed n p && reaches N allowed t (N.next n p)) (offered N t n)
  unfolding reaches
  reaches_step near n = go (N.distance t n) refl
    where
      on : ℕ → Bool
      on p = on_in (N.distance t (N.next n p)) n p

      go : (d : ℕ) → N.distance t n ≡ d → reaches_in N allowed t d n ≡ eqb n t || any on (offered N t n)
      go zero e =
          let nothing : any on (offered N t n) ≡ false =
          is_false _ (λ k. let r = any_some on (offered N t n) k in omega (arith, near.nearer n r.0 r.1)) in
          in_none n ∙ sym (ap (eqb n t ||◌) nothing ∙ or-false (eqb n t))
      go (suc d) e =
          in_step d n
          ∙ ap (eqb n t ||◌)
          (any_same (on_in d n) on (offered N t n) (λ p m. let k : d ≡ N.distance t (N.next n p) = omega (arith, near.nearer n p m) in ap (λ j. on_in j n p) k))
