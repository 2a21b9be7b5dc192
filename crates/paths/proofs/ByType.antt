-- What a send of a routing type may find, for each type by what the code decides: helix paths one by one, and passes by the nodes that reach the target.
-- Assumes nothing.
use mathlib.Core.Path.{◌≡◌, refl, ap, ◌∙◌}
use mathlib.Core.Logic.{⊎_elim, ◌≢◌}
use mathlib.Core.Bool.{Bool, true, false, cond, ◌&&◌, ◌||◌, or-false}
use mathlib.Core.List.Memᴰ
use mathlib.Core.List.{List, [], ◌∷◌, map}
use Prim.Native.Nat.{ℕ, zero, suc, ◌+◌}
use lib.Dec.{eqb}
use lib.ListN.{take}
use borrow.Author.Tests.{eq-eqb, ne_eqb}
use Rattle.common.specs.Lists.{◌∈◌, any}
use Rattle.common.proofs.Tests.{either, or_left, or_right}
use Rattle.common.proofs.Lists.{any_some, some_any}
use Rattle.cube.specs.Bits.{has}
use Rattle.cube.specs.Axes.{axis}
use Rattle.cube.specs.Helical.{helical}
use Rattle.cube.proofs.Order.{helical_mem}
use Rattle.paths.specs.Network.{Network, Path, offered, take_first, free_path, Nearing}
use Rattle.paths.specs.Pass.{pass}
use Rattle.paths.specs.Helix.{helix_from, helix_path, free_front, try_paths}
use Rattle.paths.specs.Send.{pass_over, helix_paths, attempted}
use Rattle.paths.specs.CubeNetwork.{Shape, ports, network, send_ports, other_ports, attempts}
use Rattle.paths.specs.Waiting.{finds_path, some_attempt}
use Rattle.paths.specs.Reach.{reaches}
use Rattle.paths.proofs.CubeNetwork.{send_port, other_port}
use Rattle.paths.proofs.Reach.{same_truth, pass_reaches}
use Rattle.paths.proofs.Tried.{try_on}

-- paths tried in turn find one exactly where one of them is free
paths_find : (N : Network) (allowed : ℕ → ℕ → Bool) (s c : ℕ) (ws : List Path) → finds_path (try_paths N allowed s c ws) ≡ any (free_path N allowed s) ws
unfolding finds_path any
paths_find N allowed s c [] = unfold try_paths in refl
paths_find N allowed s c (w ∷ ws) = go (free_path N allowed s w) refl (paths_find N allowed s (c + free_front N allowed s w) ws)
  where
    go : (b : Bool) → free_path N allowed s w ≡ b → finds_path (try_paths N allowed s (c + free_front N allowed s w) ws) ≡ any (free_path N allowed s) ws
        → finds_path (try_paths N allowed s c (w ∷ ws)) ≡ free_path N allowed s w || any (free_path N allowed s) ws
    go true e ih = unfold try_paths in rw e
    go false e ih = rw (try_on N allowed s c w ws e, e) ih

any_map : {A B : Type 0} (f : B → Bool) (g : A → B) (xs : List A) → any f (map g xs) ≡ any (λ x. f (g x)) xs
unfolding any
any_map f g [] = refl
any_map f g (x ∷ xs) = ap (f (g x) ||◌) (any_map f g xs)

module _ (N : Network) (allowed : ℕ → ℕ → Bool) (s t : ℕ) where
  -- the helix path of a port is over links that may be taken
  abbrev pub helix_free : ℕ → Bool
  helix_free p = free_path N allowed s (helix_path N s t p)

  pub helix_finds : (ps : List ℕ) → finds_path (attempted N allowed s t (helix_paths ps)) ≡ any helix_free ps
  unfolding attempted
  helix_finds ps = paths_find N allowed s 0 (map (helix_path N s t) ps) ∙ any_map (free_path N allowed s) (helix_path N s t) ps

-- A helix path hop by hop: it ends where its hop comes to the target, and otherwise goes on as the helix path of the next port.
module _ (N : Network) (t : ℕ) where
  from_there : (k m a : ℕ) → m ≡ t → helix_from k N t m a ≡ []
  unfolding helix_from
  from_there zero m a e = refl
  from_there (suc k) m a e = rw (eq-eqb m t e)

  pub helix_ends : (n p : ℕ) → N.next n p ≡ t → helix_path N n t p ≡ p ∷ []
  unfolding helix_path
  helix_ends n p e = ap (p ∷◌) (from_there (N.distance t (N.next n p)) (N.next n p) p e)

  pub helix_goes_on : Nearing N t → (n p q : ℕ) (qs : List ℕ) → N.next n p ≢ t → helical p (offered N t (N.next n p)) ≡ q ∷ qs
      → helix_path N n t p ≡ p ∷ helix_path N (N.next n p) t q
  unfolding helix_path
  helix_goes_on near n p q qs off e = ap (p ∷◌) (ap (λ k. helix_from k N t m p) (near.nearer m q here) ∙ on)
    where
      m : ℕ
      m = N.next n p

      here : q ∈ offered N t m
      here = helical_mem p (offered N t m) (rw e (Memᴰ.head refl))

      on : helix_from (suc (N.distance t (N.next m q))) N t m p ≡ q ∷ helix_from (N.distance t (N.next m q)) N t (N.next m q) q
      on = unfold helix_from take_first in rw (ne_eqb m t off, e)

-- Both vectors of type 4 together have all ports.
module _ (S : Shape) (allowed : ℕ → ℕ → Bool) (s t : ℕ) where
  abbrev pass_finds : List ℕ → Bool
  pass_finds ps = finds_path (pass (network S) allowed s ps t)

  both_vectors : (vector : ℕ) → pass_finds (send_ports S vector) || pass_finds (other_ports S vector) ≡ pass_finds (ports S)
  both_vectors vector =
      rw (finds (send_ports S vector), finds (other_ports S vector), finds (ports S))
      (same_truth _ _
      (λ e. ⊎_elim (λ i. let r = any_some on (send_ports S vector) i in some_any on (ports S) ((send_port S vector r.0).0 r.1).0 r.2)
      (λ i. let r = any_some on (other_ports S vector) i in some_any on (ports S) ((other_port S vector r.0).0 r.1).0 r.2) (either _ _ e))
      (λ e. let r = any_some on (ports S) e in go r.0 r.1 r.2 (has vector (axis r.0)) refl))
    where
      on : ℕ → Bool
      on p = allowed s p && reaches (network S) allowed t ((network S).next s p)

      finds : (ps : List ℕ) → pass_finds ps ≡ any on ps
      finds = pass_reaches (network S) allowed t s

      go : (p : ℕ) → p ∈ ports S → on p ≡ true → (b : Bool) → has vector (axis p) ≡ b → any on (send_ports S vector) || any on (other_ports S vector) ≡ true
      go p m i true h = or_left _ (some_any on (send_ports S vector) ((send_port S vector p).1 (m, h)) i)
      go p m i false h = or_right (any on (send_ports S vector)) (some_any on (other_ports S vector) ((other_port S vector p).1 (m, h)) i)

  -- What each routing type may find.
  pub finds_by_type : (type vector : ℕ)
      → some_attempt (network S) allowed s t (attempts S type vector)
      ≡ cond (eqb type 3) (any (helix_free (network S) allowed s t) (take 1 (send_ports S vector)))
      (cond (eqb type 1) (any (helix_free (network S) allowed s t) (send_ports S vector))
      (cond (eqb type 4) (pass_finds (ports S)) (pass_finds (send_ports S vector))))
  unfolding some_attempt attempts any
  finds_by_type type vector = go (eqb type 3) (eqb type 1) (eqb type 4)
    where
      helix : (ps : List ℕ) → finds_path (attempted (network S) allowed s t (helix_paths ps)) || false ≡ any (helix_free (network S) allowed s t) ps
      helix ps = or-false _ ∙ helix_finds (network S) allowed s t ps

      go : (x y z : Bool)
          → any finds_path (map (attempted (network S) allowed s t) (cond x (helix_paths (take 1 (send_ports S vector)) ∷ [])
          (cond y (helix_paths (send_ports S vector) ∷ []) (pass_over (send_ports S vector) ∷ cond z (pass_over (other_ports S vector) ∷ []) []))))
          ≡ cond x (any (helix_free (network S) allowed s t) (take 1 (send_ports S vector)))
          (cond y (any (helix_free (network S) allowed s t) (send_ports S vector)) (cond z (pass_finds (ports S)) (pass_finds (send_ports S vector))))
      go true y z = helix (take 1 (send_ports S vector))
      go false true z = helix (send_ports S vector)
      go false false true = unfold attempted in (ap (pass_finds (send_ports S vector) ||◌) (or-false (pass_finds (other_ports S vector))) ∙ both_vectors vector)
      go false false false = unfold attempted in or-false (pass_finds (send_ports S vector))
