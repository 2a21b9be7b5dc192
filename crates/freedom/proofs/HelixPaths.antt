-- The same of helix paths, where the other cube has no dimension folded that the one has not: then each node offers what it offered there, less some partner ports, so a first
-- port offered that is left stays the first.
-- Assumes nothing.
use mathlib.Core.Path.{◌≡◌, refl, ap, ap₂, sym, ◌∙◌}
use mathlib.Core.Bool.{Bool, true, false, cond, ◌&&◌, and-false}
use mathlib.Core.List.Memᴰ
use mathlib.Core.List.{List, [], ◌∷◌, ◌++◌}
use Prim.Native.Nat.{ℕ, zero, suc, ◌≤◌}
use lib.Dec.{eqb, ltb, leb}
use lib.ListN.{length, take, drop, take-append-drop}
use Rattle.common.specs.Lists.{◌∈◌, keep, from}
use Rattle.common.proofs.Tests.{both, and}
use Rattle.common.proofs.Lists.{keep_yes, keep_append, keep_same, keep_keep, keep_swap}
use Rattle.cube.specs.Axes.{axis, present}
use Rattle.cube.specs.Bits.{has}
use Rattle.cube.specs.Cube.{largest_dimension, uphill}
use Rattle.cube.specs.Helical.{helical}
use Rattle.cube.proofs.Order.{helical_mem}
use Rattle.paths.specs.Network.{Path, offered, take_first, free_path}
use Rattle.paths.specs.Helix.{helix_from, helix_path, IsHelix}
use Rattle.paths.specs.Sentences.{Free}
use Rattle.paths.specs.CubeNetwork.{Shape, Node, ports, network, send_ports}
use Rattle.paths.proofs.CubeNetwork.{port_there, port_inside, offered_port, offered_is, send_port}
use Rattle.paths.proofs.FoldedCube.{port_listed}
use Rattle.paths.proofs.Helix.{helix_only, helix_permitted, cube_helix}
use Rattle.paths.proofs.Inclusion.{FreeHelix}
use Rattle.freedom.proofs.Paths.{FreeInOther, permitted_too}

-- what is kept of a list, in the helical order
helical_kept : (g : ℕ → Bool) (a : ℕ) (ps : List ℕ) → helical a (keep g ps) ≡ keep g (helical a ps)
unfolding helical
helical_kept g a ps = ap₂ ◌++◌ (keep_swap (λ p. ltb a p) g ps) (keep_swap (λ p. leb p a) g ps) ∙ sym (keep_append g (keep (λ p. ltb a p) ps) (keep (λ p. leb p a) ps))

-- the first of a list that is kept is the first of what is kept
first_kept : (g : ℕ → Bool) (p : ℕ) (ps : List ℕ) → p ∈ take 1 ps → g p ≡ true → p ∈ take 1 (keep g ps)
first_kept g p [] m e = absurd (Memᴰ.not-nil m)
first_kept g p (q ∷ qs) m e =
    let i : p ≡ q = Memᴰ.eq_of_singleton m in
    rw (keep_yes g q qs (rw i at e)) (Memᴰ.head i)

module _ (S R : Shape) (same : S.dimension ≡ R.dimension) (fewer : (q : ℕ) → present R.dimension R.fold q ≡ true → present S.dimension S.fold q ≡ true) (f g : ℕ → ℕ → Bool) (more : FreeInOther S R f g) (t : ℕ) where
  abbrev there : ℕ → Bool
  there = present R.dimension R.fold

  ports_kept : ports R ≡ keep there (ports S)
  unfolding ports
  ports_kept = sym (keep_keep there (present S.dimension S.fold) (from 0 18) ∙ keep_same _ _ (from 0 18) (λ q m. go q (there q) refl))
    where
      go : (q : ℕ) (b : Bool) → there q ≡ b → (present S.dimension S.fold q && there q) ≡ there q
      go q true e = and (fewer q e) e ∙ sym e
      go q false e = rw e (and-false (present S.dimension S.fold q))

  tested_kept : (h : ℕ → Bool) → keep h (ports R) ≡ keep there (keep h (ports S))
  tested_kept h = ap (keep h) ports_kept ∙ keep_swap h there (ports S)

  offered_kept : (n : ℕ) → offered (network R) t n ≡ keep there (offered (network S) t n)
  offered_kept n = offered_is R t n ∙ tested_kept (λ q. uphill t n (axis q)) ∙ ap (keep there) (sym (offered_is S t n))

  send_kept : (x : ℕ) → send_ports R x ≡ keep there (send_ports S x)
  unfolding send_ports
  send_kept x = tested_kept (λ q. has x (axis q))

  same_distance : (n : ℕ) → (network R).distance t n ≡ (network S).distance t n
  unfolding network
  same_distance n = ap (λ D. length (keep (uphill t n) (from 0 D))) (sym same)

  -- what follows a first hop, in the one cube and in the other
  abbrev in_one : ℕ → ℕ → ℕ → Path
  in_one k n p = helix_from k (network S) t ((network S).next n p) p

  abbrev in_other : ℕ → ℕ → ℕ → Path
  in_other k n p = helix_from k (network R) t ((network R).next n p) p

  same_hop : (k n a : ℕ) → Node S n → (ps : List ℕ) → helical a (offered (network S) t n) ≡ ps → Free (network S) f n (take_first ps (in_one k n))
      → ((p : ℕ) → Node S ((network S).next n p) → Free (network S) f ((network S).next n p) (in_one k n p) → in_other k n p ≡ in_one k n p)
      → take_first (keep there ps) (in_other k n) ≡ take_first ps (in_one k n)
  unfolding take_first keep free_path
  same_hop k n a i [] o e on = refl
  same_hop k n a i (p ∷ ps) o e on =
      let b = both (f n p) _ e in
      let m = (offered_port S t n p (helical_mem a _ (rw o (Memᴰ.head refl)))).0 in
      let yes : there p ≡ true = (more n p (i, port_there S p m) b.0).0 in
      rw (keep_yes there p ps yes) (ap (p ∷◌) (on p (port_inside S n p i m) b.1))

  -- So a helix path that is free goes on in the other cube as it does in the one.
  same_from : (k n a : ℕ) → Node S n → Free (network S) f n (helix_from k (network S) t n a) → helix_from k (network R) t n a ≡ helix_from k (network S) t n a
  unfolding helix_from network
  same_from zero n a i e = refl
  same_from (suc k) n a i e = step (eqb n t) e (λ p j z. same_from k ((network S).next n p) p j z)
    where
      step : (b : Bool) → Free (network S) f n (cond b [] (take_first (helical a (offered (network S) t n)) (in_one k n)))
          → ((p : ℕ) → Node S ((network S).next n p) → Free (network S) f ((network S).next n p) (in_one k n p) → in_other k n p ≡ in_one k n p)
          → cond b [] (take_first (helical a (offered (network R) t n)) (in_other k n)) ≡ cond b [] (take_first (helical a (offered (network S) t n)) (in_one k n))
      step true e on = refl
      step false e on =
          ap (λ ps. take_first ps (in_other k n)) (ap (helical a) (offered_kept n) ∙ helical_kept there a _) ∙ same_hop k n a i (helical a (offered (network S) t n)) refl e on

  module _ (fits : S.dimension ≤ largest_dimension) (s : ℕ) (source : Node S s) (target : Node S t) where
    same_path : (p : ℕ) → p ∈ ports S → Free (network S) f s (helix_path (network S) s t p) → helix_path (network R) s t p ≡ helix_path (network S) s t p
    unfolding helix_path network free_path
    same_path p m e =
        let n : ℕ = (network S).next s p in
        let b = both (f s p) _ e in
        ap (λ k. p ∷ helix_from k (network R) t n p) (same_distance n) ∙ ap (p ∷◌) (same_from ((network S).distance t n) n p (port_inside S s p source m) b.1)

    first_hop : (p : ℕ) → Free (network S) f s (helix_path (network S) s t p) → f s p ≡ true
    unfolding helix_path free_path
    first_hop p e = (both (f s p) _ e).0

    -- A helix path that is free in the one cube is one in the other, and free there.
    helix_too : (p : ℕ) → p ∈ ports S → (w : Path) → IsHelix (network S) s t p w → Free (network S) f s w → (there p ≡ true) × IsHelix (network R) s t p w × Free (network R) g s w
    helix_too p m w h e =
        let is = helix_only (network S) s t p h (cube_helix S fits s t p source target m) in
        let z : Free (network S) f s (helix_path (network S) s t p) = rw is at e in
        let yes = (more s p (source, port_there S p m) (first_hop p z)).0 in
        let too = permitted_too S R f g more t (p ∷ []) (p ∷ []) (λ q k. rw (Memᴰ.eq_of_singleton k) m) (λ q k j. k) s w source (helix_permitted (network S) s t p h (p ∷ []) (Memᴰ.head refl)) e in
        let there_is = cube_helix R (rw (← same) fits) s t p (rw (← same) source) (rw (← same) target) (port_listed R p yes) in
        (yes, rw (is ∙ sym (same_path p m z)) there_is, too.1)

    -- So type 1 has one of the ports of its vector,
    pub helix_too_of : (x : ℕ) → FreeHelix (network S) f s t (send_ports S x) → FreeHelix (network R) g s t (send_ports R x)
    helix_too_of x h =
        let k = (send_port S x h.0).0 h.1 in
        let r = helix_too h.0 k.0 h.2.0 h.2.1 h.2.2 in
        (h.0, (send_port R x h.0).1 (port_listed R h.0 r.0, k.1), (h.2.0, r.1, r.2))

    -- and type 3 that of the lowest.
    pub lowest_too_of : (x : ℕ) → FreeHelix (network S) f s t (take 1 (send_ports S x)) → FreeHelix (network R) g s t (take 1 (send_ports R x))
    lowest_too_of x h =
        let k = (send_port S x h.0).0 (rw (take-append-drop 1 (send_ports S x)) at (Memᴰ.append_left (drop 1 (send_ports S x)) h.1)) in
        let r = helix_too h.0 k.0 h.2.0 h.2.1 h.2.2 in
        (h.0, rw (send_kept x) (first_kept there h.0 (send_ports S x) h.1 r.0), (h.2.0, r.1, r.2))
