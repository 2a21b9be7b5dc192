-- A helix path of a cube link by link, and that it is the same in each cube that has its source, its target and its first port.
-- Assumes nothing.
use mathlib.Core.Path.{◌≡◌, refl, ap, sym, ◌∙◌}
use mathlib.Core.Logic.{◌≢◌}
use mathlib.Core.Bool.{Bool, true, false, cond, not, ◌&&◌, ◌||◌, and-false}
use mathlib.Core.List.Memᴰ
use mathlib.Core.List.{List, [], ◌∷◌}
use Prim.Native.Nat.{ℕ, zero, suc, ◌+◌, ◌≤◌, ◌<◌}
use native.Mathlib.Omega.{arith}
use native.Mathlib.Nat.{le_refl}
use lib.Bits.{bit_xor}
use lib.Dec.{eqb, ltb}
use borrow.Author.Tests.{eq-eqb, lt-ltb, ltb-true, ltb-false}
use lib.ListN.{length}
use Rattle.std.specs.List.{list_all, prefix_len}
use Rattle.common.proofs.Tests.{clash}
use Rattle.common.specs.Lists.{◌∈◌, from}
use Rattle.common.proofs.Lists.{keep_same}
use Rattle.common.proofs.From.{keep_wider}
use Rattle.cube.specs.Axes.{positions, axis, present}
use Rattle.cube.specs.Bits.{bit_at, has}
use Rattle.cube.specs.Cube.{largest_dimension, next, uphill}
use Rattle.cube.specs.CubeContracts.{WithPartners, FirstTried}
use Rattle.cube.specs.Helical.{helical, ports_of}
use Rattle.cube.proofs.Axes.{present_axis}
use Rattle.cube.proofs.Bits.{zero_has, bit_high}
use Rattle.cube.proofs.Order.{helical_mem, ports_mem}
use Rattle.paths.specs.Network.{Network, Path, offered, take_first, links, free_path}
use Rattle.paths.specs.Helix.{helix_from, helix_path, free_front}
use Rattle.paths.specs.CubeNetwork.{Shape, Node, ports, network}
use Rattle.paths.specs.HelixLinks.{largest, largest_network, helix_links}
use Rattle.paths.proofs.CubeNetwork.{cube_nearing, cube_leading, port_inside, offered_port}
use Rattle.paths.proofs.FoldedCube.{partners_offered}
use Rattle.paths.proofs.ByType.{helix_ends, helix_goes_on}

-- A path by its links: how many there are, whether all of them may be taken, and how many of them may at its front.
module _ (N : Network) where
  pub length_links : (n : ℕ) (w : Path) → length (links N n w) ≡ length w
  unfolding links
  length_links n [] = refl
  length_links n (p ∷ w) = ap suc (length_links (N.next n p) w)

  module _ (free : ℕ → ℕ → Bool) where
    pub free_path_test : (n : ℕ) (w : Path) → free_path N free n w ≡ list_all (λ l. free l.0 l.1) (links N n w)
    unfolding free_path links
    free_path_test n [] = refl
    free_path_test n (p ∷ w) = ap (free n p &&◌) (free_path_test (N.next n p) w)

    pub front_links : (n : ℕ) (w : Path) → free_front N free n w ≡ prefix_len (λ l. free l.0 l.1) (links N n w)
    unfolding free_front links
    front_links n [] = refl
    front_links n (p ∷ w) =
        let more : suc (free_front N free (N.next n p) w) ≡ 1 + prefix_len (λ l. free l.0 l.1) (links N (N.next n p) w) = omega (arith, front_links (N.next n p) w) in
        ap (λ k. cond (free n p) k 0) more

-- A link of the helix path of p from n to t, which leads to m.
pub reached : (f : ℕ) {n p m : ℕ} → n < 256 → p ∈ ports (largest f) → m ≡ next n p → m < 256
reached f {n} {p} inside port to = rw to (unfold network in port_inside (largest f) n p inside port)

module _ (f : ℕ) {n t p : ℕ} (target : t < 256) (inside : n < 256) (port : p ∈ ports (largest f)) {m : ℕ} (to : m ≡ next n p) where
  -- at the target it is the last
  pub links_end : m ≡ t → helix_links f n t p ≡ (n, p) ∷ []
  unfolding helix_links links network largest_network
  links_end there = rw (helix_ends (largest_network f) t n p (sym to ∙ there))

  -- Off the target it goes on over the port that is tried first of the uphill vector with its partners.
  module _ (off : m ≢ t) {v : ℕ} (up : WithPartners f (bit_xor m t) v) where
    pub offers : offered (largest_network f) t m ≡ ports_of positions v
    unfolding largest_network
    offers = partners_offered (largest f) (le_refl 8) m t v (reached f inside port to) target up

    pub some_offered : v ≢ 0
    unfolding largest_network
    some_offered e =
        let p = (cube_leading (largest f) (le_refl 8) t target).leads m (reached f inside port to) off in
        clash (ports_mem 18 v (rw offers at p.1)).1 (rw e (zero_has p.0))

    pub links_on : {q : ℕ} → FirstTried positions v p q → helix_links f n t p ≡ (n, p) ∷ helix_links f m t q
    unfolding helix_links links network largest_network
    links_on {q} tried =
        rw (helix_goes_on (largest_network f) t (cube_nearing (largest f) t) n p q _ (λ z. off (to ∙ z)) (rw to at (ap (helical p) offers ∙ tried.rest)), to)

-- In a smaller cube the nodes of a path offer the same ports, and the target is as far.
module _ (S : Shape) (h : S.dimension ≤ largest_dimension) (t : ℕ) (target : Node S t) where
  abbrev L : Network
  L = largest_network S.fold

  -- no axis outside the cube is uphill at a node of it
  level : (n a : ℕ) → Node S n → S.dimension ≤ a → uphill t n a ≡ false
  unfolding uphill
  level n a i l = ap not (eq-eqb (bit_at n a) (bit_at t a) (bit_high S.dimension n a i l ∙ sym (bit_high S.dimension t a target l)))

  same_offered : (n : ℕ) → Node S n → offered (network S) t n ≡ offered L t n
  unfolding offered network largest_network present
  same_offered n i = keep_same _ _ (from 0 18) (λ q m. go q (ltb (axis q) S.dimension) refl)
    where
      go : (q : ℕ) (b : Bool) → ltb (axis q) S.dimension ≡ b
          → ((ltb q 18 && (b && (eqb q (axis q) || has S.fold (axis q)))) && uphill t n (axis q))
          ≡ ((ltb q 18 && (ltb (axis q) 8 && (eqb q (axis q) || has S.fold (axis q)))) && uphill t n (axis q))
      go q true e = rw (lt-ltb (axis q) 8 (omega (arith, ltb-true (axis q) S.dimension e)))
      go q false e = rw (level n (axis q) i (ltb-false (axis q) S.dimension e), and-false (ltb q 18)) (sym (and-false _))

  same_distance : (n : ℕ) → Node S n → (network S).distance t n ≡ L.distance t n
  unfolding network largest_network
  same_distance n i = ap length (sym (keep_wider (uphill t n) 0 S.dimension 8 h (λ a l. level n a i (omega arith))))

  same_from : (k n a : ℕ) → Node S n → helix_from k (network S) t n a ≡ helix_from k L t n a
  unfolding helix_from take_first network largest_network
  same_from zero n a i = refl
  same_from (suc k) n a i =
      rw (← same_offered n i) (ap (cond (eqb n t) []) (on (helical a (offered (network S) t n)) refl (λ p l. same_from k (next n p) p l)))
    where
      on : (ps : List ℕ) → helical a (offered (network S) t n) ≡ ps → ((p : ℕ) → Node S (next n p) → helix_from k (network S) t (next n p) p ≡ helix_from k L t (next n p) p)
          → take_first ps (λ p. helix_from k (network S) t ((network S).next n p) p) ≡ take_first ps (λ p. helix_from k L t (L.next n p) p)
      on [] e more = refl
      on (p ∷ ps) e more =
          let there = (offered_port S t n p (helical_mem a _ (rw e (Memᴰ.head refl)))).0 in
          ap (p ∷◌) (more p (port_inside S n p i there))

  pub same_helix : (n p : ℕ) → Node S n → p ∈ ports S → helix_path (network S) n t p ≡ helix_path L n t p
  unfolding helix_path network largest_network
  same_helix n p i m =
      let there : Node S (next n p) = unfold network in port_inside S n p i m in
      ap (p ∷◌) (ap (λ k. helix_from k (network S) t (next n p) p) (same_distance (next n p) there) ∙ same_from (L.distance t (next n p)) (next n p) p there)

  same_links : (n : ℕ) (w : Path) → links (network S) n w ≡ links L n w
  unfolding links network largest_network
  same_links n [] = refl
  same_links n (p ∷ w) = ap ((n, p) ∷◌) (same_links (next n p) w)

  pub links_of : (n p : ℕ) → Node S n → p ∈ ports S → links (network S) n (helix_path (network S) n t p) ≡ helix_links S.fold n t p
  unfolding helix_links
  links_of n p i m = same_links n _ ∙ ap (links L n) (same_helix n p i m)

  -- a port of it is one of the largest cube
  pub port_largest : (p : ℕ) → present S.dimension S.fold p ≡ true → present largest_dimension S.fold p ≡ true
  unfolding present
  port_largest p e =
      let a = present_axis S.dimension S.fold p e in
      go a.1 a.0 (rw (lt-ltb (axis p) S.dimension a.1, lt-ltb p 18 a.0) at e)
    where
      go : axis p < S.dimension → p < 18 → (true && (true && (eqb p (axis p) || has S.fold (axis p)))) ≡ true → present 8 S.fold p ≡ true
      go l k e = rw (lt-ltb p 18 k, lt-ltb (axis p) 8 (omega arith)) e
