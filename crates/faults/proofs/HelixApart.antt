-- Where nothing is folded, a link tells the port whose helix path it is on. So the helix paths of two ports share none.
-- Assumes nothing.
use mathlib.Core.Path.{◌≡◌, refl, ap, sym, ◌∙◌}
use mathlib.Core.Logic.{◌⊎◌, inl, inr, ⊎_elim, ◌≢◌}
use mathlib.Core.Bool.{Bool, true, false, cond, not}
use mathlib.Core.List.Memᴰ
use mathlib.Core.List.{List, [], ◌∷◌}
use Prim.Native.Nat.{ℕ, zero, suc, ◌≤◌, ◌<◌}
use native.Mathlib.Omega.{arith}
use Rattle.common.specs.Lists.{◌∈◌, Pairwise, from}
use lib.Dec.{eqb}
use Rattle.common.proofs.Tests.{same?, clash, below_or}
use Rattle.common.proofs.Lists.{keep_mem, mem_keep}
use Rattle.common.proofs.From.{from_below, below_from}
use Rattle.cube.specs.Bits.{flip}
use Rattle.cube.specs.Axes.{axis}
use Rattle.cube.specs.Cube.{largest_dimension, uphill}
use Rattle.cube.specs.Helical.{helical}
use Rattle.cube.proofs.Axes.{axis_low}
use Rattle.cube.proofs.Order.{helical_mem, mem_helical}
use Rattle.paths.specs.Network.{Network, Link, offered, take_first, links}
use Rattle.paths.specs.Permitted.{Sooner}
use Rattle.paths.specs.Helix.{helix_from, helix_path}
use Rattle.paths.specs.CubeNetwork.{Shape, unfolded, network}
use Rattle.paths.proofs.CubeNetwork.{uphill_flipped, uphill_kept, uphill_there, unfolded_offered}
use Rattle.paths.proofs.Order.{helical_pairwise, offered_pairwise}
use Rattle.faults.specs.Theorems.{HelixPathsApart}

-- The link out of port q of node n is one of the helix path of port p from s: it is the first, or p's bit was changed before it and every other changed bit
-- is tried before q behind an arrival on p. (`uphill s n x` says that s and n differ in bit x.)
unfoldable pub Own : ℕ → ℕ → ℕ → ℕ → Type 0
Own s p n q = ((n ≡ s) × (q ≡ p)) ⊎ ((uphill s n p ≡ true) × ((x : ℕ) → uphill s n x ≡ true → (x ≡ p) ⊎ Sooner p x q))

-- behind an arrival on p nothing is tried after p itself
sooner_last : (p y : ℕ) → Sooner p p y → ⊥
unfolding Sooner
sooner_last p y h = ⊎_elim (λ x. omega arith) (λ k. ⊎_elim (λ x. omega arith) (λ x. omega arith) k) h

-- neither of two ports is tried before a third behind an arrival on the other
both_sooner : (p r q : ℕ) → Sooner p r q → Sooner r p q → ⊥
unfolding Sooner
both_sooner p r q h k =
    ⊎_elim (λ x. ⊎_elim (λ y. omega arith) (λ c. ⊎_elim (λ y. omega arith) (λ y. omega arith) c) k)
    (λ b. ⊎_elim (λ x. ⊎_elim (λ y. omega arith) (λ c. ⊎_elim (λ y. omega arith) (λ y. omega arith) c) k)
    (λ x. ⊎_elim (λ y. omega arith) (λ c. ⊎_elim (λ y. omega arith) (λ y. omega arith) c) k) b) h

-- So no link is one of two helix paths.
pub own_once : (s p r n q : ℕ) → Own s p n q → Own s r n q → p ≡ r
unfolding Own
own_once s p r n q (inl a) (inl b) = sym a.1 ∙ b.1
own_once s p r n q (inl a) (inr b) = absurd (clash (rw a.0 at b.0) (uphill_there s r))
own_once s p r n q (inr a) (inl b) = absurd (clash (rw b.0 at a.0) (uphill_there s p))
own_once s p r n q (inr a) (inr b) = ⊎_elim (λ e. e) (λ h. absurd (other h (a.1 r b.0) (b.1 p a.0))) (same? p r)
  where
    other : p ≢ r → (r ≡ p) ⊎ Sooner p r q → (p ≡ r) ⊎ Sooner r p q → ⊥
    other h (inl e) k = h (sym e)
    other h (inr x) (inl e) = h e
    other h (inr x) (inr y) = both_sooner p r q x y

-- of what is tried behind an arrival on a, and all of it after a behind an arrival on p, the order is the same behind an arrival on p
sooner_on : (p a q y : ℕ) → (a ≡ p) ⊎ Sooner p a q → (a ≡ p) ⊎ Sooner p a y → Sooner a q y → Sooner p q y
unfolding Sooner
sooner_on p a q y (inl e) h k = rw e at k
sooner_on p a q y (inr g) (inl e) k = rw e at k
sooner_on p a q y (inr g) (inr h) k =
    ⊎_elim (λ low. inr (inr (grind arith, grind arith))) (λ high. ⊎_elim (λ low. inl (grind arith, grind arith)) (λ above. inr (inl (grind arith, grind arith))) (below_or (suc p) y)) (below_or (suc p) q)

module _ (D : ℕ) (fits : D ≤ largest_dimension) (s t p : ℕ) (below : p < D) where
  abbrev S : Shape
  S = unfolded D

  abbrev N : Network
  N = network S

  -- an offered port is uphill and below D
  up : (n y : ℕ) → y ∈ offered N t n → (y < D) × (uphill t n y ≡ true)
  up n y m = let k = keep_mem (uphill t n) (from 0 D) (rw (unfolded_offered S fits refl t n) at m) in (from_below D y k.0, k.1)

  -- A helix path of p has come to n on port a. Where n offers something, p's bit is changed, each other changed bit is tried before each offered port behind an arrival
  -- on p, and so is a, unless it is p.
  record Turned (n a : ℕ) : Type 0 where
    own_bit : (y : ℕ) → y ∈ offered N t n → uphill s n p ≡ true
    changed : (x y : ℕ) → uphill s n x ≡ true → y ∈ offered N t n → (x ≡ p) ⊎ Sooner p x y
    arrival : (y : ℕ) → y ∈ offered N t n → (a ≡ p) ⊎ Sooner p a y

  -- so it has behind the first hop,
  first_turned : Turned (N.next s p) p
  unfolding network
  first_turned =
      let e : axis p ≡ p = axis_low p (omega arith) in
      rw e record {
        own_bit = λ y m. uphill_flipped s s p ∙ ap not (uphill_there s p);
        changed = λ x y c m. inl (⊎_elim (λ i. i) (λ h. absurd (clash c (sym (uphill_kept s s p x h) ∙ uphill_there s x))) (same? x p));
        arrival = λ y m. inl refl;
      }

  -- and behind a hop over the first port offered.
  module _ (n a q : ℕ) (qs : List ℕ) (turned : Turned n a) (e : helical a (offered N t n) ≡ q ∷ qs) where
    here : q ∈ offered N t n
    here = helical_mem a _ (rw e (Memᴰ.head refl))

    own_axis : axis q ≡ q
    own_axis = axis_low q (omega (arith, (up n q here).0, fits))

    -- what is offered there was offered before, and is tried after q
    behind : (y : ℕ) → y ∈ offered N t (N.next n q) → (y ∈ offered N t n) × Sooner p q y
    unfolding network Pairwise
    behind y m =
        let u = up (N.next n q) y m in
        let there : uphill t (flip n q) y ≡ true = rw own_axis at u.1 in
        let other : y ≢ q = λ i. clash (rw i at there) (uphill_flipped t n q ∙ ap not (up n q here).1) in
        let was : y ∈ offered N t n = rw (unfolded_offered S fits refl t n) (mem_keep (uphill t n) (from 0 D) (below_from D y u.0) (uphill_kept t n q y other ∙ there)) in
        let order : Pairwise (Sooner a) (q ∷ qs) = rw e at (helical_pairwise a (offered N t n) (offered_pairwise N t n)) in
        let later : Sooner a q y = ⊎_elim (λ i. absurd (other i)) (λ k. order.0 y k) (Memᴰ.cases_cons (rw e at (mem_helical a (offered N t n) was))) in
        (was, sooner_on p a q y (turned.arrival q here) (turned.arrival y was) later)

    kept : (x : ℕ) → x ≢ q → uphill s (N.next n q) x ≡ uphill s n x
    unfolding network
    kept x h = rw own_axis (sym (uphill_kept s n q x h))

    turned_on : Turned (N.next n q) q
    turned_on =
        record {
          own_bit = λ y m. let b = behind y m in kept p (λ i. sooner_last p y (rw (sym i) at b.1)) ∙ turned.own_bit y b.0;
          changed = λ x y c m. let b = behind y m in ⊎_elim (λ i. inr (rw i b.1)) (λ h. turned.changed x y (sym (kept x h) ∙ c) b.0) (same? x q);
          arrival = λ y m. inr (behind y m).1;
        }

    own_hop : Own s p n q
    unfolding Own
    own_hop = inr (turned.own_bit q here, λ x c. turned.changed x q c here)

  -- So each link of the path is its own.
  own_from : (k n a : ℕ) → Turned n a → (l : Link) → l ∈ links N n (helix_from k N t n a) → Own s p l.0 l.1
  unfolding helix_from links take_first
  own_from zero n a turned l m = absurd (Memᴰ.not-nil m)
  own_from (suc k) n a turned l m = go (eqb n t) (helical a (offered N t n)) refl m (λ q z x. own_from k (N.next n q) q z l x)
    where
      go : (b : Bool) (ps : List ℕ) → helical a (offered N t n) ≡ ps → l ∈ links N n (cond b [] (take_first ps (λ q. helix_from k N t (N.next n q) q)))
          → ((q : ℕ) → Turned (N.next n q) q → l ∈ links N (N.next n q) (helix_from k N t (N.next n q) q) → Own s p l.0 l.1) → Own s p l.0 l.1
      go true ps e m on = absurd (Memᴰ.not-nil m)
      go false [] e m on = absurd (Memᴰ.not-nil m)
      go false (q ∷ qs) e m on = ⊎_elim (λ i. rw i (own_hop n a q qs turned e)) (on q (turned_on n a q qs turned e)) (Memᴰ.cases_cons m)

  pub own_links : (l : Link) → l ∈ links N s (helix_path N s t p) → Own s p l.0 l.1
  unfolding helix_path links Own
  own_links l m = ⊎_elim (λ i. rw i (inl (refl, refl))) (own_from (N.distance t (N.next s p)) (N.next s p) p first_turned l) (Memᴰ.cases_cons m)

-- the theorem, whatever source and target are
pub helix_paths_apart : HelixPathsApart
helix_paths_apart D fits s t source target p q i j l m k = own_once s p q l.0 l.1 (own_links D fits s t p i l m) (own_links D fits s t q j l k)
