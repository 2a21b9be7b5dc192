-- The computed helix path is the helix path of its first port, and the only one. It is a permitted path, of those that begin with that port the first,
-- and short.
-- Assumes nothing.
use mathlib.Core.Path.{◌≡◌, refl, ap, sym, ◌∙◌, subst}
use mathlib.Core.Logic.{◌⊎◌, inl, inr, ⊎_elim, ◌≢◌}
use mathlib.Core.List.Memᴰ
use mathlib.Core.List.{List, [], ◌∷◌, ◌++◌, map, cons≢nil}
use Prim.Native.Nat.{ℕ, zero, suc, ◌≤◌}
use native.Mathlib.Omega.{arith}
use native.Mathlib.Nat.{le_refl}
use borrow.Author.Tests.{eq-eqb, ne_eqb}
use lib.ListN.{length}
use Rattle.cube.specs.Cube.{largest_dimension}
use Rattle.common.specs.Lists.{◌∈◌, Pairwise}
use Rattle.common.proofs.Tests.{same?}
use Rattle.cube.specs.Helical.{helical}
use Rattle.cube.proofs.Order.{helical_mem, mem_helical}
use Rattle.paths.specs.Network.{Network, Path, offered, take_first, end, Nearing, Leading}
use Rattle.paths.specs.Permitted.{Onward, Permitted, Sooner, Before, ComesBefore}
use Rattle.paths.specs.Helix.{helix_from, helix_path, FirstOffered, IsHelix, HelixPaths, no_path, path_more}
use Rattle.paths.specs.CubeNetwork.{Shape, Node, ports, network}
use Rattle.paths.proofs.Order.{helical_pairwise, offered_pairwise, sooner_asym}
use Rattle.paths.proofs.Words.{permitted_in_words}
use Rattle.paths.proofs.CubeNetwork.{port_inside, cube_nearing, cube_leading, path_hops}
use Rattle.paths.proofs.Recover.{take_all}

-- the port that stands first in the helical order of those offered is the first offered, and there is no other
first_offered : (N : Network) (t n a q : ℕ) (qs : List ℕ) → helical a (offered N t n) ≡ q ∷ qs → FirstOffered N t n a q
unfolding FirstOffered Pairwise
first_offered N t n a q qs e =
    let here : q ∈ helical a (offered N t n) = rw e (Memᴰ.head refl) in
    let order : Pairwise (Sooner a) (q ∷ qs) = rw e at (helical_pairwise a (offered N t n) (offered_pairwise N t n)) in
    (helical_mem a _ here, (λ p m. ⊎_elim inl (λ k. inr (order.0 p k)) (Memᴰ.cases_cons (rw e at (mem_helical a (offered N t n) m)))))

first_unique : (N : Network) (t n a p q : ℕ) → FirstOffered N t n a p → FirstOffered N t n a q → p ≡ q
unfolding FirstOffered
first_unique N t n a p q h k = ⊎_elim (λ e. e) (λ s. ⊎_elim sym (λ r. absurd (sooner_asym a p q r s)) (h.1 q k.0)) (k.1 p h.0)

-- what follows an arrival at n on port a in a helix path
unfoldable HelixOn : Network → ℕ → ℕ → ℕ → Path → Type 0
HelixOn N t n a [] = n ≡ t
HelixOn N t n a (q ∷ w) = (n ≢ t) × FirstOffered N t n a q × HelixOn N t (N.next n q) q w

-- it is a way on,
helix_onward : (N : Network) (t n a : ℕ) (w : Path) → HelixOn N t n a w → Onward N t n w
unfolding HelixOn Onward FirstOffered
helix_onward N t n a [] o = o
helix_onward N t n a (q ∷ w) o = (o.0, o.1.0, helix_onward N t (N.next n q) q w o.2)

-- it comes before every other way on,
helix_before : (N : Network) (t n a : ℕ) (w v : Path) → HelixOn N t n a w → Onward N t n v → (v ≡ w) ⊎ Before (Sooner a) w v
unfolding HelixOn Onward FirstOffered Before
helix_before N t n a [] [] o i = inl refl
helix_before N t n a [] (p ∷ v) o i = absurd (i.0 o)
helix_before N t n a (q ∷ w) [] o i = absurd (o.0 i)
helix_before N t n a (q ∷ w) (p ∷ v) o i =
    let on : p ≡ q → Onward N t (N.next n q) v = λ e. subst (λ x. Onward N t (N.next n x) v) e i.2 in
    ⊎_elim (λ e. same e (helix_before N t (N.next n q) q w v o.2 (on e))) (λ s. inr (inl s)) (o.1.1 p i.1)
  where
    same : p ≡ q → (v ≡ w) ⊎ Before (Sooner q) w v → (p ∷ v ≡ q ∷ w) ⊎ (Sooner a q p ⊎ ((q ≡ p) × Before (Sooner q) w v))
    same e (inl f) = inl (λ i. e i ∷ f i)
    same e (inr b) = inr (inr (sym e, b))

-- and there is no other.
helix_on_only : (N : Network) (t n a : ℕ) (w v : Path) → HelixOn N t n a w → HelixOn N t n a v → w ≡ v
unfolding HelixOn
helix_on_only N t n a [] [] o i = refl
helix_on_only N t n a [] (p ∷ v) o i = absurd (i.0 o)
helix_on_only N t n a (q ∷ w) [] o i = absurd (o.0 i)
helix_on_only N t n a (q ∷ w) (p ∷ v) o i =
    let e = first_unique N t n a q p o.1 i.1 in
    let rest = helix_on_only N t (N.next n q) q w v o.2 (subst (λ x. HelixOn N t (N.next n x) x v) (sym e) i.2) in
    λ j. e j ∷ rest j

-- a hop, and what follows it in a helix path
unfoldable Helix : Network → ℕ → ℕ → Path → Type 0
Helix N t m [] = ⊥
Helix N t m (a ∷ w) = HelixOn N t (N.next m a) a w

-- every later hop of such a path, wherever it stands, is over the first port offered; and a path of such hops alone is one
later_hop : (N : Network) (t m : ℕ) (u : Path) (a q : ℕ) (v : Path) → Helix N t m (u ++ a ∷ q ∷ v) → FirstOffered N t (end N m (u ++ a ∷ [])) a q
unfolding Helix HelixOn end
later_hop N t m [] a q v o = o.1
later_hop N t m (b ∷ []) a q v o = later_hop N t (N.next m b) [] a q v o.2
later_hop N t m (b ∷ c ∷ u) a q v o = later_hop N t (N.next m b) (c ∷ u) a q v o.2

of_hops : (N : Network) (t m a : ℕ) (w : Path)
    → ((u : Path) (b q : ℕ) (v : Path) → a ∷ w ≡ u ++ b ∷ q ∷ v → FirstOffered N t (end N m (u ++ b ∷ [])) b q)
    → ((u : Path) (q : ℕ) (v : Path) → u ≢ [] → a ∷ w ≡ u ++ q ∷ v → end N m u ≢ t) → end N m (a ∷ w) ≡ t → Helix N t m (a ∷ w)
unfolding Helix HelixOn end
of_hops N t m a [] later before e = e
of_hops N t m a (q ∷ w) later before e = (
  before (a ∷ []) q w cons≢nil refl,
  later [] a q w refl,
  of_hops N t (N.next m a) q w (λ u b r v i. later (a ∷ u) b r v (ap (a ∷◌) i)) (λ u r v some i. before (a ∷ u) r v cons≢nil (ap (a ∷◌) i)) e,
)

module _ (N : Network) (s t p : ℕ) where
  -- so what `IsHelix` says by places is what `HelixOn` says hop by hop
  helix_by_hops : {w : Path} → IsHelix N s t p w → (v : Path) × (w ≡ p ∷ v) × HelixOn N t (N.next s p) p v
  unfolding Helix
  helix_by_hops h =
      let e = h.first.1 in
      let end = rw e at h.arrives in
      (h.first.0, e, of_hops N t s p h.first.0 (λ u a q v i. h.later u a q v (e ∙ i)) (λ u q v some i. h.not_before u q v some (e ∙ i)) end)

  permitted_on : (vector : List ℕ) (v : Path) → p ∈ vector → HelixOn N t (N.next s p) p v → Permitted N s vector t (p ∷ v)
  unfolding Permitted
  permitted_on vector v m o = (m, helix_onward N t (N.next s p) p v o)

  helix_by_places : (v : Path) → HelixOn N t (N.next s p) p v → IsHelix N s t p (p ∷ v)
  unfolding Helix
  helix_by_places v o =
      let words = (permitted_in_words N s (p ∷ []) t (p ∷ v)).0 (permitted_on (p ∷ []) v (Memᴰ.head refl) o) in
      record {
        first = (v, refl);
        later = λ u a q x i. later_hop N t s u a q x (subst (Helix N t s) i o);
        not_before = words.not_before;
        arrives = words.arrives;
      }

  -- A port has one helix path at most.
  pub helix_only : {w v : Path} → IsHelix N s t p w → IsHelix N s t p v → w ≡ v
  helix_only h k =
      let x = helix_by_hops h in
      let y = helix_by_hops k in
      x.1 ∙ ap (p ∷◌) (helix_on_only N t (N.next s p) p x.0 y.0 x.2 y.2) ∙ sym y.1

  -- It is a permitted path of every vector that has its first port,
  pub helix_permitted : {w : Path} → IsHelix N s t p w → (vector : List ℕ) → p ∈ vector → Permitted N s vector t w
  helix_permitted h vector m = let x = helix_by_hops h in rw x.1 (permitted_on vector x.0 m x.2)

  -- and of the permitted paths that begin with that port it comes first.
  pub helix_first : {w : Path} → IsHelix N s t p w → (vector : List ℕ) (v : Path) → Permitted N s vector t (p ∷ v) → (p ∷ v ≡ w) ⊎ ComesBefore w (p ∷ v)
  unfolding Permitted Before
  helix_first h vector v i =
      let x = helix_by_hops h in
      rw x.1 (⊎_elim (λ e. inl (ap (p ∷◌) e)) (λ b. inr (inr (refl, b))) (helix_before N t (N.next s p) p x.0 v x.2 i.1))

-- one step of the computed path: none at the target, and elsewhere by the first port of the helical order
helix_step : (P : Path → Type 0) (k : ℕ) (N : Network) (t n a : ℕ) → (n ≡ t → P [])
    → (n ≢ t → P (take_first (helical a (offered N t n)) (λ p. helix_from k N t (N.next n p) p))) → P (helix_from (suc k) N t n a)
unfolding helix_from
helix_step P k N t n a there on = ⊎_elim (λ e. rw (eq-eqb n t e) (there e)) (λ off. rw (ne_eqb n t off) (on off)) (same? n t)

module _ {N : Network} {t : ℕ} {Node : ℕ → Type 0} (near : Nearing N t) (lead : Leading N t Node) where
  arrived : (n : ℕ) → Node n → ((p : ℕ) → p ∈ offered N t n → ⊥) → n ≡ t
  arrived n i nothing = ⊎_elim (λ e. e) (λ off. let r = lead.leads n i off in absurd (nothing r.0 r.1)) (same? n t)

  -- the computed path goes on as a helix path does, where it may have as many hops as the target is far
  computed_on : (k n a : ℕ) → N.distance t n ≤ k → Node n → HelixOn N t n a (helix_from k N t n a)
  unfolding HelixOn
  computed_on zero n a h i = unfold helix_from in arrived n i (λ p m. omega (arith, near.nearer n p m))
  computed_on (suc k) n a h i =
      helix_step (HelixOn N t n a) k N t n a (λ e. e)
      (λ off. go off (helical a (offered N t n)) refl (λ q m. computed_on k (N.next n q) q (omega (arith, near.nearer n q m)) (lead.inside n q i m)))
    where
      go : n ≢ t → (ps : List ℕ) → helical a (offered N t n) ≡ ps
          → ((q : ℕ) → q ∈ offered N t n → HelixOn N t (N.next n q) q (helix_from k N t (N.next n q) q))
          → HelixOn N t n a (take_first ps (λ p. helix_from k N t (N.next n p) p))
      go off [] e on = unfold take_first in arrived n i (λ p m. Memᴰ.not-nil (rw e at (mem_helical a (offered N t n) m)))
      go off (q ∷ qs) e on = let f = first_offered N t n a q qs e in unfold take_first in (off, f, on q (unfold FirstOffered in f.0))

  -- The computed path is the helix path of its first port,
  pub helix_is : (s p : ℕ) → Node (N.next s p) → IsHelix N s t p (helix_path N s t p)
  unfolding helix_path
  helix_is s p i = helix_by_places N s t p _ (computed_on (N.distance t (N.next s p)) (N.next s p) p (le_refl _) i)

  -- and those of a list of ports are their helix paths.
  pub helix_paths_are : (s : ℕ) (ps : List ℕ) → ((p : ℕ) → p ∈ ps → Node (N.next s p)) → HelixPaths N s t ps (map (helix_path N s t) ps)
  helix_paths_are s [] h = no_path
  helix_paths_are s (p ∷ ps) h = path_more (helix_is s p (h p (Memᴰ.head refl))) (helix_paths_are s ps (λ q m. h q (Memᴰ.tail m)))

-- The computed path has at most one hop more than the target is far behind the first.
helix_on_short : (k : ℕ) (N : Network) (t n a : ℕ) → length (helix_from k N t n a) ≤ k
helix_on_short zero N t n a = unfold helix_from in omega arith
helix_on_short (suc k) N t n a =
    helix_step (λ w. length w ≤ suc k) k N t n a (λ e. omega arith)
    (λ off. take_all (λ w. length w ≤ suc k) (helical a (offered N t n)) _ (omega arith) (λ q m. omega (arith, helix_on_short k N t (N.next n q) q)))

pub helix_short : (N : Network) (s t p : ℕ) → length (helix_path N s t p) ≤ suc (N.distance t (N.next s p))
unfolding helix_path
helix_short N s t p = omega (arith, helix_on_short (N.distance t (N.next s p)) N t (N.next s p) p)

-- In the cube:
module _ (S : Shape) where
  -- every port has its helix path, which the definition computes,
  pub cube_helix : S.dimension ≤ largest_dimension → (s t p : ℕ) → Node S s → Node S t → p ∈ ports S → IsHelix (network S) s t p (helix_path (network S) s t p)
  cube_helix h s t p i l m = helix_is (cube_nearing S t) (cube_leading S h t l) s p (port_inside S s p i m)

  -- of 1 to D + 1 hops;
  pub helix_hops : (s t p : ℕ) (w : Path) → IsHelix (network S) s t p w → (1 ≤ length w) × (length w ≤ suc S.dimension)
  helix_hops s t p w h = path_hops S s (p ∷ []) t w (helix_permitted (network S) s t p h (p ∷ []) (Memᴰ.head refl))
