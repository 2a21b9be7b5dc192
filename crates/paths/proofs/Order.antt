-- The beginnings stand in the order of Order 3, so none stands twice.
-- Assumes nothing.
use mathlib.Core.Path.{refl}
use mathlib.Core.Logic.{inl, inr, ⊎_elim, ◌≢◌}
use mathlib.Core.List.{List, [], ◌∷◌, map}
use Prim.Native.Nat.{ℕ, zero, suc, ◌<◌}
use native.Mathlib.Omega.{arith}
use borrow.Author.Tests.{ltb-true, leb-true}
use lib.Dec.{ltb, leb}
use Rattle.common.specs.Lists.{◌∈◌, keep, from, Pairwise}
use Rattle.common.proofs.Lists.{all_cons, all_map, keep_mem, keep_pairwise, pairwise_append, pairwise_imp, pairwise_kept, pairwise_map}
use Rattle.common.proofs.From.{from_pairwise}
use Rattle.cube.specs.Helical.{helical}
use Rattle.paths.specs.Network.{Network, Path, offered}
use Rattle.paths.specs.Permitted.{Sooner, Before, ComesBefore}
use Rattle.paths.specs.Pass.{over, ways, beginnings}
use Rattle.paths.proofs.Depth.{over_cons}
use Rattle.paths.proofs.Beginnings.{Opens, over_mem, ways_all, ways_climb}

-- rising ports, put into the helical order, stand as they are tried
pub helical_pairwise : (a : ℕ) (ps : List ℕ) → Pairwise ◌<◌ ps → Pairwise (Sooner a) (helical a ps)
unfolding helical Sooner
helical_pairwise a ps s =
    pairwise_append (keep (λ p. ltb a p) ps) (keep (λ p. leb p a) ps)
    (pairwise_kept (λ p. ltb a p) ◌<◌ (Sooner a) ps (λ p q i j l. inr (inl (ltb-true a p i, l))) s)
    (pairwise_kept (λ p. leb p a) ◌<◌ (Sooner a) ps (λ p q i j l. inr (inr (l, leb-true q a j))) s)
    (λ p q m k. inl (ltb-true a p (keep_mem _ ps m).1, leb-true q a (keep_mem _ ps k).1))

pub offered_pairwise : (N : Network) (t n : ℕ) → Pairwise ◌<◌ (offered N t n)
unfolding offered
offered_pairwise N t n = keep_pairwise (N.offers t n) ◌<◌ (from 0 N.port_bound) (from_pairwise 0 N.port_bound)

nil_before : (R : ℕ → ℕ → Type 0) (v : Path) → v ≢ [] → Before R [] v
unfolding Before
nil_before R [] h = absurd (h refl)
nil_before R (q ∷ v) h = tt

-- each port of a list alone, and before the ways on behind it: these stand in order where the ports do, and where the ways on do
over_pairwise : (R : ℕ → ℕ → Type 0) (on : ℕ → List Path) → ((p : ℕ) (w : Path) → w ∈ on p → w ≢ []) → ((p : ℕ) → Pairwise (Before (Sooner p)) (on p))
    → (ps : List ℕ) → Pairwise R ps → Pairwise (Before R) (over on ps)
unfolding Pairwise Before Opens
over_pairwise R on hops ordered [] s = unfold over in tt
over_pairwise R on hops ordered (p ∷ ps) s =
    rw over_cons
    (pairwise_append ((p ∷ []) ∷ map (λ (w : Path). p ∷ w) (on p)) (over on ps) (alone, longer_after) (over_pairwise R on hops ordered ps s.1)
    (λ x y m k. all_cons (λ x. Before R x y) (across [] y (over_mem on ps k)) (all_map (λ x. Before R x y) (λ (w : Path). p ∷ w) (on p) (λ w i. across w y (over_mem on ps k))) x m))
  where
    alone : (v : Path) → v ∈ map (λ (w : Path). p ∷ w) (on p) → Before R (p ∷ []) v
    alone = all_map (Before R (p ∷ [])) (λ (w : Path). p ∷ w) (on p) (λ w m. inr (refl, nil_before (Sooner p) w (hops p w m)))

    longer_after : Pairwise (Before R) (map (λ (w : Path). p ∷ w) (on p))
    longer_after = pairwise_map (Before (Sooner p)) (Before R) (λ (w : Path). p ∷ w) (on p) (λ w v b. inr (refl, b)) (ordered p)

    across : (w y : Path) → Opens on ps y → Before R (p ∷ w) y
    across w [] o = absurd o
    across w (q ∷ v) o = inl (s.0 q o.0)

ways_pairwise : (N : Network) (t k n a : ℕ) → Pairwise (Before (Sooner a)) (ways k N t n a)
ways_pairwise N t zero n a = unfold ways Pairwise in tt
ways_pairwise N t (suc k) n a =
    ways_all (Pairwise (Before (Sooner a))) k N t n a (λ e. unfold Pairwise in tt)
    (λ off. over_pairwise (Sooner a) _ (λ p w m. (ways_climb k N t (N.next n p) p w m).0) (λ p. ways_pairwise N t k (N.next n p) p) _ (helical_pairwise a _ (offered_pairwise N t n)))

-- With a rising vector, the beginnings stand in the order of Order 3.
pub beginnings_in_order : (N : Network) (s : ℕ) (vector : List ℕ) (t : ℕ) → Pairwise ◌<◌ vector → Pairwise ComesBefore (beginnings N s vector t)
unfolding beginnings
beginnings_in_order N s vector t r =
    over_pairwise ◌<◌ _ (λ p w m. (ways_climb _ N t (N.next s p) p w m).0) (λ p. ways_pairwise N t _ (N.next s p) p) vector r

-- nothing is tried, or comes, before itself; and of two only one comes before the other
pub sooner_asym : (a p q : ℕ) → Sooner a p q → Sooner a q p → ⊥
unfolding Sooner
sooner_asym a p q h k =
    ⊎_elim (λ x. ⊎_elim (λ y. omega arith) (λ c. ⊎_elim (λ y. omega arith) (λ y. omega arith) c) k)
    (λ b. ⊎_elim (λ x. ⊎_elim (λ y. omega arith) (λ c. ⊎_elim (λ y. omega arith) (λ y. omega arith) c) k)
    (λ x. ⊎_elim (λ y. omega arith) (λ c. ⊎_elim (λ y. omega arith) (λ y. omega arith) c) k) b) h

before_asym : (R : ℕ → ℕ → Type 0) → ((p q : ℕ) → R p q → R q p → ⊥) → (w v : Path) → Before R w v → Before R v w → ⊥
unfolding Before
before_asym R asym w [] b c = b
before_asym R asym [] (q ∷ v) b c = c
before_asym R asym (p ∷ w) (q ∷ v) (inl x) (inl y) = asym p q x y
before_asym R asym (p ∷ w) (q ∷ v) (inl x) (inr (e, y)) = let z : R p p = rw e at x in asym p p z z
before_asym R asym (p ∷ w) (q ∷ v) (inr (e, x)) (inl y) = let z : R q q = rw e at y in asym q q z z
before_asym R asym (p ∷ w) (q ∷ v) (inr (e, x)) (inr (i, y)) = before_asym (Sooner p) (sooner_asym p) w v x (rw i at y)

pub comes_before_asym : (w v : Path) → ComesBefore w v → ComesBefore v w → ⊥
comes_before_asym = before_asym ◌<◌ (λ p q h k. omega arith)

-- So what stands in that order stands there once: of any list, and of the beginnings.
pub in_order_once : (xs : List Path) → Pairwise ComesBefore xs → Pairwise ◌≢◌ xs
in_order_once xs = pairwise_imp ComesBefore ◌≢◌ xs (λ w v m k b e. let c : ComesBefore v v = rw e at b in comes_before_asym v v c c)

pub beginnings_once : (N : Network) (s : ℕ) (vector : List ℕ) (t : ℕ) → Pairwise ◌<◌ vector → Pairwise ◌≢◌ (beginnings N s vector t)
beginnings_once N s vector t r = in_order_once _ (beginnings_in_order N s vector t r)
