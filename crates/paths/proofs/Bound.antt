-- Scouts 8: where nothing is folded, no send has more than 123,300 scouts.
-- Assumes nothing.
use mathlib.Core.Path.{◌≡◌, refl, subst}
use mathlib.Core.Bool.{Bool, true, false, cond, ◌||◌, not}
use mathlib.Core.List.Memᴰ
use mathlib.Core.List.{List, [], ◌∷◌, map}
use Prim.Native.Nat.{ℕ, zero, suc, ◌+◌, ◌*◌, ◌-◌, ◌≤◌, pred}
use native.Mathlib.Omega.{arith}
use native.Mathlib.Nat.{le_trans, le_refl, le_of_eq, mul-le-mul}
use borrow.Author.Tests.{leb-true, le-leb, not-true}
use lib.Dec.{eqb, leb}
use lib.ListN.{length, length-append, length-map}
use Rattle.cube.specs.Cube.{largest_dimension}
use Rattle.common.specs.Lists.{◌∈◌, keep, every}
use Rattle.common.proofs.Every.{at₂}
use Rattle.common.proofs.Lists.{keep_mem}
use Rattle.cube.specs.Helical.{helical}
use Rattle.cube.proofs.Order.{helical_mem, length_helical}
use Rattle.paths.specs.Network.{Network, Path, offered, free_path, Nearing}
use Rattle.paths.specs.Pass.{found, over, ways, beginnings, scan, whole, pass, scouts}
use Rattle.paths.specs.Search.{arriving}
use Rattle.paths.specs.Bound.{ways_from, packets_from, most_beginnings, most_folded}
use Rattle.paths.proofs.Scan.{scan_sends}
use Rattle.paths.proofs.Beginnings.{ways_all}
use Rattle.paths.proofs.Depth.{over_cons, arriving_scan}

-- the ports of a list that a node does not offer
abbrev pub others : Network → List ℕ → ℕ → ℕ → List ℕ
others N ports t n = keep (λ p. not (N.offers t n p)) ports

-- what the bound alone asks of a network and the ports of its nodes: a target is at most D hops away; a node offers at most m ports for each
-- hop that it is away, has at most m others for each of the D that it is not, and these lead one farther
pub record Cubical (N : Network) (ports : List ℕ) (D m t : ℕ) : Type 0 where
  pub there : N.distance t t ≡ 0
  pub within : (n : ℕ) → N.distance t n ≤ D
  pub among : (n : ℕ) → keep (N.offers t n) ports ≡ offered N t n
  pub degree : (n : ℕ) → length (offered N t n) ≤ m * N.distance t n
  pub rest : (n : ℕ) → length (others N ports t n) ≤ m * (D - N.distance t n)
  pub away : (n p : ℕ) → p ∈ ports → N.offers t n p ≡ false → N.distance t (N.next n p) ≡ suc (N.distance t n)

-- what `over` has: of one port more, and of ports with at most l ways on each
over_more : (on : ℕ → List Path) (p : ℕ) (ps : List ℕ) → length (over on (p ∷ ps)) ≡ suc (length (on p)) + length (over on ps)
over_more on p ps = rw (over_cons, length-append ((p ∷ []) ∷ map (λ (w : Path). p ∷ w) (on p)) (over on ps), length-map (on p) (λ (w : Path). p ∷ w))

length_over : (on : ℕ → List Path) (l : ℕ) (ps : List ℕ) → ((p : ℕ) → p ∈ ps → length (on p) ≤ l) → length (over on ps) ≤ length ps * suc l
length_over on l [] h = unfold over in omega arith
length_over on l (p ∷ ps) h = omega (arith, over_more on p ps, h p (Memᴰ.head refl), length_over on l ps (λ q m. h q (Memᴰ.tail m)))

-- two lists that share out the members of a third have its beginnings between them
length_shared : (on : ℕ → List Path) (f : ℕ → Bool) (ps : List ℕ) → length (over on (keep f ps)) + length (over on (keep (λ p. not (f p)) ps)) ≡ length (over on ps)
unfolding keep
length_shared on f [] = unfold over in refl
length_shared on f (p ∷ ps) = go (f p) (length_shared on f ps)
  where
    go : (b : Bool) → length (over on (keep f ps)) + length (over on (keep (λ p. not (f p)) ps)) ≡ length (over on ps)
        → length (over on (cond b (p ∷ keep f ps) (keep f ps))) + length (over on (cond (not b) (p ∷ keep (λ p. not (f p)) ps) (keep (λ p. not (f p)) ps))) ≡ length (over on (p ∷ ps))
    go true h = omega (arith, over_more on p (keep f ps), over_more on p ps)
    go false h = omega (arith, over_more on p (keep (λ p. not (f p)) ps), over_more on p ps)

from_step : (m d : ℕ) → m * d * suc (ways_from m (pred d)) ≡ ways_from m d
unfolding ways_from
from_step m zero = omega arith
from_step m (suc d) = refl

module _ {N : Network} {ports : List ℕ} {D m t : ℕ} (near : Nearing N t) (cubic : Cubical N ports D m t) where
  nearer_ways : (n p : ℕ) → p ∈ offered N t n → {l : ℕ} → l ≤ ways_from m (N.distance t (N.next n p)) → l ≤ ways_from m (pred (N.distance t n))
  nearer_ways n p i h = let e : N.distance t (N.next n p) ≡ pred (N.distance t n) = omega (arith, near.nearer n p i) in rw e at h

  -- over the ports that a node offers, each with no more ways on than one nearer has, no more beginnings than its distance says
  offered_ways : (n : ℕ) (on : ℕ → List Path) (ps : List ℕ) → length ps ≤ m * N.distance t n → ((p : ℕ) → p ∈ ps → length (on p) ≤ ways_from m (pred (N.distance t n)))
      → length (over on ps) ≤ ways_from m (N.distance t n)
  offered_ways n on ps few each = le_trans (length_over on _ ps each) (le_trans (mul-le-mul few (le_refl _)) (le_of_eq (from_step m (N.distance t n))))

  -- from a node, no more beginnings of ways on than its distance says
  pub ways_count : (k n a : ℕ) → length (ways k N t n a) ≤ ways_from m (N.distance t n)
  ways_count zero n a = unfold ways in omega arith
  ways_count (suc k) n a =
      ways_all (λ ws. length ws ≤ ways_from m (N.distance t n)) k N t n a (λ e. omega arith)
      (λ off. offered_ways n _ (helical a (offered N t n)) (rw (length_helical a (offered N t n)) (cubic.degree n))
      (λ p i. nearer_ways n p (helical_mem a _ i) (ways_count k (N.next n p) p)))

  on : ℕ → ℕ → List Path
  on s p = ways (N.distance t (N.next s p)) N t (N.next s p) p

  -- the beginnings over every port of a source
  all_count : (s : ℕ) → length (over (on s) ports) ≤ packets_from m D (N.distance t s)
  unfolding packets_from on
  all_count s = omega (arith, length_shared (on s) (N.offers t s) ports, nearer_ones, farther_ones)
    where
      nearer_ones : length (over (on s) (keep (N.offers t s) ports)) ≤ ways_from m (N.distance t s)
      nearer_ones =
          rw (cubic.among s) (offered_ways s (on s) (offered N t s) (cubic.degree s) (λ p i. nearer_ways s p i (ways_count (N.distance t (N.next s p)) (N.next s p) p)))

      farther : (p : ℕ) → p ∈ others N ports t s → N.distance t (N.next s p) ≡ suc (N.distance t s)
      farther p i = let k = keep_mem (λ p. not (N.offers t s p)) ports i in cubic.away s p k.0 (not-true (N.offers t s p) k.1)

      farther_ones : length (over (on s) (others N ports t s)) ≤ m * (D - N.distance t s) * suc (ways_from m (suc (N.distance t s)))
      farther_ones =
          le_trans (length_over (on s) (ways_from m (suc (N.distance t s))) (others N ports t s) (λ p i. subst (λ d. length (on s p) ≤ ways_from m d) (farther p i) (ways_count (N.distance t (N.next s p)) (N.next s p) p)))
          (mul-le-mul (cubic.rest s) (le_refl _))

  -- an arrival sends no more scouts than there are beginnings of ways on
  pub arriving_sends : (free : ℕ → ℕ → Bool) (n a c : ℕ) → scouts (arriving (N.distance t n) N free t n a c) ≤ c + ways_from m (N.distance t n)
  arriving_sends free n a c = rw (arriving_scan (N.distance t n) N free t n a c) (go (eqb n t))
    where
      go : (x : Bool) → scouts (cond x (found [] c) (scan (free_path N free n) (whole N t n) c (ways (N.distance t n) N t n a))) ≤ c + ways_from m (N.distance t n)
      go true = unfold scouts in omega arith
      go false = omega (arith, scan_sends (free_path N free n) (whole N t n) (ways (N.distance t n) N t n a) c, ways_count (N.distance t n) n a)

  pass_sends : (free : ℕ → ℕ → Bool) (s : ℕ) (vector : List ℕ) → scouts (pass N free s vector t) ≤ length (beginnings N s vector t)
  unfolding pass
  pass_sends free s vector = omega (arith, scan_sends (free_path N free s) (whole N t s) (beginnings N s vector t) 0)

  -- two passes whose vectors share out the ports send at most one scout for each beginning, whatever is free in each
  pub two_passes : (s : ℕ) (v : ℕ → Bool) (f g : ℕ → ℕ → Bool)
      → scouts (pass N f s (keep v ports) t) + scouts (pass N g s (keep (λ p. not (v p)) ports) t) ≤ packets_from m D (N.distance t s)
  unfolding on beginnings
  two_passes s v f g =
      let a = pass_sends f s (keep v ports) in
      let b = pass_sends g s (keep (λ p. not (v p)) ports) in
      omega (arith, length_shared (on s) v ports, all_count s)

-- farther away, more ways on
pub ways_more : (m j k : ℕ) → j ≤ k → ways_from m j ≤ ways_from m k
unfolding ways_from
ways_more m zero k h = omega arith
ways_more m (suc j) zero h = absurd (omega arith)
ways_more m (suc j) (suc k) h = mul-le-mul (mul-le-mul (le_refl m) h) (let r = ways_more m j k (omega arith) in omega arith)

-- No count of beginnings of up to 8 axes is larger, with one link to an axis and with two: all 45 of each are computed.
all_below : (m k : ℕ) → every 9 (λ D. every 9 (λ d. not (leb d D) || leb (packets_from m D d) k)) ≡ true → (D d : ℕ) → D ≤ largest_dimension → d ≤ D → packets_from m D d ≤ k
all_below m k all D d h l = go (at₂ 9 9 (λ D d. not (leb d D) || leb (packets_from m D d) k) all D d (omega arith) (omega arith))
  where
    go : not (leb d D) || leb (packets_from m D d) k ≡ true → packets_from m D d ≤ k
    go e = leb-true _ _ (rw (le-leb d D l) at e)

pub counts_below : (D d : ℕ) → D ≤ largest_dimension → d ≤ D → packets_from 1 D d ≤ most_beginnings
unfolding packets_from ways_from most_beginnings
counts_below = all_below 1 most_beginnings refl

pub folded_below : (D d : ℕ) → D ≤ largest_dimension → d ≤ D → packets_from 2 D d ≤ most_folded
unfolding packets_from ways_from most_folded
folded_below = all_below 2 most_folded refl

module _ {N : Network} {ports : List ℕ} {D m t : ℕ} (near : Nearing N t) (cubic : Cubical N ports D m t) (h : D ≤ largest_dimension) (s : ℕ) (v : ℕ → Bool) (f g : ℕ → ℕ → Bool) where
  pub two_passes_bound : m ≡ 1 → scouts (pass N f s (keep v ports) t) + scouts (pass N g s (keep (λ p. not (v p)) ports) t) ≤ 123300
  unfolding most_beginnings
  two_passes_bound e = le_trans (two_passes near cubic s v f g) (rw e (counts_below D (N.distance t s) h (cubic.within s)))

  pub two_passes_folded : m ≡ 2 → scouts (pass N f s (keep v ports) t) + scouts (pass N g s (keep (λ p. not (v p)) ports) t) ≤ 35099560
  unfolding most_folded
  two_passes_folded e = le_trans (two_passes near cubic s v f g) (rw e (folded_below D (N.distance t s) h (cubic.within s)))
