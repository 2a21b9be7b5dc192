-- The links of a cube in their list, and that fewer links than there are ports leave one port untouched, where none touches two.
-- Assumes nothing.
use mathlib.Core.Path.{◌≡◌, refl, ap, subst}
use mathlib.Core.Logic.{◌⊎◌, inl, inr, ⊎_elim, ◌≢◌}
use mathlib.Core.Bool.{Bool, true, false, not, ◌&&◌}
use mathlib.Core.List.Memᴰ
use mathlib.Core.List.{List, [], ◌∷◌, ◌++◌, map}
use Prim.Native.Nat.{ℕ, zero, suc, ◌≤◌, ◌<◌}
use native.Mathlib.Omega.{arith}
use lib.Dec.{eqb}
use lib.ListN.{length}
use borrow.Author.Tests.{eqb-true, eq-eqb}
use Rattle.common.specs.Lists.{◌∈◌, keep, from, Pairwise}
use Rattle.common.proofs.Tests.{is_false, both, same?}
use Rattle.common.proofs.Lists.{mem_keep, keep_shorter, pairwise_imp}
use Rattle.common.proofs.From.{from_pairwise, from_below, below_from, length_from}
use Rattle.paths.specs.Network.{Network, Path, Link, links}
use Rattle.paths.specs.Waiting.{AllEnabled}
use Rattle.paths.specs.CubeNetwork.{Shape, Node, ports}
use Rattle.faults.specs.Faults.{links_out, all_links}

-- the links out of a node over the ports of a list
unfoldable pub out_of : ℕ → List ℕ → List Link
out_of k ps = map (λ (q : ℕ). (k, q)) ps

in_out_of : (k p : ℕ) (ps : List ℕ) → p ∈ ps → ◌∈◌ {A = Link} (k, p) (out_of k ps)
unfolding out_of
in_out_of k p [] j = absurd (Memᴰ.not-nil j)
in_out_of k p (q ∷ ps) j = ⊎_elim (λ e. rw e (Memᴰ.head refl)) (λ l. Memᴰ.tail (in_out_of k p ps l)) (Memᴰ.cases_cons j)

-- the link out of a port of a node is one of those out of the nodes of a list that has the node
in_links_out : (S : Shape) (ns : List ℕ) (n p : ℕ) → n ∈ ns → p ∈ ports S → ◌∈◌ {A = Link} (n, p) (links_out S ns)
unfolding links_out out_of
in_links_out S [] n p m i = absurd (Memᴰ.not-nil m)
in_links_out S (k ∷ ns) n p m i = ⊎_elim first (λ l. Memᴰ.append_right (out_of k (ports S)) (in_links_out S ns n p l i)) (Memᴰ.cases_cons m)
  where
    first : n ≡ k → ◌∈◌ {A = Link} (n, p) (out_of k (ports S) ++ links_out S ns)
    first e = let x : ◌∈◌ {A = Link} (n, p) (out_of k (ports S)) = rw e (in_out_of k p (ports S) i) in Memᴰ.append_left (links_out S ns) x

-- so each link of the cube is one of all
pub in_all_links : (S : Shape) (n p : ℕ) → Node S n → p ∈ ports S → ◌∈◌ {A = Link} (n, p) (all_links S)
unfolding all_links
in_all_links S n p i m = in_links_out S _ n p (below_from _ n i) m

-- two links are the same by their numbers
same_link : Link → Link → Bool
same_link l m = eqb l.0 m.0 && eqb l.1 m.1

is_same : (l m : Link) → same_link l m ≡ true → l ≡ m
unfolding same_link
is_same l m e = let k = both _ _ e in λ i. (eqb-true l.0 m.0 k.0 i, eqb-true l.1 m.1 k.1 i)

same_is : (l : Link) → same_link l l ≡ true
unfolding same_link
same_is l = rw (eq-eqb l.0 l.0 refl) (eq-eqb l.1 l.1 refl)

-- ports of which each touches a link of its own are at most as many as the links
touched : (Touch : ℕ → Link → Type 0) → ((p q : ℕ) (l : Link) → Touch p l → Touch q l → p ≡ q) → (ps : List ℕ) → Pairwise ◌≢◌ ps → (ls : List Link)
    → ((p : ℕ) → p ∈ ps → (l : Link) × (l ∈ ls) × Touch p l) → length ps ≤ length ls
unfolding Pairwise
touched Touch once [] distinct ls each = omega arith
touched Touch once (p ∷ ps) distinct ls each =
    let mine = each p (Memᴰ.head refl) in
    let fewer = keep_shorter (other mine.0) ls mine.0 mine.1 (ap not (same_is mine.0)) in
    omega (arith, fewer, touched Touch once ps distinct.1 (keep (other mine.0) ls) (λ q m. later mine.0 mine.2 q m (each q (Memᴰ.tail m))))
  where
    other : Link → Link → Bool
    other k l = not (same_link l k)

    later : (k : Link) → Touch p k → (q : ℕ) → q ∈ ps → (l : Link) × (l ∈ ls) × Touch q l → (l : Link) × (l ∈ keep (other k) ls) × Touch q l
    later k here q m its =
        let apart : same_link its.0 k ≡ false = is_false _ (λ e. distinct.0 q m (once p q k here (subst (Touch q) (is_same its.0 k e) its.2))) in
        (its.0, mem_keep (other k) ls its.1 (ap not apart), its.2)

-- a path all of whose links pass a test, or a link of it that fails
all_or_one : (N : Network) (free : ℕ → ℕ → Bool) (n : ℕ) (w : Path) → AllEnabled N free n w ⊎ ((l : Link) × (l ∈ links N n w) × (free l.0 l.1 ≡ false))
unfolding AllEnabled links
all_or_one N free n [] = inl (λ l m. absurd (Memᴰ.not-nil m))
all_or_one N free n (p ∷ w) = go (free n p) refl (all_or_one N free (N.next n p) w)
  where
    go : (b : Bool) → free n p ≡ b → ((l : Link) → l ∈ links N (N.next n p) w → free l.0 l.1 ≡ true) ⊎ ((l : Link) × (l ∈ links N (N.next n p) w) × (free l.0 l.1 ≡ false))
        → ((l : Link) → l ∈ ((n, p) ∷ links N (N.next n p) w) → free l.0 l.1 ≡ true) ⊎ ((l : Link) × (l ∈ ((n, p) ∷ links N (N.next n p) w)) × (free l.0 l.1 ≡ false))
    go true e (inl h) = inl (λ l m. ⊎_elim (λ i. rw i e) (h l) (Memᴰ.cases_cons m))
    go true e (inr x) = inr (x.0, Memᴰ.tail x.1, x.2)
    go false e h = inr ((n, p), Memᴰ.head refl, e)

-- one of the numbers below D has the one, or each has the other
one_or_each : (P Q : ℕ → Type 0) → (D : ℕ) → ((p : ℕ) → P p ⊎ Q p) → ((p : ℕ) × (p < D) × P p) ⊎ ((p : ℕ) → p < D → Q p)
one_or_each P Q zero h = inr (λ p l. absurd (omega arith))
one_or_each P Q (suc D) h = go (h D) (one_or_each P Q D h)
  where
    go : P D ⊎ Q D → ((p : ℕ) × (p < D) × P p) ⊎ ((p : ℕ) → p < D → Q p) → ((p : ℕ) × (p < suc D) × P p) ⊎ ((p : ℕ) → p < suc D → Q p)
    go (inl x) r = inl (D, omega arith, x)
    go (inr y) (inl r) = inl (r.0, omega (arith, r.1), r.2)
    go (inr y) (inr r) = inr (λ p l. ⊎_elim (λ e. rw e y) (λ h. r p (omega (arith, h, l))) (same? p D))

-- Of paths for the ports below D, no two with a link in common, one is free of failing links where these are fewer than D.
pub one_passes : (N : Network) (free : ℕ → ℕ → Bool) (s D : ℕ) (path : ℕ → Path) (Touch : ℕ → Link → Type 0) → ((p q : ℕ) (l : Link) → Touch p l → Touch q l → p ≡ q)
    → ((p : ℕ) → p < D → (l : Link) → l ∈ links N s (path p) → Touch p l) → (ls : List Link)
    → ((p : ℕ) → p < D → (l : Link) → l ∈ links N s (path p) → free l.0 l.1 ≡ false → l ∈ ls) → length ls < D
    → (p : ℕ) × (p < D) × AllEnabled N free s (path p)
one_passes N free s D path Touch once touch ls there few =
    ⊎_elim (λ x. x)
    (λ each. let n = touched Touch once (from 0 D) (pairwise_imp ◌<◌ ◌≢◌ _ (λ p q i j l e. omega (arith, l, e)) (from_pairwise 0 D)) ls (λ p m.
    let l = from_below D p m in
    let x = each p l in
    (x.0, there p l x.0 x.1 x.2, touch p l x.0 x.1)) in absurd (omega (arith, n, few, length_from 0 D)))
    (one_or_each _ _ D (λ p. all_or_one N free s (path p)))
