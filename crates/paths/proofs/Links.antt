-- The links of a path, in its list and by the test; of a permitted path, how many there are, and that none is used twice.
-- Assumes nothing.
use mathlib.Core.Path.{◌≡◌, refl, ap, sym, subst}
use mathlib.Core.Logic.{◌⊎◌, inl, inr, ⊎_elim, ◌≢◌}
use mathlib.Core.Bool.{Bool, true, false, ◌&&◌, ◌||◌, or-true, false≢true}
use mathlib.Core.List.Memᴰ
use mathlib.Core.List.{List, [], ◌∷◌}
use Prim.Native.Nat.{ℕ, suc, ◌≤◌}
use native.Mathlib.Omega.{arith}
use lib.Dec.{eqb}
use lib.ListN.{length}
use borrow.Author.Tests.{eqb-true, eq-eqb}
use Rattle.common.specs.Lists.{◌∈◌, Pairwise}
use Rattle.paths.specs.Network.{Network, Path, Link, links, has_link, Nearing}
use Rattle.paths.specs.Permitted.{Onward, Permitted}

-- the link out of port q of node m is one of those of w from n
unfoldable pub On : Network → ℕ → Path → ℕ → ℕ → Type 0
On N n w m q = (m, q) ∈ links N n w

-- it is the first hop's, or one of the rest
pub on_cases : (N : Network) (n p : ℕ) (w : Path) (m q : ℕ) → On N n (p ∷ w) m q → ((m ≡ n) × (q ≡ p)) ⊎ On N (N.next n p) w m q
unfolding On links
on_cases N n p w m q o = ⊎_elim (λ e. inl (ap (λ (l : Link). l.0) e, ap (λ (l : Link). l.1) e)) inr (Memᴰ.cases_cons o)

pub on_first_lem : (N : Network) (n p : ℕ) (w : Path) → On N n (p ∷ w) n p
unfolding On links
on_first_lem N n p w = Memᴰ.head refl

pub on_later : (N : Network) (n p : ℕ) (w : Path) (m q : ℕ) → On N (N.next n p) w m q → On N n (p ∷ w) m q
unfolding On links
on_later N n p w m q o = Memᴰ.tail o

pub on_none : (N : Network) (n m q : ℕ) → On N n [] m q → ⊥
unfolding On links
on_none N n m q o = Memᴰ.not-nil o

-- the test of a list's links says what is in it
pub link_true : (ls : List Link) (m q : ℕ) → (m, q) ∈ ls → has_link ls m q ≡ true
unfolding has_link
link_true [] m q x' = elim x' [ ]
link_true (l ∷ ls) m q (Memᴰ.head e) =
    let x : m ≡ l.0 = ap (λ (x : Link). x.0) e in
    let y : q ≡ l.1 = ap (λ (x : Link). x.1) e in
    rw (eq-eqb m l.0 x, eq-eqb q l.1 y)
link_true (l ∷ ls) m q (Memᴰ.tail o) = rw (link_true ls m q o) (or-true (eqb m l.0 && eqb q l.1))

pub true_link : (ls : List Link) (m q : ℕ) → has_link ls m q ≡ true → (m, q) ∈ ls
unfolding has_link
true_link [] m q e = absurd (false≢true e)
true_link (l ∷ ls) m q e = go (eqb m l.0) (eqb q l.1) refl refl e (true_link ls m q)
  where
    go : (a b : Bool) → eqb m l.0 ≡ a → eqb q l.1 ≡ b → (a && b) || has_link ls m q ≡ true → (has_link ls m q ≡ true → (m, q) ∈ ls) → (m, q) ∈ (l ∷ ls)
    go true true x y e ih = Memᴰ.head (λ i. (eqb-true m l.0 x i, eqb-true q l.1 y i))
    go true false x y e ih = Memᴰ.tail (ih e)
    go false b x y e ih = Memᴰ.tail (ih e)

module _ {N : Network} {t : ℕ} (near : Nearing N t) where
  -- a way on has at most as many hops as the target is far
  pub onward_length : (n : ℕ) (w : Path) → Onward N t n w → length w ≤ N.distance t n
  unfolding Onward
  onward_length n [] o = omega arith
  onward_length n (p ∷ w) o = omega (arith, near.nearer n p o.1, onward_length (N.next n p) w o.2)

  -- its links leave nodes no farther than its start, and come one nearer
  pub onward_near : (n : ℕ) (w : Path) → Onward N t n w → (m q : ℕ) → On N n w m q → (N.distance t m ≤ N.distance t n) × (N.distance t m ≡ suc (N.distance t (N.next m q)))
  unfolding Onward
  onward_near n [] o m q i = absurd (on_none N n m q i)
  onward_near n (p ∷ w) o m q i =
      ⊎_elim (λ e. rw (e.0, e.1) (omega arith, near.nearer n p o.1))
      (λ k. let r = onward_near (N.next n p) w o.2 m q k in (omega (arith, near.nearer n p o.1), r.1)) (on_cases N n p w m q i)

  -- it does not come back to its start
  pub onward_past : (n p : ℕ) (w : Path) → Onward N t n (p ∷ w) → (q : ℕ) → On N (N.next n p) w n q → ⊥
  unfolding Onward
  onward_past n p w o q i = omega (arith, near.nearer n p o.1, (onward_near (N.next n p) w o.2 n q i).0)

  -- a way on behind a hop does not take that hop
  pub hop_fresh : (s p : ℕ) (w : Path) → Onward N t (N.next s p) w → On N (N.next s p) w s p → ⊥
  hop_fresh s p w o i = let r = onward_near (N.next s p) w o s p i in omega arith

  onward_distinct : (n : ℕ) (w : Path) → Onward N t n w → Pairwise ◌≢◌ (links N n w)
  unfolding Onward links Pairwise On
  onward_distinct n [] o = tt
  onward_distinct n (p ∷ w) o = ((λ l m e. onward_past n p w o p (subst (λ (k : Link). k ∈ links N (N.next n p) w) (sym e) m)), onward_distinct (N.next n p) w o.2)

  -- A permitted path uses no link twice.
  pub permitted_distinct : (s : ℕ) (vector : List ℕ) (w : Path) → Permitted N s vector t w → Pairwise ◌≢◌ (links N s w)
  unfolding Permitted links Pairwise On
  permitted_distinct s vector [] o = elim o [ ]
  permitted_distinct s vector (p ∷ w) o =
      ((λ l m e. hop_fresh s p w o.1 (subst (λ (k : Link). k ∈ links N (N.next s p) w) (sym e) m)), onward_distinct (N.next s p) w o.1)

  -- It has one hop or more, and behind the first no more than the target is far.
  pub permitted_length : (s : ℕ) (vector : List ℕ) (p : ℕ) (w : Path) → Permitted N s vector t (p ∷ w) → length (p ∷ w) ≤ suc (N.distance t (N.next s p))
  unfolding Permitted
  permitted_length s vector p w o = omega (arith, onward_length (N.next s p) w o.1)
