-- The test of links: it passes exactly where the links of every circuit are free and no two circuits share one, provided that no circuit has a link twice.
-- Assumes nothing.
use mathlib.Core.Path.{◌≡◌, refl, ap, sym, subst}
use mathlib.Core.Logic.{◌≢◌, ⊎_elim}
use mathlib.Core.Bool.{Bool, true, not}
use mathlib.Core.List.Memᴰ
use mathlib.Core.List.{List, [], ◌∷◌, ◌++◌}
use Prim.Native.Nat.{ℕ}
use borrow.Author.Tests.{not-true}
use Rattle.common.specs.Lists.{◌∈◌, Pairwise}
use Rattle.common.proofs.Tests.{both, and, clash, is_false}
use Rattle.common.proofs.Lists.{all_cons, all_append, pairwise_append}
use Rattle.paths.specs.Network.{Network, Link, has_link}
use Rattle.paths.proofs.Links.{link_true, true_link}
use Rattle.book.specs.Book.{BookCircuit}
use Rattle.judging.specs.Judged.{links_in, links_fit, all_links}
use Rattle.judging.specs.Loadable.{NoneShared}

-- links that are free, all different, and none of those before
record FreeAndNew (is_free : ℕ → ℕ → Bool) (before ls : List Link) : Type 0 where
  pub free : (l : Link) → l ∈ ls → is_free l.0 l.1 ≡ true
  pub distinct : Pairwise ◌≢◌ ls
  pub fresh : (l : Link) → l ∈ ls → l ∈ before → ⊥

module _ (free : ℕ → ℕ → Bool) where
  -- what the test lets through is so,
  fit_new : (before ls : List Link) → links_fit free before ls ≡ true → FreeAndNew free before ls
  unfolding links_fit Pairwise
  fit_new before [] e = record { free = λ l m. absurd (Memᴰ.not-nil m); distinct = tt; fresh = λ l m. absurd (Memᴰ.not-nil m) }
  fit_new before (k ∷ ls) e =
      let r = both (free k.0 k.1) _ e in
      let u = both (not (has_link before k.0 k.1)) _ r.1 in
      let rest = fit_new (k ∷ before) ls u.1 in
      let new : k ∈ before → ⊥ = λ m. clash (link_true before k.0 k.1 m) (not-true _ u.0) in
      record {
        free = all_cons (λ l. free l.0 l.1 ≡ true) r.0 rest.free;
        distinct = ((λ l m d. rest.fresh l m (Memᴰ.head (sym d))), rest.distinct);
        fresh = all_cons (λ l. l ∈ before → ⊥) new (λ l m b. rest.fresh l m (Memᴰ.tail b));
      }

  -- and it lets all such links through
  new_fit : (before ls : List Link) → FreeAndNew free before ls → links_fit free before ls ≡ true
  unfolding links_fit Pairwise
  new_fit before [] h = refl
  new_fit before (k ∷ ls) h =
      and (h.free k (Memᴰ.head refl))
      (and (ap not (is_false (has_link before k.0 k.1) (λ e. h.fresh k (Memᴰ.head refl) (true_link before k.0 k.1 e))))
      (new_fit (k ∷ before) ls
      record {
        free = λ l m. h.free l (Memᴰ.tail m);
        distinct = h.distinct.1;
        fresh = λ l m b. ⊎_elim (λ e. h.distinct.0 l m (sym e)) (h.fresh l (Memᴰ.tail m)) (Memᴰ.cases_cons b);
      }))

-- a sorted list cut in two: each part is sorted, and each member of the one is in the relation to each of the other
pairwise_parts : {A : Type 0} {R : A → A → Type 0} (xs ys : List A) → Pairwise R (xs ++ ys)
    → Pairwise R xs × Pairwise R ys × ((x y : A) → x ∈ xs → y ∈ ys → R x y)
unfolding Pairwise
pairwise_parts [] ys s = (tt, s, λ x y m. absurd (Memᴰ.not-nil m))
pairwise_parts {R = R} (x ∷ xs) ys s =
    let r = pairwise_parts xs ys s.1 in (
      ((λ y m. s.0 y (Memᴰ.append_left ys m)), r.0),
      r.1,
      (λ u y m k. all_cons (λ u. R u y) (s.0 y (Memᴰ.append_right xs k)) (λ v i. r.2 v y i k) u m),
    )

module _ (N : Network) where
  -- each link of a circuit of a book is one of the book's,
  link_of : (xs : List BookCircuit) (x : BookCircuit) → x ∈ xs → (l : Link) → l ∈ links_in N x → l ∈ all_links N xs
  unfolding all_links
  link_of [] x m l k = absurd (Memᴰ.not-nil m)
  link_of (y ∷ xs) x m l k =
      ⊎_elim (λ e. Memᴰ.append_left (all_links N xs) (subst (λ x. l ∈ links_in N x) e k)) (λ i. Memᴰ.append_right (links_in N y) (link_of xs x i l k)) (Memᴰ.cases_cons m)

  -- and what holds of every circuit's links holds of every link of the book
  each_link : (P : Link → Type 0) (xs : List BookCircuit) → ((x : BookCircuit) → x ∈ xs → (l : Link) → l ∈ links_in N x → P l) → (l : Link) → l ∈ all_links N xs → P l
  unfolding all_links
  each_link P [] h = λ l m. absurd (Memᴰ.not-nil m)
  each_link P (x ∷ xs) h = all_append P (links_in N x) (h x (Memᴰ.head refl)) (each_link P xs (λ y m. h y (Memᴰ.tail m)))

  -- where all links of a book are different, no two circuits share one,
  distinct_apart : (xs : List BookCircuit) → Pairwise ◌≢◌ (all_links N xs) → Pairwise (NoneShared N) xs
  unfolding all_links Pairwise
  distinct_apart [] s = tt
  distinct_apart (x ∷ xs) s =
      let r = pairwise_parts (links_in N x) (all_links N xs) s in
      ((λ y m l i k. r.2 l l i (link_of xs y m l k) refl), distinct_apart xs r.1)

  -- and conversely, where no circuit has a link twice
  apart_distinct : (xs : List BookCircuit) → ((x : BookCircuit) → x ∈ xs → Pairwise ◌≢◌ (links_in N x)) → Pairwise (NoneShared N) xs → Pairwise ◌≢◌ (all_links N xs)
  unfolding all_links Pairwise
  apart_distinct [] each s = tt
  apart_distinct (x ∷ xs) each s =
      pairwise_append (links_in N x) (all_links N xs) (each x (Memᴰ.head refl)) (apart_distinct xs (λ y m. each y (Memᴰ.tail m)) s.1)
      (λ l k i j. each_link (λ k. l ≢ k) xs (λ y m k j e. s.0 y m l i (subst (λ k. k ∈ links_in N y) (sym e) j)) k j)

  module _ (free : ℕ → ℕ → Bool) (xs : List BookCircuit) where
    -- Where the test passes, the links of every circuit are free, and no two circuits share one.
    pub links_pass : links_fit free [] (all_links N xs) ≡ true
        → ((x : BookCircuit) → x ∈ xs → (l : Link) → l ∈ links_in N x → free l.0 l.1 ≡ true) × Pairwise (NoneShared N) xs
    links_pass e = let r = fit_new free [] (all_links N xs) e in ((λ x m l k. r.free l (link_of xs x m l k)), distinct_apart xs r.distinct)

    -- Where that is so, and no circuit has a link twice, the test passes.
    pub pass_links : ((x : BookCircuit) → x ∈ xs → Pairwise ◌≢◌ (links_in N x)) → ((x : BookCircuit) → x ∈ xs → (l : Link) → l ∈ links_in N x → free l.0 l.1 ≡ true)
        → Pairwise (NoneShared N) xs → links_fit free [] (all_links N xs) ≡ true
    pass_links once each apart =
        new_fit free [] (all_links N xs)
        record {
          free = each_link (λ l. free l.0 l.1 ≡ true) xs each;
          distinct = apart_distinct xs once apart;
          fresh = λ l m b. Memᴰ.not-nil b;
        }
