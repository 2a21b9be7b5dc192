-- Counting: one more that passes, and tests that pass as often.
-- Assumes nothing.
use mathlib.Core.Path.{◌≡◌, refl, ap, ap₂, sym, ◌∙◌, fun_ext}
use mathlib.Core.Logic.{⊎_elim, ◌≢◌}
use mathlib.Core.Bool.{Bool, true, false, ◌&&◌, ◌||◌, not, or-false, or_assoc}
use mathlib.Core.List.Memᴰ
use mathlib.Core.List.{List, [], ◌∷◌, ◌++◌}
use Prim.Native.Nat.{ℕ, suc, ◌+◌, ◌-◌, ◌*◌, ◌/◌, ◌%◌, ◌≤◌, ◌<◌}
use native.Mathlib.Omega.{arith}
use native.Mathlib.Nat.{zero-add, add-zero}
use lib.Dec.{eqb}
use lib.ListN.{length, length-append}
use borrow.Author.Tests.{eqb-true, eq-eqb}
use Rattle.common.specs.Lists.{◌∈◌, keep, from, Pairwise}
use Rattle.common.proofs.Lists.{keep_yes, keep_no, keep_append, keep_same, keep_none, length_parts}
use Rattle.common.proofs.From.{from_mem, mem_from, from_below, from_split, length_from}
use Rattle.common.proofs.Tests.{clash, is_false, both, and, or_right}
use Rattle.layout.specs.Layout.{entry_count}
use Rattle.layout.specs.Resources.{Width}
use Rattle.layout.proofs.Entries.{by_width}
use Rattle.paths.specs.Network.{Link, has_link}
use Rattle.table.specs.TableContracts.{place_count}

module _ {A : Type 0} (f g : A → Bool) where
  -- a test that passes where another does passes as often or more
  pub kept_more : (xs : List A) → ((x : A) → x ∈ xs → f x ≡ true → g x ≡ true) → length (keep f xs) ≤ length (keep g xs)
  kept_more [] h = unfold keep in omega arith
  kept_more (x ∷ xs) h = go (f x) (g x) refl refl (kept_more xs (λ y m. h y (Memᴰ.tail m)))
    where
      go : (a b : Bool) → f x ≡ a → g x ≡ b → length (keep f xs) ≤ length (keep g xs) → length (keep f (x ∷ xs)) ≤ length (keep g (x ∷ xs))
      go true true e d ih = rw (keep_yes f x xs e, keep_yes g x xs d) (omega arith)
      go true false e d ih = absurd (clash (h x (Memᴰ.head refl) e) d)
      go false true e d ih = rw (keep_no f x xs e, keep_yes g x xs d) (omega arith)
      go false false e d ih = rw (keep_no f x xs e, keep_no g x xs d) ih

  -- and where it does not pass more often, nowhere else
  pub kept_same : (xs : List A) → ((x : A) → x ∈ xs → f x ≡ true → g x ≡ true) → length (keep g xs) ≤ length (keep f xs) → (x : A) → x ∈ xs → g x ≡ true → f x ≡ true
  kept_same [] h l x m t = absurd (Memᴰ.not-nil m)
  kept_same (y ∷ xs) h l x m t = go (f y) (g y) refl refl (kept_more xs (λ z k. h z (Memᴰ.tail k))) (kept_same xs (λ z k. h z (Memᴰ.tail k)))
    where
      go : (a b : Bool) → f y ≡ a → g y ≡ b → length (keep f xs) ≤ length (keep g xs) → (length (keep g xs) ≤ length (keep f xs) → (x : A) → x ∈ xs → g x ≡ true → f x ≡ true) → f x ≡ true
      go true b e d most ih =
          ⊎_elim (λ q. ap f q ∙ e) (λ k. ih (fewer b d) x k t) (Memᴰ.cases_cons m)
        where
          fewer : (b : Bool) → g y ≡ b → length (keep g xs) ≤ length (keep f xs)
          fewer true d = omega (arith, rw (keep_yes f y xs e, keep_yes g y xs d) at l)
          fewer false d = absurd (clash (h y (Memᴰ.head refl) e) d)
      go false true e d most ih = absurd (omega (arith, rw (keep_no f y xs e, keep_yes g y xs d) at l))
      go false false e d most ih = ⊎_elim (λ q. absurd (clash t (ap g q ∙ d))) (λ k. ih (rw (keep_no f y xs e, keep_no g y xs d) at l) x k t) (Memᴰ.cases_cons m)

-- one number more that passes
pub kept_one_more : (f g : ℕ → Bool) (k i : ℕ) → i < k → f i ≡ false → g i ≡ true → ((j : ℕ) → j ≢ i → f j ≡ g j) → length (keep g (from 0 k)) ≡ suc (length (keep f (from 0 k)))
kept_one_more f g k i l off on same = go (k - suc i) (omega arith)
  where
    go : (j : ℕ) → k ≡ i + suc j → length (keep g (from 0 k)) ≡ suc (length (keep f (from 0 k)))
    go j e =
        let split : from 0 k ≡ from 0 i ++ i ∷ from (suc i) j = ap (from 0) e ∙ from_split 0 i j ∙ ap (λ x. from 0 i ++ x ∷ from (suc x) j) (zero-add i) in
        let low : keep g (from 0 i) ≡ keep f (from 0 i) = keep_same g f (from 0 i) (λ x m. sym (same x (λ q. let b = from_below i x m in omega arith))) in
        let high : keep g (from (suc i) j) ≡ keep f (from (suc i) j) = keep_same g f (from (suc i) j) (λ x m. sym (same x (λ q. let b = from_mem (suc i) j m in omega arith))) in
        rw (split, keep_append g (from 0 i) (i ∷ from (suc i) j), keep_append f (from 0 i) (i ∷ from (suc i) j), keep_yes g i (from (suc i) j) on, keep_no f i (from (suc i) j) off, low, high)
        (omega (arith, length-append (keep f (from 0 i)) (i ∷ keep f (from (suc i) j)), length-append (keep f (from 0 i)) (keep f (from (suc i) j))))

-- the same of links, with q to a node
module _ (q : ℕ) (width : Width q) where
  -- the place of a link, and the link at it
  place_node : (n p : ℕ) → p < q → (q * n + p) / q ≡ n
  place_node n p l = by_width (λ q. p < q → (q * n + p) / q ≡ n) q width (λ l. omega arith) (λ l. omega arith) l

  place_port : (n p : ℕ) → p < q → (q * n + p) % q ≡ p
  place_port n p l = by_width (λ q. p < q → (q * n + p) % q ≡ p) q width (λ l. omega arith) (λ l. omega arith) l

  place_inside : (n p : ℕ) → n < 256 → p < q → q * n + p < entry_count q
  place_inside n p h l = by_width (λ q. p < q → q * n + p < entry_count q) q width (λ l. omega arith) (λ l. omega arith) l

  place_back : (n p j : ℕ) → j / q ≡ n → j % q ≡ p → j ≡ q * n + p
  place_back n p j e f = by_width (λ q. j / q ≡ n → j % q ≡ p → j ≡ q * n + p) q width (λ e f. omega arith) (λ e f. omega arith) e f

  module _ (f g : ℕ → ℕ → Bool) where
    -- one link more
    pub link_more : (n p : ℕ) → n < 256 → p < q → f n p ≡ false → g n p ≡ true → ((m r : ℕ) → ((m ≡ n) × (r ≡ p) → ⊥) → f m r ≡ g m r) → place_count q g (entry_count q) ≡ suc (place_count q f (entry_count q))
    unfolding place_count
    link_more n p h l off on same =
        kept_one_more (λ i. f (i / q) (i % q)) (λ i. g (i / q) (i % q)) (entry_count q) (q * n + p) (place_inside n p h l) (ap₂ f (place_node n p l) (place_port n p l) ∙ off) (ap₂ g (place_node n p l) (place_port n p l) ∙ on)
        (λ j k. same (j / q) (j % q) (λ e. k (place_back n p j e.0 e.1)))

    -- a test of links that passes no more often than one that it implies
    pub links_same : ((m r : ℕ) → f m r ≡ true → g m r ≡ true) → place_count q g (entry_count q) ≤ place_count q f (entry_count q) → (m r : ℕ) → m < 256 → r < q → g m r ≡ true → f m r ≡ true
    unfolding place_count
    links_same h l m r i j t =
        sym (ap₂ f (place_node m r j) (place_port m r j))
        ∙ kept_same (λ i. f (i / q) (i % q)) (λ i. g (i / q) (i % q)) (from 0 (entry_count q)) (λ x k e. h (x / q) (x % q) e) l (q * m + r) (mem_from 0 (entry_count q) (q * m + r) (omega arith) (omega (arith, place_inside m r i j)))
        (ap₂ g (place_node m r j) (place_port m r j) ∙ t)

    pub links_more : ((m r : ℕ) → f m r ≡ true → g m r ≡ true) → place_count q f (entry_count q) ≤ place_count q g (entry_count q)
    unfolding place_count
    links_more h = kept_more (λ i. f (i / q) (i % q)) (λ i. g (i / q) (i % q)) (from 0 (entry_count q)) (λ x k e. h (x / q) (x % q) e)

pub links_parts : (q : ℕ) (f : ℕ → ℕ → Bool) → place_count q f (entry_count q) + place_count q (λ m p. not (f m p)) (entry_count q) ≡ entry_count q
unfolding place_count
links_parts q f = length_parts (λ i. f (i / q) (i % q)) (from 0 (entry_count q)) ∙ length_from 0 (entry_count q)

pub links_none : (q k : ℕ) → place_count q (λ m p. false) k ≡ 0
unfolding place_count
links_none q k = ap length (keep_none (λ i. false) (from 0 k) (λ x m. refl))

pub same_count : (q : ℕ) {f g : ℕ → ℕ → Bool} → ((m p : ℕ) → f m p ≡ g m p) → (k : ℕ) → place_count q f k ≡ place_count q g k
same_count q h k = ap (λ f. place_count q f k) (fun_ext (λ m. fun_ext (λ p. h m p)))

-- links that are all different and of which none passes, added to those that do
with_link : (ℕ → ℕ → Bool) → Link → ℕ → ℕ → Bool
with_link f l m q = f m q || (eqb m l.0 && eqb q l.1)

module _ (f : ℕ → ℕ → Bool) (l : Link) where
  link_on : with_link f l l.0 l.1 ≡ true
  unfolding with_link
  link_on = or_right (f l.0 l.1) (and (eq-eqb l.0 _ refl) (eq-eqb l.1 _ refl))

  link_off : (m q : ℕ) → ((m ≡ l.0) × (q ≡ l.1) → ⊥) → f m q ≡ with_link f l m q
  unfolding with_link
  link_off m q h =
      sym (ap (f m q ||◌) (is_false _ (λ e. let r = both (eqb m l.0) (eqb q l.1) e in h (eqb-true m _ r.0, eqb-true q _ r.1))) ∙ or-false (f m q))

pair : {a b c d : ℕ} → a ≡ c → b ≡ d → ◌≡◌ {A = Link} (a, b) (c, d)
pair e f = λ i. (e i, f i)

pub links_added : (q : ℕ) → Width q → (f : ℕ → ℕ → Bool) (ls : List Link) → Pairwise ◌≢◌ ls → ((l : Link) → l ∈ ls → (l.0 < 256) × (l.1 < q) × (f l.0 l.1 ≡ false))
    → place_count q (λ m p. f m p || has_link ls m p) (entry_count q) ≡ place_count q f (entry_count q) + length ls
unfolding has_link Pairwise with_link
links_added q width f [] d h = same_count q (λ m p. or-false (f m p)) (entry_count q) ∙ sym (add-zero _)
links_added q width f (l ∷ ls) d h =
    let mine = h l (Memᴰ.head refl) in
    let one = link_more q width f (with_link f l) l.0 l.1 mine.0 mine.1 mine.2 (link_on f l) (link_off f l) in
    same_count q (λ m p. sym (or_assoc (f m p) (eqb m l.0 && eqb p l.1) (has_link ls m p))) (entry_count q)
    ∙ links_added q width (with_link f l) ls d.1 (λ k m. let b = h k (Memᴰ.tail m) in (b.0, b.1, sym (link_off f l k.0 k.1 (λ e. d.0 k m (sym (pair e.0 e.1)))) ∙ b.2))
    ∙ more (length ls) one
  where
    more : {x y : ℕ} (z : ℕ) → x ≡ suc y → x + z ≡ y + suc z
    more z e = omega arith
