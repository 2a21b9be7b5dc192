-- The order after a record: it has every requester, in the order of the places after the record. So its first member who asks is the one of `Chosen`.
-- Assumes nothing.
use mathlib.Core.Path.{◌≡◌, refl, ap, sym, ◌∙◌}
use mathlib.Core.Logic.{⊎_elim}
use mathlib.Core.Bool.{Bool, true, false}
use mathlib.Core.List.Memᴰ
use mathlib.Core.List.{List, [], ◌∷◌}
use Prim.Native.Nat.{ℕ, ◌+◌, ◌-◌, ◌≤◌, ◌<◌}
use native.Mathlib.Omega.{arith}
use lib.ListN.{get_or}
use borrow.Author.Tests.{lt-ltb, le-ltb}
use Rattle.common.specs.Lists.{◌∈◌, keep, from, Pairwise}
use Rattle.common.proofs.Lists.{keep_yes, keep_no, pairwise_append, pairwise_imp}
use Rattle.common.proofs.From.{from_mem, mem_from, from_pairwise}
use Rattle.common.proofs.Tests.{below_or, clash}
use Rattle.arbiter.specs.Arbiter.{is_asking, order, chosen}
use Rattle.arbiter.specs.Chosen.{steps, Chosen}

-- the places after a record, above it and up to it
pub steps_above : (last r : ℕ) → last < r → steps last r ≡ r - last
unfolding steps
steps_above last r h = rw (lt-ltb last r h)

pub steps_round : (last r : ℕ) → r ≤ last → steps last r ≡ r + 26 - last
unfolding steps
steps_round last r h = rw (le-ltb last r h)

-- Of a list in the order of a rank, the first member that passes a test: it has the least rank of those that pass.
abbrev sooner : (ℕ → ℕ) → ℕ → ℕ → Type 0
sooner rank x y = rank x < rank y

module _ (rank : ℕ → ℕ) (f : ℕ → Bool) (none : ℕ) where
  -- what is known of it, where some member passes
  pub record First (xs : List ℕ) (c : ℕ) : Type 0 where
    pub member : c ∈ xs
    pub passes : f c ≡ true
    pub least : (j : ℕ) → j ∈ xs → f j ≡ true → rank c ≤ rank j

  pub first_says : (xs : List ℕ) (p : ℕ) → Pairwise (sooner rank) xs → p ∈ xs → f p ≡ true → First xs (get_or (keep f xs) 0 none)
  unfolding Pairwise
  first_says [] p s m e = absurd (Memᴰ.not-nil m)
  first_says (x ∷ xs) p s m e = go (f x) refl (first_says xs p s.1)
    where
      go : (b : Bool) → f x ≡ b → (p ∈ xs → f p ≡ true → First xs (get_or (keep f xs) 0 none)) → First (x ∷ xs) (get_or (keep f (x ∷ xs)) 0 none)
      go true q ih = rw (keep_yes f x xs q) (record {
        member = Memᴰ.head refl;
        passes = q;
        least = λ j k t. ⊎_elim (λ i. rw i (omega arith)) (λ l. let over = s.0 j l in omega arith) (Memᴰ.cases_cons k);
      })
      go false q ih =
          let r = ih (⊎_elim (λ i. absurd (clash e (ap f i ∙ q))) (λ l. l) (Memᴰ.cases_cons m)) e in
          rw (keep_no f x xs q) (record {
            member = Memᴰ.tail r.member;
            passes = r.passes;
            least = λ j k t. ⊎_elim (λ i. absurd (clash t (ap f i ∙ q))) (λ l. r.least j l t) (Memᴰ.cases_cons k);
          })

  -- and it is the only one
  pub first_is : (xs : List ℕ) (c : ℕ) → Pairwise (sooner rank) xs → First xs c → get_or (keep f xs) 0 none ≡ c
  unfolding Pairwise
  first_is [] c s h = absurd (Memᴰ.not-nil h.member)
  first_is (x ∷ xs) c s h = go (f x) refl (first_is xs c s.1)
    where
      go : (b : Bool) → f x ≡ b → (First xs c → get_or (keep f xs) 0 none ≡ c) → get_or (keep f (x ∷ xs)) 0 none ≡ c
      go true q ih =
          rw (keep_yes f x xs q)
          (⊎_elim (λ i. sym i) (λ l. let over = s.0 c l in let under = h.least x (Memᴰ.head refl) q in absurd (omega arith)) (Memᴰ.cases_cons h.member))
      go false q ih =
          rw (keep_no f x xs q)
          (ih (record {
            member = ⊎_elim (λ i. absurd (clash h.passes (ap f i ∙ q))) (λ l. l) (Memᴰ.cases_cons h.member);
            passes = h.passes;
            least = λ j l t. h.least j (Memᴰ.tail l) t;
          }))

module _ (last : ℕ) (stored : last < 26) where
  -- the order has every requester and nobody else, each in its place
  pub order_mem : (r : ℕ) → r < 26 → r ∈ order last
  unfolding order
  order_mem r h =
      ⊎_elim (λ l. Memᴰ.append_right (from (last + 1) (25 - last)) (mem_from 0 (last + 1) r (omega arith) (omega arith)))
      (λ l. Memᴰ.append_left (from 0 (last + 1)) (mem_from (last + 1) (25 - last) r (omega arith) (omega arith))) (below_or (last + 1) r)

  pub order_below : (r : ℕ) → r ∈ order last → r < 26
  unfolding order
  order_below r m =
      ⊎_elim (λ k. let h = from_mem (last + 1) (25 - last) k in omega arith) (λ k. let h = from_mem 0 (last + 1) k in omega arith)
      (Memᴰ.append_cases (from (last + 1) (25 - last)) m)

  pub order_pairwise : Pairwise (sooner (steps last)) (order last)
  unfolding order
  order_pairwise =
      let above : (x : ℕ) → x ∈ from (last + 1) (25 - last) → (steps last x ≡ x - last) × (last < x) × (x < 26) = λ x m. let h = from_mem (last + 1) (25 - last) m in (steps_above last x (omega arith), omega arith, omega arith) in
      let round : (x : ℕ) → x ∈ from 0 (last + 1) → (steps last x ≡ x + 26 - last) × (x ≤ last) = λ x m. let h = from_mem 0 (last + 1) m in (steps_round last x (omega arith), omega arith) in
      pairwise_append (from (last + 1) (25 - last)) (from 0 (last + 1))
      (pairwise_imp ◌<◌ (sooner (steps last)) _ (λ x y m k l. let a = above x m in let b = above y k in omega arith) (from_pairwise (last + 1) (25 - last)))
      (pairwise_imp ◌<◌ (sooner (steps last)) _ (λ x y m k l. let a = round x m in let b = round y k in omega arith) (from_pairwise 0 (last + 1)))
      (λ x y m k. let a = above x m in let b = round y k in omega arith)

  module _ (requests : ℕ) where
    -- where somebody asks, the choice is as Chosen says
    pub chosen_says : (r : ℕ) → r < 26 → is_asking requests r ≡ true → Chosen last requests (chosen last requests)
    unfolding chosen
    chosen_says r h e =
        let f = first_says (steps last) (is_asking requests) 26 (order last) r order_pairwise (order_mem r h) e in
        record { requester = order_below _ f.member; requested = f.passes; nearest = λ j l t. f.least j (order_mem j l) t }

    -- and nobody else is
    pub chosen_is : (r : ℕ) → Chosen last requests r → chosen last requests ≡ r
    unfolding chosen
    chosen_is r c =
        first_is (steps last) (is_asking requests) 26 (order last) r order_pairwise
        (record { member = order_mem r c.requester; passes = c.requested; least = λ j m t. c.nearest j (order_below j m) t })
