-- Counting the links that nobody holds, where those that are held must be enabled.
-- Assumes nothing.
use mathlib.Core.Path.{◌≡◌, ap, sym, ◌∙◌}
use mathlib.Core.Logic.{⊎_elim, ◌≢◌}
use mathlib.Core.Bool.{Bool, true}
use mathlib.Core.List.{List}
use Prim.Native.Nat.{ℕ, zero, suc, ◌+◌, ◌*◌, ◌/◌, ◌%◌, ◌≤◌, ◌<◌}
use native.Mathlib.Omega.{arith}
use native.Mathlib.Nat.{add-zero}
use lib.Dec.{eqb}
use lib.ListN.{length}
use borrow.Author.Tests.{eq-eqb}
use Rattle.common.specs.Lists.{keep, from}
use Rattle.common.proofs.From.{count_yes}
use Rattle.common.proofs.Tests.{below_or}
use Rattle.layout.specs.Layout.{owner_at}
use Rattle.layout.specs.Resources.{Width}
use Rattle.layout.proofs.Entries.{by_width}
use Rattle.table.specs.TableContracts.{place_count}
use Rattle.table.specs.View.{View, view}
use Rattle.soundness.specs.Counting.{UnheldCounted}

-- so many that pass, one after the other
count_run : (f : ℕ → Bool) (i k : ℕ) → ((j : ℕ) → i ≤ j → j < i + k → f j ≡ true) → length (keep f (from 0 i)) + k ≡ length (keep f (from 0 (i + k)))
count_run f i zero h = add-zero _ ∙ ap (λ x. length (keep f (from 0 x))) (sym (add-zero i))
count_run f i (suc k) h =
    let before = count_run f i k (λ j l m. h j l (omega arith)) in
    let one = count_yes f (i + k) _ (h (i + k) (omega arith) (omega arith)) before in
    let on : i + k + 1 ≡ i + suc k = omega arith in
    omega (arith, one, ap (λ x. length (keep f (from 0 x))) on)

-- the links of sixteen nodes
group_links : (q : ℕ) → Width q → (n : ℕ) → q * n + 16 * q ≡ q * (n + 16)
group_links q width n = by_width (λ q. q * n + 16 * q ≡ q * (n + 16)) q width (omega arith) (omega arith)

-- those that nobody holds, counted
pub unheld_some : (q : ℕ) → Width q → (b : List ℕ) (n : ℕ) {unheld : ℕ} → unheld ≤ q * 16 → ((m p : ℕ) → n ≤ m → m < n + 16 → p < q → (view b).owner m p ≢ 0 → (view b).enabled m p ≡ true)
    → place_count q (λ m p. eqb (owner_at b m p) 0) (q * n) + unheld ≡ place_count q (λ m p. eqb (owner_at b m p) 0) (q * (n + 16)) → UnheldCounted q (view b) n (n + 16) unheld
unfolding view
unheld_some q width b n most h k = record { enabled = h; counted = k; most = omega (arith, most, group_links q width n) }

-- and all of them, where the nodes hold nothing
pub unheld_clear : (q : ℕ) → Width q → (b : List ℕ) (n all : ℕ) → all ≡ 16 * q → ((m p : ℕ) → n ≤ m → m < n + 16 → p < q → owner_at b m p ≡ 0) → UnheldCounted q (view b) n (n + 16) all
unheld_clear q width b n all is h = unheld_some q width b n (omega (arith, is)) (λ m p l k i z. absurd (z (unfold view in h m p l k i))) (ap (place_count q (λ m p. eqb (owner_at b m p) 0) (q * n) +◌) is ∙ unheld)
  where
    in_rows : (j : ℕ) → q * n ≤ j → j < q * n + 16 * q → (n ≤ j / q) × (j / q < n + 16) × (j % q < q)
    in_rows j l k = by_width (λ q. q * n ≤ j → j < q * n + 16 * q → (n ≤ j / q) × (j / q < n + 16) × (j % q < q)) q width (λ l k. (omega arith, omega arith, omega arith)) (λ l k. (omega arith, omega arith, omega arith)) l k

    unheld : place_count q (λ m p. eqb (owner_at b m p) 0) (q * n) + 16 * q ≡ place_count q (λ m p. eqb (owner_at b m p) 0) (q * (n + 16))
    unheld = unfold place_count in
        count_run (λ l. eqb (owner_at b (l / q) (l % q)) 0) (q * n) (16 * q) (λ j l k. let r = in_rows j l k in eq-eqb _ 0 (h (j / q) (j % q) r.0 r.1 r.2))
        ∙ ap (λ x. length (keep (λ l. eqb (owner_at b (l / q) (l % q)) 0) (from 0 x))) (group_links q width n)

pub unheld_start : {q : ℕ} {v : View} → UnheldCounted q v 0 0 0
unheld_start = record { enabled = λ n p g l. absurd (omega arith); counted = add-zero _; most = omega arith }

-- one group after others
pub unheld_more : {q : ℕ} {v : View} {n₀ n₁ n₂ a b : ℕ} → UnheldCounted q v n₀ n₁ a → UnheldCounted q v n₁ n₂ b → UnheldCounted q v n₀ n₂ (a + b)
unheld_more {q} {v} {n₀} {n₁} {n₂} {a} {b} x y =
    record {
      enabled = λ n p g h i z. ⊎_elim (λ e. x.enabled n p g e i z) (λ e. y.enabled n p e h i z) (below_or n₁ n);
      counted = sums _ _ _ x.counted y.counted;
      most = below (q * n₀) (q * n₁) (q * n₂) x.most y.most;
    }
  where
    sums : (k l m : ℕ) → k + a ≡ l → l + b ≡ m → k + (a + b) ≡ m
    sums k l m e f = omega arith

    below : (k l m : ℕ) → a + k ≤ l → b + l ≤ m → a + b + k ≤ m
    below k l m e f = omega arith
