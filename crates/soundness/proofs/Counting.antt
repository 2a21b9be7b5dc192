-- Counting the hops of the circuits that hold receive channels, one stretch of channels after the other.
-- Assumes nothing.
use mathlib.Core.Path.{◌≡◌, refl, ap, sym, ◌∙◌, subst}
use mathlib.Core.Logic.{◌⊎◌, inl, inr, ⊎_elim, ◌≢◌}
use mathlib.Core.Bool.{false}
use mathlib.Core.List.{List}
use Prim.Native.Nat.{ℕ, ◌+◌, ◌*◌, ◌≤◌, ◌<◌}
use native.Mathlib.Omega.{arith}
use native.Mathlib.Nat.{add-zero, add_assoc}
use lib.ListN.{replicate, get_or, get_or-replicate}
use Rattle.std.proofs.lemmas.List.{get_or_past, length-replicate}
use Rattle.cube.specs.Cube.{channels}
use Rattle.common.proofs.Tests.{below_or, clash}
use Rattle.cube.specs.Bits.{has}
use Rattle.cube.proofs.Bits.{zero_has}
use Rattle.layout.specs.Layout.{entry_count}
use Rattle.table.specs.View.{View}
use Rattle.soundness.specs.Sound.{Sound}
use Rattle.circuit_hops.specs.Seen.{seen_at}
use Rattle.soundness.specs.Counting.{Earlier, ReceivedBefore, Counting, Counted}
use Rattle.soundness.proofs.LinkCount.{links_none}

pub wider : (v : View) (i j c : ℕ) → i ≤ j → ReceivedBefore v i c → ReceivedBefore v j c
unfolding ReceivedBefore
wider v i j c l r = (r.0, r.1, (r.2.0, omega (arith, r.2.1)), r.3)

-- nothing is counted before the first place
pub counting_none : (q : ℕ) (v : View) → Counting q v 0 0 (replicate 256 0)
counting_none q v =
    record {
      on = λ m q. false;
      count = links_none q (entry_count q);
      on_paths = λ m p e. absurd (clash e refl);
      followed = λ n k e h. absurd (omega (arith, e.1));
      once = λ n k m j e f z h. absurd (omega (arith, e.1));
      marks = λ n k e h. absurd (omega (arith, e.1));
      marks_received = λ s p l e. absurd (clash e (unfold seen_at in ap (λ x. has x p) (none_marked s (below_or 256 s)) ∙ zero_has p));
    }
  where
    none_marked : (s : ℕ) → (s < 256) ⊎ (256 ≤ s) → get_or (replicate {A = ℕ} 256 0) s 0 ≡ 0
    none_marked s (inl h) = get_or-replicate 256 s 0 0 h
    none_marked s (inr h) = get_or_past (replicate {A = ℕ} 256 0) s 0 (omega (arith, length-replicate {A = ℕ} 256 0))

module _ {q : ℕ} {v : View} where
  -- receive channels that nobody holds are passed over
  pub counts_skip : {i j : ℕ} {m : List ℕ} → i ≤ j → ((n k : ℕ) → k < channels → i ≤ channels * n + k → channels * n + k < j → v.receiver n k ≡ 0) → Counted q v i j m m 0
  counts_skip {i} {j} {m} l unheld =
      record { counts = λ h x. subst (λ (y : ℕ). Counting q v j y m) (sym (add-zero h)) (on h x); most = omega arith }
    where
      back : {n k : ℕ} → Earlier j n k → v.receiver n k ≢ 0 → Earlier i n k
      back {n} {k} e h = (e.0, ⊎_elim (λ b. b) (λ b. absurd (h (unheld n k e.0 b e.1))) (below_or i (channels * n + k)))

      on : (h : ℕ) → Counting q v i h m → Counting q v j h m
      on h x =
          record {
            on = x.on;
            count = x.count;
            on_paths = λ a b e. let r = x.on_paths a b e in (r.0, r.1, r.2, wider v i j _ l r.3);
            followed = λ n k e z. x.followed n k (back e z) z;
            once = λ n k a b e f g z. x.once n k a b (back e z) (back f (λ y. z (g ∙ y))) g z;
            marks = λ n k e z. x.marks n k (back e z) z;
            marks_received = λ s p a e. wider v i j _ l (x.marks_received s p a e);
          }

  -- one stretch after another, or up to one that fails
  pub counts_join : {i j k a b : ℕ} {m₀ m₁ m₂ : List ℕ} → Counted q v i j m₀ m₁ a → Counted q v j k m₁ m₂ b → Counted q v i k m₀ m₂ (a + b)
  counts_join {i} {j} {k} {a} {b} {m₀} {m₁} {m₂} x y =
      record {
        counts = λ h c. subst (λ (z : ℕ). Counting q v k z m₂) (add_assoc h a b) (y.counts (h + a) (x.counts h c));
        most = omega (arith, x.most, y.most);
      }

  pub counts_fail : {i j a : ℕ} {m₀ m₁ : List ℕ} → Counted q v i j m₀ m₁ a → ((h : ℕ) → Counting q v j h m₁ → Sound v → ⊥) → (h : ℕ) → Counting q v i h m₀ → Sound v → ⊥
  counts_fail {a = a} x fails h c = fails (h + a) (x.counts h c)

  pub counts_as_lem : {i i' j j' a a' : ℕ} {m₀ m m' : List ℕ} → Counted q v i j m₀ m a → i ≡ i' → j ≡ j' → m' ≡ m → a' ≡ a → Counted q v i' j' m₀ m' a'
  counts_as_lem x d e f g = rw (← d, ← e, f, g) x
