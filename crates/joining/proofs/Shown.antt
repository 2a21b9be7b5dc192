-- What a part of the joined table shows, from its bytes: at the nodes of the first half what the first shows, at those of the second what the second shows.
-- Assumes nothing.
use mathlib.Core.Path.{◌≡◌, refl, ap, ap₂, sym, ◌∙◌}
use mathlib.Core.Logic.{⊎_elim}
use mathlib.Core.Bool.{Bool, true, false, cond, ◌&&◌, and-false}
use mathlib.Core.List.{List}
use Prim.Native.Nat.{ℕ, ◌+◌, ◌-◌, ◌*◌, ◌≤◌, ◌<◌}
use native.Mathlib.Omega.{arith}
use lib.Dec.{ltb}
use lib.ListN.{get_or}
use borrow.Author.Tests.{lt-ltb, le-ltb}
use Rattle.common.proofs.Tests.{below_or}
use Rattle.cube.specs.Cube.{port_count}
use Rattle.cube.specs.Bits.{has}
use Rattle.layout.specs.Layout.{in_table, mask_place, mask_number, mask_at, entry_place, entry_at, word_at}
use Rattle.layout.proofs.Entries.{within, inside}
use Rattle.joining.specs.Joined.{renumbered}

-- two lists of bytes show the same at a node and a port or channel where their words, or their bits, there agree
pub entry_same : (b b' : List ℕ) (part n k : ℕ) → (n < 256 → k < port_count → word_at b (entry_place 8 part n k) ≡ word_at b' (entry_place 8 part n k)) → entry_at 8 part b n k ≡ entry_at 8 part b' n k
unfolding entry_at
entry_same b b' part n k h = go (in_table 8 n k) refl
  where
    go : (x : Bool) → in_table 8 n k ≡ x → cond x (word_at b (entry_place 8 part n k)) 0 ≡ cond x (word_at b' (entry_place 8 part n k)) 0
    go true e = let r = inside {w = 8} n k e in h r.0 r.1
    go false e = refl

mask_same : (b b' : List ℕ) (part n k : ℕ) → (n < 256 → get_or b (mask_place 8 part n) 0 ≡ get_or b' (mask_place 8 part n) 0) → mask_at 8 part b n k ≡ mask_at 8 part b' n k
unfolding mask_at mask_number
mask_same b b' part n k h = go (in_table 8 n k) refl
  where
    go : (x : Bool) → in_table 8 n k ≡ x → x && has (get_or b (mask_place 8 part n) 0) k ≡ x && has (get_or b' (mask_place 8 part n) 0) k
    go true e = ap (λ y. has y k) (h (inside {w = 8} n k e).0)
    go false e = refl

-- nothing is shown where a row has no more entries
entry_none : (b : List ℕ) (part n k : ℕ) → port_count ≤ k → entry_at 8 part b n k ≡ 0
unfolding entry_at
entry_none b part n k h = rw (le-ltb k 8 h, and-false (ltb n 256))

-- Where a node lies: in the first half, in the second, or behind both.
pub data NodeIn (nodes n : ℕ) : Type 0 where
  in_first : n < nodes → NodeIn nodes n
  in_second : (m : ℕ) → m < nodes → n ≡ nodes + m → NodeIn nodes n
  in_neither : 2 * nodes ≤ n → NodeIn nodes n

node_in : (nodes n : ℕ) → NodeIn nodes n
node_in nodes n =
    ⊎_elim (λ h. in_first h) (λ h. ⊎_elim (λ l. in_second (n - nodes) (omega arith) (omega arith)) (λ l. in_neither (omega arith)) (below_or (2 * nodes) n)) (below_or nodes n)

-- The bytes of the rows of a joined table: b are the first's, b' the second's.
pub record RowsJoined (part nodes : ℕ) (b b' new : List ℕ) : Type 0 where
  pub first : (j : ℕ) → j < 16 * nodes → get_or new (part + j) 0 ≡ get_or b (part + j) 0
  pub second : (n k : ℕ) → n < nodes → k < port_count → entry_at 8 part new (nodes + n) k ≡ renumbered (8 * nodes) (entry_at 8 part b' n k)
  pub neither : (j : ℕ) → 32 * nodes ≤ j → j < 4096 → get_or new (part + j) 0 ≡ get_or b (part + j) 0

-- Those of the masks: f is what was done to each.
pub record MasksJoined (part nodes : ℕ) (f : ℕ → ℕ) (b b' new : List ℕ) : Type 0 where
  pub first : (n : ℕ) → n < nodes → get_or new (mask_place 8 part n) 0 ≡ f (get_or b (mask_place 8 part n) 0)
  pub second : (n : ℕ) → n < nodes → get_or new (mask_place 8 part (nodes + n)) 0 ≡ f (get_or b' (mask_place 8 part n) 0)
  pub neither : (n : ℕ) → 2 * nodes ≤ n → n < 256 → get_or new (mask_place 8 part n) 0 ≡ get_or b (mask_place 8 part n) 0

-- 0 gains nothing
pub renumbered_none : (gain : ℕ) {c : ℕ} → c ≡ 0 → renumbered gain c ≡ 0
unfolding renumbered
renumbered_none gain e = rw e refl

module _ (part nodes : ℕ) (most : 2 * nodes ≤ 256) (b b' new : List ℕ) where
  module _ (r : RowsJoined part nodes b b' new) where
    -- a word of an entry whose bytes are as they were
    word_first : (n k : ℕ) → k < 8 → ((j : ℕ) → 16 * n ≤ j → j < 16 * n + 16 → get_or new (part + j) 0 ≡ get_or b (part + j) 0) → word_at new (entry_place 8 part n k) ≡ word_at b (entry_place 8 part n k)
    word_first n k h same =
        let low : entry_place 8 part n k ≡ part + (16 * n + 2 * k) = omega arith in
        let high : part + (16 * n + 2 * k) + 1 ≡ part + (16 * n + 2 * k + 1) = omega arith in
        rw (low, high) (ap₂ (λ x y. x + 256 * y) (same (16 * n + 2 * k) (omega arith) (omega arith)) (same (16 * n + 2 * k + 1) (omega arith) (omega arith)))

    entry_second : (n k : ℕ) → n < nodes → entry_at 8 part new (nodes + n) k ≡ renumbered (8 * nodes) (entry_at 8 part b' n k)
    entry_second n k h = ⊎_elim (λ l. r.second n k h l) (λ l. entry_none new part (nodes + n) k l ∙ sym (renumbered_none (8 * nodes) (entry_none b' part n k l))) (below_or port_count k)

    -- what the rows show
    pub entry_joined : (n k : ℕ) → (nodes ≤ n → entry_at 8 part b n k ≡ 0) → ((m : ℕ) → nodes ≤ m → entry_at 8 part b' m k ≡ 0)
        → entry_at 8 part new n k ≡ cond (ltb n nodes) (entry_at 8 part b n k) (renumbered (8 * nodes) (entry_at 8 part b' (n - nodes) k))
    entry_joined n k absent absent' = go (node_in nodes n)
      where
        go : NodeIn nodes n → entry_at 8 part new n k ≡ cond (ltb n nodes) (entry_at 8 part b n k) (renumbered (8 * nodes) (entry_at 8 part b' (n - nodes) k))
        go (in_first h) = rw (lt-ltb n nodes h) (entry_same new b part n k (λ g l. word_first n k l (λ j x y. r.first j (omega arith))))
        go (in_second m h e) =
            let behind : n - nodes ≡ m = omega arith in
            rw (le-ltb n nodes (omega arith), behind, e) (entry_second m k h)
        go (in_neither h) =
            rw (le-ltb n nodes (omega arith))
            (entry_same new b part n k (λ g l. word_first n k l (λ j x y. r.neither j (omega arith) (omega arith))) ∙ absent (omega arith)
            ∙ sym (renumbered_none (8 * nodes) (absent' (n - nodes) (omega arith))))

  module _ (f : ℕ → ℕ) (r : MasksJoined part nodes f b b' new) (n k : ℕ) where
    -- what the masks show at a place that f leaves
    module _ (same : (x : ℕ) → has (f x) k ≡ has x k) where
      kept_first : n < nodes → mask_at 8 part new n k ≡ mask_at 8 part b n k
      unfolding mask_at mask_number
      kept_first h = rw (r.first n h, same)

      kept_second : (m : ℕ) → m < nodes → mask_at 8 part new (nodes + m) k ≡ mask_at 8 part b' m k
      unfolding mask_at mask_number
      kept_second m h =
          rw (lt-ltb (nodes + m) 256 (omega arith), lt-ltb m 256 (omega arith), r.second m h, same)

      pub mask_joined : (nodes ≤ n → mask_at 8 part b n k ≡ false) → ((m : ℕ) → nodes ≤ m → mask_at 8 part b' m k ≡ false)
          → mask_at 8 part new n k ≡ cond (ltb n nodes) (mask_at 8 part b n k) (mask_at 8 part b' (n - nodes) k)
      mask_joined absent absent' = go (node_in nodes n)
        where
          go : NodeIn nodes n → mask_at 8 part new n k ≡ cond (ltb n nodes) (mask_at 8 part b n k) (mask_at 8 part b' (n - nodes) k)
          go (in_first h) = rw (lt-ltb n nodes h) (kept_first h)
          go (in_second m h e) =
              let behind : n - nodes ≡ m = omega arith in
              rw (le-ltb n nodes (omega arith), behind, e) (kept_second m h)
          go (in_neither h) =
              rw (le-ltb n nodes (omega arith))
              (mask_same new b part n k (λ g. r.neither n h g) ∙ absent (omega arith) ∙ sym (absent' (n - nodes) (omega arith)))

    -- and at one that f sets
    module _ (l : k < port_count) (set : (x : ℕ) → has (f x) k ≡ true) where
      set_first : n < nodes → mask_at 8 part new n k ≡ true
      unfolding mask_at mask_number
      set_first h = rw (within {w = 8} n k (omega arith) l, r.first n h, set)

      set_second : (m : ℕ) → m < nodes → mask_at 8 part new (nodes + m) k ≡ true
      unfolding mask_at mask_number
      set_second m h =
          rw (within {w = 8} (nodes + m) k (omega arith) l, r.second m h, set)

      pub mask_set : (nodes ≤ n → mask_at 8 part b n k ≡ false) → mask_at 8 part new n k ≡ ltb n (2 * nodes)
      mask_set absent = go (node_in nodes n)
        where
          go : NodeIn nodes n → mask_at 8 part new n k ≡ ltb n (2 * nodes)
          go (in_first h) = set_first h ∙ sym (lt-ltb n (2 * nodes) (omega arith))
          go (in_second m h e) = rw e (set_second m h ∙ sym (lt-ltb (nodes + m) (2 * nodes) (omega arith)))
          go (in_neither h) = mask_same new b part n k (λ g. r.neither n h g) ∙ absent (omega arith) ∙ sym (le-ltb n (2 * nodes) h)
