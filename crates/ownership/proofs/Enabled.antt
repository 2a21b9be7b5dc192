-- Which links the history says are enabled once one is blocked or unblocked, or the fold mask is set.
-- Assumes nothing.
use mathlib.Core.Path.{◌≡◌, refl, sym}
use mathlib.Core.Bool.{Bool, true, false, cond, not, ◌&&◌, ◌||◌, and-false, or-false, beq}
use mathlib.Core.List.{List, [], ◌∷◌}
use Prim.Native.Nat.{ℕ, ◌^◌}
use lib.Dec.{eqb, ltb}
use borrow.Author.Tests.{eqb-true, lt-ltb}
use Rattle.cube.specs.Bits.{has}
use Rattle.cube.specs.Axes.{axis, present}
use Rattle.cube.specs.Cube.{NodeOf}
use Rattle.paths.specs.CubeNetwork.{is_link_of}
use Rattle.common.specs.Lists.{keep}
use Rattle.common.proofs.Tests.{both}
use Rattle.common.proofs.Lists.{keep_nil, keep_yes, keep_no}
use Rattle.paths.specs.Network.{Link, has_link}
use Rattle.table.specs.View.{set_at}
use Rattle.ownership.specs.History.{History, shape_on, enabled_on, with_blocked, with_fold, keeps_bit, without_entry}

-- which links, or receive channels, of a list are left where those that pass a test are kept, or one is dropped
pub kept_link : (f : ℕ → ℕ → Bool) (ls : List Link) (m q : ℕ) → has_link (keep (λ (l : Link). f l.0 l.1) ls) m q ≡ f m q && has_link ls m q
unfolding has_link
kept_link f [] m q = rw (keep_nil (λ (l : Link). f l.0 l.1)) (sym (and-false (f m q)))
kept_link f (l ∷ ls) m q = go (f l.0 l.1) refl (eqb m l.0 && eqb q l.1) refl (kept_link f ls m q)
  where
    g : Link → Bool
    g l = f l.0 l.1

    same : eqb m l.0 && eqb q l.1 ≡ true → f m q ≡ f l.0 l.1
    same e = let r = both (eqb m l.0) (eqb q l.1) e in λ i. f (eqb-true m l.0 r.0 i) (eqb-true q l.1 r.1 i)

    go : (a : Bool) → f l.0 l.1 ≡ a → (b : Bool) → (eqb m l.0 && eqb q l.1) ≡ b → has_link (keep g ls) m q ≡ f m q && has_link ls m q
        → has_link (keep g (l ∷ ls)) m q ≡ f m q && (b || has_link ls m q)
    go true e true u ih = rw (keep_yes g l ls e, u, same u, e)
    go true e false u ih = rw (keep_yes g l ls e, u) ih
    go false e true u ih = rw (keep_no g l ls e, same u, e) (rw (same u, e) at ih)
    go false e false u ih = rw (keep_no g l ls e) ih

pub dropped : (n p : ℕ) (ls : List Link) (m q : ℕ) → has_link (without_entry n p ls) m q ≡ not (eqb m n && eqb q p) && has_link ls m q
unfolding without_entry
dropped n p ls m q = kept_link (λ a b. not (eqb a n && eqb b p)) ls m q

-- History 5: which links are enabled after a block and after an unblock
pub block_enabled : (h : History) (n p m q : ℕ) → enabled_on (with_blocked h ((n, p) ∷ h.blocked)) m q ≡ set_at (enabled_on h) n p false m q
unfolding enabled_on set_at has_link
block_enabled h n p m q = go (eqb m n && eqb q p)
  where
    go : (b : Bool) → is_link_of (shape_on h) m q && not (b || has_link h.blocked m q) ≡ cond b false (is_link_of (shape_on h) m q && not (has_link h.blocked m q))
    go true = and-false (is_link_of (shape_on h) m q)
    go false = refl

pub unblock_enabled : (h : History) (n p : ℕ) → NodeOf h.dimension n → present h.dimension h.fold p ≡ true → (m q : ℕ)
    → enabled_on (with_blocked h (without_entry n p h.blocked)) m q ≡ set_at (enabled_on h) n p true m q
unfolding enabled_on set_at
unblock_enabled h n p i l m q = rw (dropped n p h.blocked m q) (go (eqb m n && eqb q p) refl)
  where
    go : (b : Bool) → (eqb m n && eqb q p) ≡ b → is_link_of (shape_on h) m q && not (not b && has_link h.blocked m q)
        ≡ cond b true (is_link_of (shape_on h) m q && not (has_link h.blocked m q))
    go true e =
        let r = both (eqb m n) (eqb q p) e in
        rw (eqb-true m n r.0, eqb-true q p r.1, lt-ltb n (2 ^ h.dimension) i, l)
    go false e = refl

-- Folding 5, Folding 6: which links are enabled once the mask is set
pub fold_enabled : (h : History) (mask n q : ℕ) → enabled_on (with_fold h mask) n q
    ≡ cond (eqb q (axis q)) (enabled_on h n q) (is_link_of (record { dimension = h.dimension; fold = mask }) n q && (enabled_on h n q || not (has h.fold (axis q))))
unfolding enabled_on with_fold present
fold_enabled h mask n q =
    rw (kept_link (λ m p. keeps_bit h.fold mask p) h.blocked n q)
    (go (eqb q (axis q)) (has h.fold (axis q)) (has mask (axis q)) (ltb n (2 ^ h.dimension)) (ltb q 18) (ltb (axis q) h.dimension) (has_link h.blocked n q))
  where
    -- of a port that is its own axis or not, whose bits in both masks are f and m, which is a link of the cube as far as i, l and d say, blocked or not
    go : (o f m i l d b : Bool) → (i && (l && (d && (o || m)))) && not ((o || beq f m) && b)
        ≡ cond o ((i && (l && (d && (o || f)))) && not b) ((i && (l && (d && (o || m)))) && (((i && (l && (d && (o || f)))) && not b) || not f))
    go true f m i l d b = refl
    go false f m false l d b = refl
    go false f m true false d b = refl
    go false f m true true false b = refl
    go false f false true true true b = refl
    go false true true true true true b = sym (or-false (not b))
    go false false true true true true b = refl
