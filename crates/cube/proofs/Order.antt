-- The helical order: what it holds, and the port tried first of it, by the rule and by the table.
-- Assumes nothing.
use mathlib.Core.Path.{◌≡◌, refl, ap, sym, ◌∙◌}
use mathlib.Core.Logic.{⊎_elim, ◌≢◌}
use mathlib.Core.Bool.{Bool, true, false, not, ◌&&◌}
use mathlib.Core.List.Memᴰ
use mathlib.Core.List.{List, [], ◌∷◌}
use Prim.Native.Nat.{ℕ, ◌+◌, ◌-◌, ◌*◌, ◌/◌, ◌%◌, ◌^◌, ◌≤◌, ◌<◌}
use native.Mathlib.Omega.{arith}
use lib.Dec.{eqb, leb, ltb}
use lib.ListN.{length, get_or, length-append}
use lib.Pow.{pow_mono}
use native.Mathlib.Nat.{lt_of_lt_of_le}
use borrow.Author.Tests.{ltb-true, ltb-false, lt-leb, le-leb, le-ltb, leb-true, lt-ltb, ne_eqb, eq-eqb}
use Rattle.common.specs.Lists.{◌∈◌, keep, from, Pairwise}
use Rattle.common.proofs.Tests.{below_or, clash}
use Rattle.common.proofs.Lists.{all_append, keep_no, keep_mem, mem_keep, keep_append, keep_all, keep_keep, keep_same, keep_swap, keep_pairwise, pairwise_append, pairwise_kept, length_parts, length_keep, keep_none}
use Rattle.common.proofs.From.{length_from, keep_wider, from_pairwise, kept_below, below_kept}
use Rattle.common.proofs.Every.{every_entry, table_rule}
use Rattle.cube.specs.Bits.{has}
use Rattle.cube.specs.CubeContracts.{Without, FirstTried}
use Rattle.cube.specs.Cube.{largest_dimension, port_count, VectorOf}
use Rattle.cube.specs.Helical.{ports_of, helical, first_or, first_port, FirstPorts}
use Rattle.cube.proofs.Bits.{no_ports, zero_has, high_has}
use Rattle.cube.proofs.Ports.{without_power}

-- the helical order has the same members: what stands in it is one of the ports, and each port, past the arrival port or up to it, stands in it
pub helical_mem : (a : ℕ) (ps : List ℕ) {q : ℕ} → q ∈ helical a ps → q ∈ ps
unfolding helical
helical_mem a ps {q} = all_append (◌∈ ps) (keep (λ p. ltb a p) ps) (λ p m. (keep_mem _ ps m).0) (λ p m. (keep_mem _ ps m).0) q

pub mem_helical : (a : ℕ) (ps : List ℕ) {q : ℕ} → q ∈ ps → q ∈ helical a ps
unfolding helical
mem_helical a ps {q} m =
    ⊎_elim (λ past. Memᴰ.append_left _ (mem_keep _ ps m (lt-ltb a q past))) (λ up_to. Memᴰ.append_right (keep (λ p. ltb a p) ps) (mem_keep _ ps m (le-leb q a up_to))) (below_or q a)

-- a test may be made before or after
pub helical_keep : (a : ℕ) (f : ℕ → Bool) (ps : List ℕ) → helical a (keep f ps) ≡ keep f (helical a ps)
unfolding helical
helical_keep a f ps =
    rw (keep_append f (keep (λ p. ltb a p) ps) (keep (λ p. leb p a) ps), keep_swap f (λ p. ltb a p) ps, keep_swap f (λ p. leb p a) ps)

-- after an arrival on the last port or above, ports are tried as they stand: Order 2, Order 7
pub helical_last : (a : ℕ) (ps : List ℕ) → ((p : ℕ) → p ∈ ps → p ≤ a) → helical a ps ≡ ps
unfolding helical
helical_last a ps h =
    rw (keep_none (λ p. ltb a p) ps (λ p m. le-ltb a p (h p m)), keep_all (λ p. leb p a) ps (λ p m. le-leb p a (h p m)))

-- no port stands in it twice
pub helical_distinct : (a : ℕ) (ps : List ℕ) → Pairwise ◌<◌ ps → Pairwise ◌≢◌ (helical a ps)
unfolding helical
helical_distinct a ps s =
    pairwise_append (keep (λ p. ltb a p) ps) (keep (λ p. leb p a) ps) (apart (λ p. ltb a p)) (apart (λ p. leb p a))
    (λ p q m k e. omega (arith, ltb-true a p (keep_mem _ ps m).1, leb-true q a (keep_mem _ ps k).1))
  where
    apart : (f : ℕ → Bool) → Pairwise ◌≢◌ (keep f ps)
    apart f = pairwise_kept f ◌<◌ ◌≢◌ ps (λ p q i j l e. omega arith) s

-- the ports of a vector: those below w that it has, rising
pub ports_mem : (w v : ℕ) {q : ℕ} → q ∈ ports_of w v → (q < w) × (has v q ≡ true)
unfolding ports_of
ports_mem w v m = kept_below (has v) w _ m

pub mem_ports : (w v q : ℕ) → q < w → has v q ≡ true → q ∈ ports_of w v
unfolding ports_of
mem_ports w v = below_kept (has v) w

pub ports_pairwise : (w v : ℕ) → Pairwise ◌<◌ (ports_of w v)
unfolding ports_of
ports_pairwise w v = keep_pairwise (has v) ◌<◌ (from 0 w) (from_pairwise 0 w)

-- positions above the last port that a vector has add nothing
pub ports_wider : (D w v : ℕ) → D ≤ w → VectorOf D v → ports_of w v ≡ ports_of D v
unfolding ports_of
ports_wider D w v h l = keep_wider (has v) 0 D w h (λ p k. high_has D v p l (omega arith))

-- the vector without a port has the other ports
pub ports_without : (w v p r : ℕ) → Without v p r → ports_of w r ≡ keep (λ q. not (eqb q p)) (ports_of w v)
unfolding ports_of
ports_without w v p r h =
    keep_same (has r) (λ q. has v q && not (eqb q p)) (from 0 w) (λ q m. h.bits q) ∙ sym (keep_keep (λ q. not (eqb q p)) (has v) (from 0 w))

-- what is left of the order behind its first port is the order of the vector without that port
pub after_first : (w v a p r : ℕ) (ps : List ℕ) → Without v p r → helical a (ports_of w v) ≡ p ∷ ps → helical a (ports_of w r) ≡ ps
unfolding Pairwise
after_first w v a p r ps h e =
    let other : ℕ → ℕ → Bool = λ p q. not (eqb q p) in
    let apart : Pairwise ◌≢◌ (p ∷ ps) = rw e at (helical_distinct a (ports_of w v) (ports_pairwise w v)) in
    rw (ports_without w v p r h, helical_keep a (other p) (ports_of w v), e, keep_no (other p) p ps (ap not (eq-eqb p p refl)))
    (keep_all (other p) ps (λ q m. ap not (ne_eqb q p (λ i. apart.0 q m (sym i)))))

-- vector zero offers none, and any other offers one
pub helical_zero : (w a : ℕ) → helical a (ports_of w 0) ≡ []
unfolding helical keep ports_of
helical_zero w a = rw (keep_none (has 0) (from 0 w) (λ p m. zero_has p))

no_first : (w v a : ℕ) → v < 2 ^ w → helical a (ports_of w v) ≡ [] → v ≡ 0
no_first w v a h e = no_ports w v h (λ p l. go p l (has v p) refl)
  where
    go : (p : ℕ) → p < w → (b : Bool) → has v p ≡ b → b ≡ false
    go p l true i = absurd (Memᴰ.not-nil (rw e at (mem_helical a (ports_of w v) (mem_ports w v p l i))))
    go p l false i = refl

pub first_tried : (none w v a : ℕ) → v < 2 ^ w → v ≢ 0 → FirstTried w v a (first_or none (helical a (ports_of w v)))
unfolding first_or
first_tried none w v a h z = go (helical a (ports_of w v)) refl
  where
    go : (ps : List ℕ) → helical a (ports_of w v) ≡ ps → FirstTried w v a (first_or none ps)
    go [] e = absurd (z (no_first w v a h e))
    go (p ∷ ps) e =
        let h₀ : p ∈ helical a (ports_of w v) = rw e (Memᴰ.head refl) in
        let m = ports_mem w v (helical_mem a (ports_of w v) h₀) in
        record { small = m.0; offered = m.1; rest = e ∙ ap (p ∷◌) (sym (after_first w v a p (v - 2 ^ p) ps (without_power v p m.1) e)) }

-- the order is as long as the list
pub length_helical : (a : ℕ) (ps : List ℕ) → length (helical a ps) ≡ length ps
unfolding helical
length_helical a ps =
    rw (length-append (keep (λ p. ltb a p) ps) (keep (λ p. leb p a) ps), keep_same (λ p. leb p a) (λ p. not (ltb a p)) ps (λ p m. other p (ltb a p) refl))
    (length_parts (λ p. ltb a p) ps)
  where
    other : (p : ℕ) (b : Bool) → ltb a p ≡ b → leb p a ≡ not b
    other p true e = lt-leb p a (ltb-true a p e)
    other p false e = le-leb p a (ltb-false a p e)

pub length_ports : (w v : ℕ) → length (ports_of w v) ≤ w
unfolding ports_of
length_ports w v = omega (arith, length_keep (has v) (from 0 w), length_from 0 w)

-- The table of first ports: its rule by one computed test, read off at a vector and an arrival port.
pub table_of : (xs : List ℕ) → length xs ≡ 2048 → every_entry (λ k x. eqb x (first_port (k / 8) (k % 8))) 0 xs ≡ true → FirstPorts xs
table_of xs l t = record { entries = l; entry = λ v a h k. at v a h k }
  where
    at : (v a : ℕ) → v < 256 → a < port_count → get_or xs (8 * v + a) 0 ≡ first_port v a
    at v a h k =
        let i : ℕ = 8 * v + a in
        let row : i / 8 ≡ v = omega arith in
        let place : i % 8 ≡ a = omega arith in
        table_rule (λ k. first_port (k / 8) (k % 8)) 2048 xs l t i (omega arith) ∙ rw (row, place)

-- a vector, or a node, of a cube of dimension 8 or less is below 256
pub byte_vector : {D x : ℕ} → D ≤ largest_dimension → VectorOf D x → x < 256
byte_vector h l = lt_of_lt_of_le l (pow_mono h)

pub low_port : (D v p : ℕ) → VectorOf D v → has v p ≡ true → p < D
low_port D v p l e = go (ltb p D) refl
  where
    go : (x : Bool) → ltb p D ≡ x → p < D
    go true f = ltb-true p D f
    go false f = absurd (clash e (high_has D v p l (ltb-false p D f)))
