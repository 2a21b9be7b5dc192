-- Ports that are not free may be dropped from a vector before it is tried: the answer is the same, and there is room for the scouts of the rest.
-- Assumes nothing.
use mathlib.Core.Path.{◌≡◌, refl, ap, sym, ◌∙◌, fun_ext}
use mathlib.Core.Bool.{Bool, true, false, ◌&&◌, and-false, cond}
use mathlib.Core.List.Memᴰ
use mathlib.Core.List.{List, [], ◌∷◌}
use Prim.Native.Nat.{ℕ, ◌≤◌, ◌<◌, ◌+◌, ◌*◌, ◌^◌}
use lib.ListN.{length}
use lib.Bits.{bit_and, and_le_l}
use Rattle.common.specs.Lists.{◌∈◌, keep, from}
use Rattle.common.proofs.Lists.{keep_yes, keep_no, keep_keep, keep_same, length_keep}
use Rattle.common.proofs.Tests.{clash, is_false, both}
use Rattle.cube.specs.Bits.{has}
use Rattle.cube.specs.Helical.{helical, ports_of}
use Rattle.cube.proofs.Bits.{has_and}
use Rattle.cube.proofs.Order.{helical_keep, helical_mem, ports_mem, mem_ports}
use Rattle.paths.specs.Pass.{PassResult}
use Rattle.paths.specs.Send.{Receive}
use Rattle.paths.specs.Search.{trying}
use Rattle.paths.proofs.Depth.{trying_cons}
use Rattle.layout.specs.Resources.{LayoutLaws}
use Rattle.layout.specs.Layout.{mask_size}
use Rattle.entries.specs.EntryContracts.{enable_bits, InTable}
use Rattle.table.specs.View.{View, view, net}
use Rattle.answers.specs.SendOnTable.{free_in}
use Rattle.answers.specs.PassOnBytes.{answer_of_pass, arrival_after}
use Rattle.search.specs.SearchContracts.{Narrowed, Enabled, try_answer, farthest, farthest_after, MayTry}
use Rattle.answers.proofs.EnabledBits.{enabled_bits}
use Rattle.answers.proofs.PassOnBytes.{free_off}
use mathlib.Core.Logic.{⊎_elim}
use native.Mathlib.Omega.{arith}
use native.Mathlib.Nat.{le_trans, le_refl, mul-le-mul}
use lib.Dec.{leb}
use borrow.Author.Tests.{leb-true, leb-false}
use Rattle.cube.specs.Axes.{positions}
use Rattle.paths.specs.Network.{Network}
use Rattle.paths.specs.Bound.{ways_from}
use Rattle.paths.proofs.Bound.{ways_more}

-- trying the ports of a list that pass a test, where those that do not pass are not free
trying_kept : (f free : ℕ → Bool) (on : ℕ → ℕ → PassResult) (ps : List ℕ) → ((p : ℕ) → p ∈ ps → f p ≡ false → free p ≡ false) → (s : ℕ)
    → trying free on (keep f ps) s ≡ trying free on ps s
trying_kept f free on [] h s = unfold keep in refl
trying_kept f free on (p ∷ ps) h s = go (f p) refl (trying_kept f free on ps (λ q m. h q (Memᴰ.tail m)))
  where
    go : (x : Bool) → f p ≡ x → ((d : ℕ) → trying free on (keep f ps) d ≡ trying free on ps d) → trying free on (keep f (p ∷ ps)) s ≡ trying free on (p ∷ ps) s
    go true e ih = rw (keep_yes f p ps e, trying_cons free on p (keep f ps) s, trying_cons free on p ps s, fun_ext ih)
    go false e ih = rw (keep_no f p ps e, trying_cons free on p ps s, h p (Memᴰ.head refl) e) (ih s)

module _ {v : View} {n vector left : ℕ} (narrow : Narrowed v n vector left) where
  ports_kept : ports_of positions left ≡ keep (has left) (ports_of positions vector)
  unfolding ports_of
  ports_kept =
      keep_same (has left) (λ q. has vector q && has left q) (from 0 18) (λ q m. go q (has left q) refl) ∙ sym (keep_keep (has left) (has vector) (from 0 18))
    where
      go : (q : ℕ) (x : Bool) → has left q ≡ x → x ≡ (has vector q && x)
      go q true e = rw (narrow.among q e)
      go q false e = sym (and-false (has vector q))

  pub narrow_fewer : length (ports_of positions left) ≤ length (ports_of positions vector)
  narrow_fewer = rw ports_kept (length_keep (has left) (ports_of positions vector))

  pub narrow_mem : (p : ℕ) → p ∈ ports_of positions left → p ∈ ports_of positions vector
  narrow_mem p m = let r = ports_mem 18 left m in mem_ports 18 vector p r.0 (narrow.among p r.1)

-- the answer is that of the whole vector
pub narrow_tries : (b : List ℕ) (t c : ℕ) (r : Receive) (a h s : ℕ) {n vector left : ℕ} → Narrowed (view b) n vector left → try_answer b t c r n left a h s ≡ try_answer b t c r n vector a h s
unfolding try_answer
narrow_tries b t c r a h s {n} {vector} {left} narrow =
    let on : ℕ → ℕ → PassResult = arrival_after (net (view b)) (free_in (view b)) t n in
    ap (answer_of_pass b c n h r)
    (ap (λ ps. trying (free_in (view b) n) on (helical a ps) s) (ports_kept narrow)
    ∙ ap (λ ps. trying (free_in (view b) n) on ps s) (helical_keep a (has left) (ports_of positions vector))
    ∙ trying_kept (has left) (free_in (view b) n) on (helical a (ports_of positions vector))
    (λ p m e. let r = ports_mem 18 vector (helical_mem a (ports_of positions vector) m) in narrow.dropped p r.0 r.1 e) s)

-- the ports of a vector that are enabled at a node: x is the mask that the code found there
module _ {long q enable links receives arms : ℕ} (laws : LayoutLaws long q enable links receives arms) (b : List ℕ) (n vector x : ℕ) (within : InTable long q b n 0) (mask : x ≡ enable_bits b n) (small : x < 2 ^ (8 * mask_size q)) where
  read : (p : ℕ) → p < positions → (view b).enabled n p ≡ has x p
  read = enabled_bits laws b n x within.bytes within.node mask small

  in_both : (p : ℕ) → has (bit_and vector x) p ≡ true → (has vector p ≡ true) × (has x p ≡ true)
  in_both p e = both (has vector p) (has x p) (sym (has_and vector x p) ∙ e)

  pub enabled_narrow : Narrowed (view b) n vector (bit_and vector x)
  enabled_narrow =
      record {
        most = and_le_l vector x;
        among = λ p e. (in_both p e).0;
        dropped = λ p l e f. free_off (view b) n p (read p l ∙ is_false (has x p) (λ y. clash (has_and vector x p ∙ (rw (e, y))) f));
      }

  pub enabled_all : Enabled (view b) n (bit_and vector x)
  enabled_all p l e = read p l ∙ (in_both p e).1

-- neither of two numbers is above the larger
larger : (a b : ℕ) → (a ≤ cond (leb a b) b a) × (b ≤ cond (leb a b) b a)
larger a b = go (leb a b) refl
  where
    go : (x : Bool) → leb a b ≡ x → (a ≤ cond x b a) × (b ≤ cond x b a)
    go true e = (leb-true a b e, le_refl b)
    go false e = (le_refl a, omega (arith, leb-false a b e))

-- every node behind a port of the list is within the farthest
pub farthest_mem : (N : Network) (t n : ℕ) (ps : List ℕ) (p : ℕ) → p ∈ ps → N.distance t (N.next n p) ≤ farthest N t n ps
unfolding farthest
farthest_mem N t n [] p m = absurd (Memᴰ.not-nil m)
farthest_mem N t n (q ∷ ps) p m =
    let most = larger (farthest N t n ps) (N.distance t (N.next n q)) in
    ⊎_elim (λ e. rw e most.1) (λ k. le_trans (farthest_mem N t n ps p k) most.0) (Memᴰ.cases_cons m)

pub farthest_most : (N : Network) (t n m : ℕ) (ps : List ℕ) → ((p : ℕ) → p ∈ ps → N.distance t (N.next n p) ≤ m) → farthest N t n ps ≤ m
unfolding farthest
farthest_most N t n m [] h = omega arith
farthest_most N t n m (q ∷ ps) h = go (leb (farthest N t n ps) (N.distance t (N.next n q))) (farthest_most N t n m ps (λ p k. h p (Memᴰ.tail k)))
  where
    go : (x : Bool) → farthest N t n ps ≤ m → cond x (N.distance t (N.next n q)) (farthest N t n ps) ≤ m
    go true k = h q (Memᴰ.head refl)
    go false k = k

-- ports that are not free are dropped from a vector: there is room for the rest
pub narrow_reach : (b : List ℕ) (t : ℕ) {n v left : ℕ} → Narrowed (view b) n v left → farthest_after b t n left ≤ farthest_after b t n v
unfolding farthest_after
narrow_reach b t {n} {v} {left} narrow =
    farthest_most (net (view b)) t n (farthest (net (view b)) t n (ports_of positions v)) (ports_of positions left) (λ p m. farthest_mem (net (view b)) t n (ports_of positions v) p (narrow_mem narrow p m))

pub narrow_may : {long q w f : ℕ} {b : List ℕ} {t c n v left a h s : ℕ} → MayTry long q w f b t c n v a h s → Narrowed (view b) n v left → MayTry long q w f b t c n left a h s
narrow_may {b = b} {t = t} {c = c} {n = n} {v = v} {left = left} may narrow =
    let near = narrow_reach b t narrow in
    let ways = ways_more 2 (farthest_after b t n left) (farthest_after b t n v) near in
    let all : length (ports_of positions left) * (1 + ways_from 2 (farthest_after b t n left)) ≤ length (ports_of positions v) * (1 + ways_from 2 (farthest_after b t n v)) = mul-le-mul (narrow_fewer narrow) (let w = ways in omega arith) in
    record {
      here = may.here;
      vector_ports = record { below = (let l = narrow.most in omega (arith, may.vector_ports.below)); there = λ p e. may.vector_ports.there p (narrow.among p e) };
      hops = omega (arith, may.hops, near);
      room = omega (arith, may.room, all);
    }
