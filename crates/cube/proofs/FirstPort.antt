-- The port tried first, as the code finds it: the lowest above the arrival port, or else the lowest, is the first of the helical order, at every width.
-- Assumes nothing.
use mathlib.Core.Path.{◌≡◌, refl, ap, sym, ◌∙◌}
use mathlib.Core.Logic.{◌≢◌, ⊎_elim}
use mathlib.Core.Bool.{true}
use mathlib.Core.List.Memᴰ
use mathlib.Core.List.{List, [], ◌∷◌, ◌++◌, append-nil}
use Prim.Native.Nat.{ℕ, ◌+◌, ◌/◌, ◌^◌, ◌≤◌, ◌<◌}
use native.Mathlib.Omega.{arith}
use lib.Count.{count_trailing_zeros}
use lib.Dec.{ltb, leb}
use borrow.Author.Tests.{lt-ltb, ltb-true}
use Rattle.common.specs.Lists.{◌∈◌, keep, Pairwise}
use Rattle.common.specs.FirstAfter.{FirstAfter, above, round}
use Rattle.common.proofs.Lists.{keep_mem, mem_keep, keep_pairwise}
use Rattle.common.proofs.LowestBit.{found_above, found_round}
use Rattle.common.proofs.Tests.{below_or, clash}
use Rattle.cube.specs.Bits.{bit_at, has}
use Rattle.cube.specs.Helical.{ports_of, helical, first_or, first_port, FirstPorts}
use Rattle.cube.specs.declared.first_port_table.TheConstants.{FIRST_PORTS}
use Rattle.cube.specs.CubeContracts.{FirstTried, FirstByRule}
use Rattle.cube.proofs.Bits.{high_has}
use Rattle.cube.proofs.Order.{ports_mem, mem_ports, ports_pairwise, helical_last, first_tried, ports_wider, table_of}

-- the first of a rising list is its least member, also with a list behind it
first_least : (p : ℕ) (xs ys : List ℕ) → Pairwise ◌<◌ xs → p ∈ xs → ((j : ℕ) → j ∈ xs → p ≤ j) → first_or 0 (xs ++ ys) ≡ p
unfolding first_or Pairwise
first_least p [] ys s m h = absurd (Memᴰ.not-nil m)
first_least p (x ∷ xs) ys s m h = ⊎_elim (λ e. sym e) (λ k. let over = s.0 p k in let least = h x (Memᴰ.head refl) in omega arith) (Memᴰ.cases_cons m)

module _ (w v a p : ℕ) (inside : v < 2 ^ w) (on : has v p ≡ true) where
  tried : first_or 0 (helical a (ports_of w v)) ≡ p → v ≢ 0 → FirstTried w v a p
  tried e z = rw (← e) (first_tried 0 w v a inside z)

  member : p ∈ ports_of w v
  member = mem_ports w v p (⊎_elim (λ h. h) (λ h. absurd (clash on (high_has w v p inside h))) (below_or w p)) on

  -- a port above the arrival port, and none between
  first_above : a < p → ((j : ℕ) → a < j → has v j ≡ true → p ≤ j) → first_or 0 (helical a (ports_of w v)) ≡ p
  unfolding helical
  first_above g least =
      first_least p (keep (λ j. ltb a j) (ports_of w v)) (keep (λ j. leb j a) (ports_of w v)) (keep_pairwise _ ◌<◌ (ports_of w v) (ports_pairwise w v)) (mem_keep _ _ member (lt-ltb a p g))
      (λ j m. let r = keep_mem (λ j. ltb a j) (ports_of w v) m in least j (ltb-true a j r.1) (ports_mem w v r.0).1)

  -- no port above it: the lowest of all
  first_round : ((j : ℕ) → has v j ≡ true → j ≤ a) → ((j : ℕ) → has v j ≡ true → p ≤ j) → first_or 0 (helical a (ports_of w v)) ≡ p
  first_round none least =
      rw (helical_last a (ports_of w v) (λ j m. none j (ports_mem w v m).1))
      (sym (ap (first_or 0) (append-nil (ports_of w v))) ∙ first_least p (ports_of w v) [] (ports_pairwise w v) member (λ j m. least j (ports_mem w v m).1))

-- The first port after the arrival port is the one by rule.
pub by_rule : (v a p : ℕ) → v ≢ 0 → FirstAfter v a p → FirstByRule v a p
unfolding has bit_at
by_rule v a p some (above on past least) = record { tried = λ w h. tried w v a p h on (first_above w v a p h on past least) some }
by_rule v a p some (round on low least) = record { tried = λ w h. tried w v a p h on (first_round w v a p h on low least) some }

-- As it is counted in 32 bits without the table.
module _ (v a : ℕ) (room : v < 2 ^ 32) (some : v ≢ 0) where
  pub rule_above : v / 2 ^ (a + 1) ≢ 0 → FirstByRule v a (count_trailing_zeros 32 (v / 2 ^ (a + 1)) + (a + 1))
  rule_above z = by_rule v a _ some (found_above 32 v a room z)

  pub rule_round : v / 2 ^ (a + 1) ≡ 0 → FirstByRule v a (count_trailing_zeros 32 v)
  rule_round z = by_rule v a _ some (found_round 32 v a room some z)

-- So is the entry of the table of first ports, whose vectors have 8 positions, at every width: no vector of its has more.
same_ports : (w v : ℕ) → v < 2 ^ w → v < 256 → ports_of w v ≡ ports_of 8 v
same_ports w v h l = ⊎_elim (λ k. sym (ports_wider w 8 v (omega (arith, k)) h)) (λ k. ports_wider 8 w v k l) (below_or 8 w)

pub rule_table : (v a p : ℕ) → v < 256 → v ≢ 0 → p ≡ first_port v a → FirstByRule v a p
unfolding first_port
rule_table v a p l some e = record { tried = λ w h. rw (e, ← same_ports w v h l) (first_tried 8 w v a h some) }

-- the constant table's entries follow the rule: one computed test
pub first_ports : FirstPorts FIRST_PORTS
unfolding first_port
first_ports = table_of FIRST_PORTS refl refl
