-- What is held, where the rest was counted.
-- Assumes nothing.
use mathlib.Core.Path.{◌≡◌, ap, ◌∙◌}
use mathlib.Core.Bool.{not}
use Prim.Native.Nat.{ℕ, ◌+◌, ◌*◌, ◌/◌, ◌%◌}
use native.Mathlib.Omega.{arith}
use lib.Dec.{eqb}
use lib.ListN.{length}
use Rattle.common.specs.Lists.{keep, from}
use Rattle.common.proofs.Lists.{keep_nil, length_parts}
use Rattle.common.proofs.From.{length_from, count_none}
use Rattle.layout.specs.Layout.{entry_count}
use Rattle.layout.specs.Resources.{Width}
use Rattle.layout.proofs.Entries.{by_width}
use Rattle.table.specs.TableContracts.{place_count}
use Rattle.table_book.specs.Writing.{held_count}

module _ (q : ℕ) (owner : ℕ → ℕ → ℕ) where
  -- none before the first place
  none_before : place_count q (λ n k. eqb (owner n k) 0) 0 ≡ 0
  unfolding place_count from
  none_before = ap length (keep_nil (λ l. eqb (owner (l / q) (l % q)) 0))

  all_parts : place_count q (λ n k. eqb (owner n k) 0) (entry_count q) + held_count q owner ≡ entry_count q
  unfolding place_count held_count
  all_parts = length_parts (λ l. eqb (owner (l / q) (l % q)) 0) (from 0 (entry_count q)) ∙ length_from 0 (entry_count q)

  pub held_rest : Width q → (unheld : ℕ) → place_count q (λ n k. eqb (owner n k) 0) (q * 0) + unheld ≡ place_count q (λ n k. eqb (owner n k) 0) (q * (0 + 256)) → held_count q owner + unheld ≡ entry_count q
  held_rest width unheld counted =
      let first : q * 0 ≡ 0 = omega arith in
      let last : q * (0 + 256) ≡ entry_count q = by_width (λ q. q * (0 + 256) ≡ entry_count q) q width (omega arith) (omega arith) in
      let sum = ap (λ i. place_count q (λ n k. eqb (owner n k) 0) i) first ∙ none_before in
      omega (arith, all_parts, counted, sum, ap (λ i. place_count q (λ n k. eqb (owner n k) 0) i) last)
