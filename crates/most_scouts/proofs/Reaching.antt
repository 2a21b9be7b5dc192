-- The most scouts are reached, by lists of calls on any table.
-- Assumes nothing.
use mathlib.Core.Path.{◌≡◌, refl, ap, ap₂, ◌∙◌}
use mathlib.Core.Logic.{inr}
use mathlib.Core.List.{List, [], ◌∷◌, ◌++◌}
use Prim.Native.Nat.{ℕ, ◌-◌}
use Rattle.std.specs.Prelude.{replicate}
use Rattle.common.specs.Lists.{from}
use Rattle.layout.specs.Layout.{wide_ports}
use Rattle.ownership.specs.Calls.{Call, folding, OfKind, only, After}
use Rattle.ownership.specs.Closing.{Each, no_call, call_more}
use Rattle.ownership.specs.Agrees.{after_calls, call_results, history_after, history_results}
use Rattle.ownership.proofs.Agreement.{making_accepted, demand_3}
use Rattle.most_scouts.specs.Reaching.{block_all, block_partners, last_open, lowest_bits, rejected_after}
use Rattle.most_scouts.specs.Promises.{MostReached, MostFoldedReached}
use Rattle.most_scouts.proofs.Reached.{ready_gives}
use Rattle.most_scouts.proofs.Made.{before, MadeBy, made, made_all}
use Rattle.most_scouts.proofs.MadeFolded.{made_folded, folded_all}

-- one call more gives one result more
one_result : {C S : Type 0} (makes : S → C → After S) (s : S) (calls : List C) (a : C)
    → call_results makes s (calls ++ a ∷ []) ≡ call_results makes s calls ++ (makes (after_calls makes s calls) a).result ∷ []
unfolding call_results after_calls
one_result makes s [] a = refl
one_result makes s (x ∷ xs) a = ap ((makes s x).result ∷◌) (one_result makes (makes s x).state xs a)

-- so what the calls give, and then the open
module _ (calls : List Call) (D n m : ℕ) (h : MadeBy calls D n m) where
  gives : history_results before (calls ++ last_open D ∷ []) ≡ replicate n (only 0) ++ rejected_after m ∷ []
  gives =
      one_result _ before calls (last_open D)
      ∙ ap₂ (λ xs x. xs ++ x ∷ []) h.results (ready_gives (history_after before calls) (lowest_bits (D - 1)) (lowest_bits D) h.ready ∙ ap rejected_after h.most)

each_append : {P : Call → Type 0} {xs ys : List Call} → Each P xs → Each P ys → Each P (xs ++ ys)
each_append no_call k = k
each_append (call_more a h) k = call_more a (each_append h k)

-- the calls are made on either kind of table, but for a setting of the fold mask
module _ (q : ℕ) where
  blocks_each : (ps : List ℕ) → Each (OfKind q) (block_all ps)
  blocks_each [] = no_call
  blocks_each (p ∷ ps) = call_more tt (blocks_each ps)

  partners_each : (ps : List ℕ) → Each (OfKind q) (block_partners ps)
  partners_each [] = no_call
  partners_each (p ∷ ps) = call_more tt (partners_each ps)

  open_each : (D : ℕ) → Each (OfKind q) (last_open D ∷ [])
  open_each D = call_more tt no_call

pub most_reached : MostReached
most_reached q width b long D l h =
    (demand_3 q width b before D (making_accepted q b D long l h) (block_all (from 0 D) ++ last_open D ∷ []) (each_append (blocks_each q (from 0 D)) (open_each q D))).results
    ∙ gives (made D) D _ _ (made_all D l h)

pub most_folded_reached : MostFoldedReached
most_folded_reached b long D l h =
    (demand_3 wide_ports (inr refl) b before D (making_accepted wide_ports b D long l h) (folding (lowest_bits D) ∷ block_all (from 0 D) ++ block_partners (from 0 D) ++ last_open D ∷ [])
    (each_append (call_more refl (each_append (blocks_each wide_ports (from 0 D)) (partners_each wide_ports (from 0 D)))) (open_each wide_ports D))).results
    ∙ gives (made_folded D) D _ _ (folded_all D l h)
