-- The calls before the last open of the lists that reach the most scouts, dimension by dimension: the history after them, computed.
-- Assumes nothing.
use mathlib.Core.Path.{◌≡◌, refl}
use mathlib.Core.List.{List, ◌∷◌}
use Prim.Native.Nat.{ℕ, zero, suc, ◌+◌, ◌-◌, ◌≤◌}
use native.Mathlib.Omega.{arith}
use lib.Dec.{lit≤}
use lib.ListN.{get_or}
use Rattle.std.specs.Prelude.{replicate}
use Rattle.common.specs.Lists.{keep, from, any}
use Rattle.common.specs.Tests.{refusal}
use Rattle.cube.specs.Bits.{has, flip}
use Rattle.cube.specs.Cube.{largest_dimension, uphill}
use Rattle.cube.specs.Axes.{axis, present}
use Rattle.paths.specs.Network.{has_link}
use Rattle.ownership.specs.Calls.{Call, making, only, call_tests, result_of, call_on}
use Rattle.ownership.specs.History.{History, new_history, shape_on, belongs, holds_link, held_on, open_on, facts_on, stopped_on, applied, history_step}
use Rattle.ownership.specs.Agrees.{after_calls, call_results, history_after, history_results}
use Rattle.most_scouts.specs.Unarrived.{unarrived_in, unarrived_from, single_axes, folded_axes, most_sent, most_unfolded}
use Rattle.most_scouts.specs.Reaching.{block_all, lowest_bits}
use Rattle.most_scouts.proofs.Reached.{Ready}

-- the history before the making does not matter
abbrev pub before : History
before = new_history 0

-- What is computed of a list of n calls in dimension D: they are all accepted, and the open behind them would send m scouts.
pub record MadeBy (calls : List Call) (D n m : ℕ) : Type 0 where
  pub ready : Ready (history_after before calls) (lowest_bits (D - 1)) (lowest_bits D)
  pub results : history_results before calls ≡ replicate n (only 0)
  pub most : most_sent (shape_on (history_after before calls)) (lowest_bits (D - 1)) 0 ≡ m

abbrev pub made : ℕ → List Call
made D = making D ∷ block_all (from 0 D)

abbrev pub Made : ℕ → Type 0
Made D = MadeBy (made D) D (D + 1) (get_or most_unfolded D 0)

made_1 : Made 1
unfolding after_calls call_results history_step stopped_on call_tests refusal facts_on open_on held_on any belongs holds_link applied result_of call_on present axis keep from has flip has_link uphill unarrived_in unarrived_from single_axes folded_axes
made_1 =
    record {
      ready = record { fits = lit≤ tt; source = lit≤ tt; target = lit≤ tt; idle = refl; blocked = refl; full = refl; passes = refl };
      results = refl;
      most = refl;
    }

made_2 : Made 2
unfolding after_calls call_results history_step stopped_on call_tests refusal facts_on open_on held_on any belongs holds_link applied result_of call_on present axis keep from has flip has_link uphill unarrived_in unarrived_from single_axes folded_axes
made_2 =
    record {
      ready = record { fits = lit≤ tt; source = lit≤ tt; target = lit≤ tt; idle = refl; blocked = refl; full = refl; passes = refl };
      results = refl;
      most = refl;
    }

made_3 : Made 3
unfolding after_calls call_results history_step stopped_on call_tests refusal facts_on open_on held_on any belongs holds_link applied result_of call_on present axis keep from has flip has_link uphill unarrived_in unarrived_from single_axes folded_axes
made_3 =
    record {
      ready = record { fits = lit≤ tt; source = lit≤ tt; target = lit≤ tt; idle = refl; blocked = refl; full = refl; passes = refl };
      results = refl;
      most = refl;
    }

made_4 : Made 4
unfolding after_calls call_results history_step stopped_on call_tests refusal facts_on open_on held_on any belongs holds_link applied result_of call_on present axis keep from has flip has_link uphill unarrived_in unarrived_from single_axes folded_axes
made_4 =
    record {
      ready = record { fits = lit≤ tt; source = lit≤ tt; target = lit≤ tt; idle = refl; blocked = refl; full = refl; passes = refl };
      results = refl;
      most = refl;
    }

made_5 : Made 5
unfolding after_calls call_results history_step stopped_on call_tests refusal facts_on open_on held_on any belongs holds_link applied result_of call_on present axis keep from has flip has_link uphill unarrived_in unarrived_from single_axes folded_axes
made_5 =
    record {
      ready = record { fits = lit≤ tt; source = lit≤ tt; target = lit≤ tt; idle = refl; blocked = refl; full = refl; passes = refl };
      results = refl;
      most = refl;
    }

made_6 : Made 6
unfolding after_calls call_results history_step stopped_on call_tests refusal facts_on open_on held_on any belongs holds_link applied result_of call_on present axis keep from has flip has_link uphill unarrived_in unarrived_from single_axes folded_axes
made_6 =
    record {
      ready = record { fits = lit≤ tt; source = lit≤ tt; target = lit≤ tt; idle = refl; blocked = refl; full = refl; passes = refl };
      results = refl;
      most = refl;
    }

made_7 : Made 7
unfolding after_calls call_results history_step stopped_on call_tests refusal facts_on open_on held_on any belongs holds_link applied result_of call_on present axis keep from has flip has_link uphill unarrived_in unarrived_from single_axes folded_axes
made_7 =
    record {
      ready = record { fits = lit≤ tt; source = lit≤ tt; target = lit≤ tt; idle = refl; blocked = refl; full = refl; passes = refl };
      results = refl;
      most = refl;
    }

made_8 : Made 8
unfolding after_calls call_results history_step stopped_on call_tests refusal facts_on open_on held_on any belongs holds_link applied result_of call_on present axis keep from has flip has_link uphill unarrived_in unarrived_from single_axes folded_axes
made_8 =
    record {
      ready = record { fits = lit≤ tt; source = lit≤ tt; target = lit≤ tt; idle = refl; blocked = refl; full = refl; passes = refl };
      results = refl;
      most = refl;
    }

-- and so in each dimension
pub made_all : (D : ℕ) → 1 ≤ D → D ≤ largest_dimension → Made D
made_all zero l h = absurd (omega arith)
made_all (suc zero) l h = made_1
made_all (suc (suc zero)) l h = made_2
made_all (suc (suc (suc zero))) l h = made_3
made_all (suc (suc (suc (suc zero)))) l h = made_4
made_all (suc (suc (suc (suc (suc zero))))) l h = made_5
made_all (suc (suc (suc (suc (suc (suc zero)))))) l h = made_6
made_all (suc (suc (suc (suc (suc (suc (suc zero))))))) l h = made_7
made_all (suc (suc (suc (suc (suc (suc (suc (suc zero)))))))) l h = made_8
made_all (suc (suc (suc (suc (suc (suc (suc (suc (suc k))))))))) l h = absurd (omega arith)
