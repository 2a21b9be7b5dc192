-- The same of the lists that fold every dimension and so reach the most scouts, dimension by dimension: the history after them, computed.
-- Assumes nothing.
use mathlib.Core.Path.{refl}
use mathlib.Core.List.{List, ◌∷◌, ◌++◌}
use Prim.Native.Nat.{ℕ, zero, suc, ◌+◌, ◌*◌, ◌≤◌}
use native.Mathlib.Omega.{arith}
use lib.Dec.{lit≤}
use lib.ListN.{get_or}
use Rattle.common.specs.Lists.{keep, from, any}
use Rattle.common.specs.Tests.{refusal}
use Rattle.cube.specs.Bits.{has, flip}
use Rattle.cube.specs.Cube.{largest_dimension, uphill}
use Rattle.cube.specs.Axes.{axis, present}
use Rattle.paths.specs.Network.{has_link}
use Rattle.ownership.specs.Calls.{Call, making, folding, call_tests, result_of, call_on}
use Rattle.ownership.specs.History.{belongs, holds_link, held_on, open_on, with_fold, facts_on, stopped_on, applied, history_step}
use Rattle.ownership.specs.Agrees.{after_calls, call_results}
use Rattle.most_scouts.specs.Unarrived.{unarrived_in, unarrived_from, single_axes, folded_axes, most_folded}
use Rattle.most_scouts.specs.Reaching.{block_all, block_partners, lowest_bits}
use Rattle.most_scouts.proofs.Made.{MadeBy}

abbrev pub made_folded : ℕ → List Call
made_folded D = making D ∷ folding (lowest_bits D) ∷ block_all (from 0 D) ++ block_partners (from 0 D)

abbrev pub MadeFolded : ℕ → Type 0
MadeFolded D = MadeBy (made_folded D) D (2 * D + 2) (get_or most_folded D 0)

folded_1 : MadeFolded 1
unfolding after_calls call_results history_step stopped_on call_tests refusal facts_on open_on held_on any belongs holds_link applied result_of call_on present axis keep from has flip has_link uphill unarrived_in unarrived_from single_axes folded_axes with_fold
folded_1 =
    record {
      ready = record { fits = lit≤ tt; source = lit≤ tt; target = lit≤ tt; idle = refl; blocked = refl; full = refl; passes = refl };
      results = refl;
      most = refl;
    }

folded_2 : MadeFolded 2
unfolding after_calls call_results history_step stopped_on call_tests refusal facts_on open_on held_on any belongs holds_link applied result_of call_on present axis keep from has flip has_link uphill unarrived_in unarrived_from single_axes folded_axes with_fold
folded_2 =
    record {
      ready = record { fits = lit≤ tt; source = lit≤ tt; target = lit≤ tt; idle = refl; blocked = refl; full = refl; passes = refl };
      results = refl;
      most = refl;
    }

folded_3 : MadeFolded 3
unfolding after_calls call_results history_step stopped_on call_tests refusal facts_on open_on held_on any belongs holds_link applied result_of call_on present axis keep from has flip has_link uphill unarrived_in unarrived_from single_axes folded_axes with_fold
folded_3 =
    record {
      ready = record { fits = lit≤ tt; source = lit≤ tt; target = lit≤ tt; idle = refl; blocked = refl; full = refl; passes = refl };
      results = refl;
      most = refl;
    }

folded_4 : MadeFolded 4
unfolding after_calls call_results history_step stopped_on call_tests refusal facts_on open_on held_on any belongs holds_link applied result_of call_on present axis keep from has flip has_link uphill unarrived_in unarrived_from single_axes folded_axes with_fold
folded_4 =
    record {
      ready = record { fits = lit≤ tt; source = lit≤ tt; target = lit≤ tt; idle = refl; blocked = refl; full = refl; passes = refl };
      results = refl;
      most = refl;
    }

folded_5 : MadeFolded 5
unfolding after_calls call_results history_step stopped_on call_tests refusal facts_on open_on held_on any belongs holds_link applied result_of call_on present axis keep from has flip has_link uphill unarrived_in unarrived_from single_axes folded_axes with_fold
folded_5 =
    record {
      ready = record { fits = lit≤ tt; source = lit≤ tt; target = lit≤ tt; idle = refl; blocked = refl; full = refl; passes = refl };
      results = refl;
      most = refl;
    }

folded_6 : MadeFolded 6
unfolding after_calls call_results history_step stopped_on call_tests refusal facts_on open_on held_on any belongs holds_link applied result_of call_on present axis keep from has flip has_link uphill unarrived_in unarrived_from single_axes folded_axes with_fold
folded_6 =
    record {
      ready = record { fits = lit≤ tt; source = lit≤ tt; target = lit≤ tt; idle = refl; blocked = refl; full = refl; passes = refl };
      results = refl;
      most = refl;
    }

folded_7 : MadeFolded 7
unfolding after_calls call_results history_step stopped_on call_tests refusal facts_on open_on held_on any belongs holds_link applied result_of call_on present axis keep from has flip has_link uphill unarrived_in unarrived_from single_axes folded_axes with_fold
folded_7 =
    record {
      ready = record { fits = lit≤ tt; source = lit≤ tt; target = lit≤ tt; idle = refl; blocked = refl; full = refl; passes = refl };
      results = refl;
      most = refl;
    }

folded_8 : MadeFolded 8
unfolding after_calls call_results history_step stopped_on call_tests refusal facts_on open_on held_on any belongs holds_link applied result_of call_on present axis keep from has flip has_link uphill unarrived_in unarrived_from single_axes folded_axes with_fold
folded_8 =
    record {
      ready = record { fits = lit≤ tt; source = lit≤ tt; target = lit≤ tt; idle = refl; blocked = refl; full = refl; passes = refl };
      results = refl;
      most = refl;
    }

pub folded_all : (D : ℕ) → 1 ≤ D → D ≤ largest_dimension → MadeFolded D
folded_all zero l h = absurd (omega arith)
folded_all (suc zero) l h = folded_1
folded_all (suc (suc zero)) l h = folded_2
folded_all (suc (suc (suc zero))) l h = folded_3
folded_all (suc (suc (suc (suc zero)))) l h = folded_4
folded_all (suc (suc (suc (suc (suc zero))))) l h = folded_5
folded_all (suc (suc (suc (suc (suc (suc zero)))))) l h = folded_6
folded_all (suc (suc (suc (suc (suc (suc (suc zero))))))) l h = folded_7
folded_all (suc (suc (suc (suc (suc (suc (suc (suc zero)))))))) l h = folded_8
folded_all (suc (suc (suc (suc (suc (suc (suc (suc (suc k))))))))) l h = absurd (omega arith)
