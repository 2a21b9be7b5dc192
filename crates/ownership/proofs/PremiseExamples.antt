-- Lists of calls that meet what theorems ask of them, one of each kind of call: if less were asked for there, these would stay, but if more were, one of them would fall.
-- Assumes nothing.
use mathlib.Core.Path.{◌≡◌, refl}
use mathlib.Core.Bool.{true, false}
use mathlib.Core.List.{[], ◌∷◌}
use Prim.Native.Nat.{ℕ, ◌<◌, ◌≤◌}
use native.Mathlib.Omega.{arith}
use borrow.Author.Tests.{lt-ltb}
use Rattle.std.proofs.Common.{lit≤}
use Rattle.common.specs.Lists.{keep, from}
use Rattle.cube.specs.Axes.{axis, present}
use Rattle.cube.specs.Bits.{has}
use Rattle.cube.specs.Cube.{port_count, channels, NodeOf}
use Rattle.layout.specs.Layout.{in_table}
use Rattle.paths.specs.CubeNetwork.{ports}
use Rattle.table.specs.View.{View, view}
use Rattle.table.specs.Encode.{ViewFits, encode}
use Rattle.table.proofs.Encoded.{view_encode}
use Rattle.ownership.specs.AllArmed.{FewLinks, CubeArmed}
use Rattle.ownership.specs.Calls.{blocking, unblocking, opening, closing, tracing, arming, disarming, opening_all, booking, judging}
use Rattle.ownership.specs.Closing.{Each, no_call, call_more, ClosesOrArms, closes, RepairsNothing, a_block, an_open, a_close, a_trace, an_arming, a_disarming, a_job, a_book, a_judging, GivesFreedom, frees, unblocks, arms}

-- "until a link is repaired": every call but an unblocking, a making and a setting of the fold mask
none_repairs : Each RepairsNothing
    (blocking 0 1 ∷ opening 0 2 3 4 5 ∷ closing 6 7 ∷ tracing 0 1 [] ∷ arming 2 3 ∷ disarming 4 5 ∷ opening_all [] ∷ booking [] [] ∷ judging [] [] 0 1 ∷ [])
none_repairs =
    call_more a_block (call_more an_open (call_more a_close (call_more a_trace (call_more an_arming (call_more a_disarming (call_more a_job (call_more a_book (call_more a_judging no_call))))))))

-- calls that close circuits and arm channels
each_closes_or_arms : Each ClosesOrArms (closing 0 1 ∷ arming 2 3 ∷ [])
each_closes_or_arms = call_more closes (call_more arms no_call)

-- and those that give freedom
each_gives_freedom : Each GivesFreedom (closing 0 1 ∷ unblocking 2 3 ∷ arming 4 5 ∷ [])
each_gives_freedom = call_more frees (call_more unblocks (call_more arms no_call))

-- All receive channels armed (Promises 8): of a cube of two nodes, into which one link leads.
abbrev all_armed : View
all_armed = record { dimension = 1; fold = 0; enabled = λ n p. false; owner = λ n p. 0; receiver = λ n k. 0; armed = λ n k. in_table channels n k }

all_armed_fits : ViewFits port_count all_armed
all_armed_fits =
    record {
      dimension = omega arith;
      fold = omega arith;
      unfolded = λ e. refl;
      enabled = λ n p out. refl;
      owner = record { small = λ n k. omega arith; outside = λ n k out. refl };
      receiver = record { small = λ n k. omega arith; outside = λ n k out. refl };
      armed = λ n k out. out;
    }

one_link : FewLinks all_armed
unfolding ports present axis keep from has
one_link inside = lit≤ tt

armed_there : (n : ℕ) → NodeOf all_armed.dimension n → (k : ℕ) → k < channels → all_armed.armed n k ≡ true
armed_there n node k below = rw (lt-ltb n 256 (omega (arith, node)), lt-ltb k channels below) refl

armed_cube : FewLinks (view (encode all_armed)) × CubeArmed (encode all_armed)
armed_cube = rw (view_encode all_armed all_armed_fits) (one_link, armed_there)
