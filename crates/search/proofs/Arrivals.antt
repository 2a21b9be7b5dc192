-- An arrival at a node: the answer at the target, and elsewhere what it asks of the trying of the uphill ports.
-- Assumes nothing.
use mathlib.Core.Path.{◌≡◌, refl, ap, sym, ◌∙◌}
use mathlib.Core.Logic.{◌≢◌}
use mathlib.Core.List.{List, []}
use Prim.Native.Nat.{ℕ, zero, suc, ◌+◌, ◌*◌, ◌^◌, ◌≤◌, ◌<◌}
use native.Mathlib.Omega.{arith}
use native.Mathlib.Nat.{mul-le-mul}
use lib.ListN.{length}
use Rattle.std.specs.Prelude.{Option, Some, None}
use Rattle.common.specs.Lists.{◌∈◌}
use Rattle.cube.specs.Axes.{positions}
use Rattle.cube.specs.CubeContracts.{UphillVector, WithPartners}
use Rattle.cube.specs.Cube.{NodeOf}
use Rattle.cube.proofs.Order.{byte_vector}
use lib.Bits.{xor_lt}
use Rattle.cube.specs.Helical.{helical, ports_of}
use Rattle.paths.specs.Network.{offered}
use Rattle.paths.specs.CubeNetwork.{network}
use Rattle.paths.specs.Search.{trying}
use Rattle.paths.specs.Pass.{found}
use Rattle.paths.specs.Send.{Receive}
use Rattle.paths.proofs.CubeNetwork.{cube_nearing, cube_cubical, cube_leading}
use Rattle.paths.proofs.FoldedCube.{two_links, partners_offered, partners_there}
use Rattle.paths.specs.Bound.{ways_from}
use Rattle.paths.proofs.Bound.{ways_more}
use Rattle.table.specs.View.{view, net, shape_of}
use Rattle.answers.specs.SendOnTable.{free_in, answer_on_bytes}
use Rattle.answers.specs.PassOnBytes.{answer_of_pass, arrival_after, hops_left, hold_path}
use Rattle.paths.specs.BoardPorts.{BoardPorts}
use Rattle.search.specs.SearchContracts.{farthest_after, search_answer, receive_as, try_answer, arrive_answer, Narrowed, MayTry, MayArrive}
use Rattle.answers.proofs.PassOnBytes.{at_target, arrives}
use Rattle.search.proofs.Narrow.{farthest_most, narrow_reach, narrow_may, narrow_tries}

-- the ports of a node that is k hops away, each with the ways on from one hop nearer
one_further : (m j k : ℕ) → suc j ≤ k → m ≤ 2 * k → m * (1 + ways_from 2 j) ≤ ways_from 2 k
unfolding ways_from
one_further m j zero h l = absurd (omega arith)
one_further m j (suc k) h l = mul-le-mul l (let r = ways_more 2 j k (omega arith) in omega arith)

-- a free path that ends where it begins
at_goal : (b : List ℕ) (c n h s : ℕ) (k : Option ℕ) → search_answer (Some h) k s b ≡ answer_of_pass b c n h (receive_as k) (found [] s)
unfolding answer_of_pass hold_path
at_goal b c n h s None = refl
at_goal b c n h s (Some k) = let e : h ≡ h + 0 = omega arith in ap (λ x. answer_on_bytes 0 x k s b) e

-- An arrival.
module _ {long q w f : ℕ} {b : List ℕ} {t c n a h s : ℕ} (may : MayArrive long q w f b t c n a h s) where
  pub arrive_here : (k : Option ℕ) → n ≡ t → search_answer (Some h) k s b ≡ arrive_answer b t c (receive_as k) n a h s
  unfolding arrive_answer
  arrive_here k e = at_goal b c n h s k ∙ ap (answer_of_pass b c n h (receive_as k)) (sym (at_target (net (view b)) (free_in (view b)) t n a s (hops_left b t n) e))

  pub arrive_byte : {u x : ℕ} → UphillVector n t u → x ≡ u → x < 256
  arrive_byte uphill same = rw (same, uphill.value) (byte_vector may.here.fits (xor_lt _ n t may.here.node may.here.target))

  module _ (away : n ≢ t) {u x v : ℕ} (uphill : UphillVector n t u) (same : x ≡ u) (wide : WithPartners f x v × (v < 2 ^ w)) where
    offers : offered (net (view b)) t n ≡ ports_of positions v
    unfolding view
    offers = partners_offered (shape_of (view b)) may.here.fits n t v may.here.node may.here.target (rw (← uphill.value, ← same, ← may.here.board.folded) wide.0)

    arrive_ports : BoardPorts w (shape_of (view b)) v
    unfolding view
    arrive_ports =
        record {
          below = wide.1;
          there = partners_there (shape_of (view b)) may.here.fits n t v may.here.node may.here.target (rw (← uphill.value, ← same, ← may.here.board.folded) wide.0);
        }

    all_tried : (r : Receive) → try_answer b t c r n v a h s ≡ arrive_answer b t c r n a h s
    unfolding try_answer arrive_answer hops_left
    all_tried r =
        ap (answer_of_pass b c n h r)
        (ap (λ ps. trying (free_in (view b) n) (arrival_after (net (view b)) (free_in (view b)) t n) (helical a ps) s) (sym offers) ∙ arrives (net (view b)) (free_in (view b)) t n a s (cube_nearing (shape_of (view b)) t) away)

    nearer : (p : ℕ) → p ∈ ports_of positions v → hops_left b t n ≡ suc ((net (view b)).distance t ((net (view b)).next n p))
    unfolding hops_left
    nearer p m = (cube_nearing (shape_of (view b)) t).nearer n p (rw offers m)

    pub arrive_reach : suc (farthest_after b t n v) ≤ hops_left b t n
    arrive_reach =
        let goal : NodeOf (shape_of (view b)).dimension t = unfold view in may.here.target in
        let start : NodeOf (shape_of (view b)).dimension n = unfold view in may.here.node in
        let some = (cube_leading (shape_of (view b)) (unfold view in may.here.fits) t goal).leads n start away in
        let e = nearer some.0 (rw offers at some.1) in
        let most : farthest_after b t n v ≤ (net (view b)).distance t ((net (view b)).next n some.0) = unfold farthest_after in
        farthest_most (net (view b)) t n _ (ports_of positions v) (λ p m. let z = nearer p m in omega (arith, e)) in
        omega (arith, e, most)

    all_may : MayTry long q w f b t c n v a h s
    unfolding hops_left network
    all_may =
        let degree : length (ports_of positions v) ≤ 2 * hops_left b t n = rw (← offers) ((cube_cubical (shape_of (view b)) (two_links (shape_of (view b)) (unfold view in may.here.fits)) t).degree n) in
        let ports = one_further (length (ports_of positions v)) (farthest_after b t n v) (hops_left b t n) arrive_reach (omega (arith, degree)) in
        record {
          here = may.here;
          vector_ports = arrive_ports;
          hops = omega (arith, may.hops, arrive_reach);
          room = omega (arith, may.room, ports);
        }

    -- those of them that are left
    module _ {left : ℕ} (narrow : Narrowed (view b) n v left) where
      pub arrive_may : MayTry long q w f b t c n left a h s
      arrive_may = narrow_may all_may narrow

      pub arrive_tries : (r : Receive) → try_answer b t c r n left a h s ≡ arrive_answer b t c r n a h s
      arrive_tries r = narrow_tries b t c r a h s narrow ∙ all_tried r

      pub arrive_falls : farthest_after b t n left < hops_left b t n
      arrive_falls = omega (arith, arrive_reach, narrow_reach b t narrow)
