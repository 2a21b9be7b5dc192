-- An open to node 0 in a history in which the links into node 0 are blocked, and no other, and no circuit is open: it is rejected for good, with a scout for each beginning that has not
-- arrived.
-- Assumes nothing.
use mathlib.Core.Path.{◌≡◌, refl, ap, ◌∙◌}
use mathlib.Core.Bool.{Bool, true, false, not, ◌||◌, or-false}
use mathlib.Core.List.{List, []}
use Prim.Native.Nat.{ℕ, ◌^◌, ◌≤◌}
use lib.Dec.{eqb}
use Rattle.std.specs.Bool.{beq}
use borrow.Author.Tests.{lt-ltb}
use Rattle.common.specs.Lists.{◌∈◌, every, any}
use Rattle.common.proofs.Every.{at, at₂}
use Rattle.common.proofs.Lists.{keep_all}
use Rattle.cube.specs.Bits.{has}
use Rattle.cube.specs.Cube.{largest_dimension, NodeOf, next}
use Rattle.cube.specs.Axes.{axis, present}
use Rattle.cube.proofs.PartnerPorts.{same_test}
use Rattle.cube.proofs.Axes.{present_axis}
use Rattle.paths.specs.Network.{Link, has_link, link_state, is_free}
use Rattle.paths.specs.Pass.{none, pass, scouts}
use Rattle.paths.specs.Send.{outcome, route_rejected, one_result, attempted}
use Rattle.paths.specs.Waiting.{finds_path, some_attempt}
use Rattle.paths.specs.CubeNetwork.{Shape, Node, ports, network, send_ports, attempts}
use Rattle.paths.proofs.CubeNetwork.{port_there, port_axis}
use Rattle.paths.proofs.Send.{maze_answers}
use Rattle.ownership.specs.Calls.{opening, answered, result_of}
use Rattle.ownership.specs.History.{History, shape_on, enabled_on, held_on, free_on, receive_on, send_on, waiting_on, facts_on, stopped_on, history_step}
use Rattle.ownership.proofs.Steps.{history_step_lem}
use Rattle.most_scouts.specs.Unarrived.{most_sent}
use Rattle.most_scouts.specs.Reaching.{rejected_after}
use Rattle.most_scouts.proofs.Blocked.{pass_reaches}

-- of each port of each node, whether its link is one of a list exactly where it leads to node 0
abbrev pub into_zero : (D fold : ℕ) → List Link → ℕ → ℕ → Bool
into_zero D fold ls n p = not (present D fold p) || beq (has_link ls n p) (eqb (next n p) 0)

-- what is asked of such a history, and of the open
pub record Ready (h : History) (s vector : ℕ) : Type 0 where
  pub fits : h.dimension ≤ largest_dimension
  pub source : NodeOf h.dimension s
  pub target : NodeOf h.dimension 0
  pub idle : h.circuits ≡ []
  pub blocked : every (2 ^ h.dimension) (λ n. every 18 (into_zero h.dimension h.fold h.blocked n)) ≡ true
  pub full : every h.dimension (has vector) ≡ true
  pub passes : stopped_on h (opening s 0 0 0 vector) ≡ 0

module _ (h : History) (s vector : ℕ) (ready : Ready h s vector) where
  S : Shape
  S = shape_on h

  -- a link is enabled exactly where it does not lead to node 0,
  enabled_but : (n p : ℕ) → Node S n → p ∈ ports S → enabled_on h n p ≡ not (eqb (next n p) 0)
  unfolding S enabled_on
  enabled_but n p i m =
      let there = port_there S p m in
      let test = at₂ (2 ^ h.dimension) 18 (into_zero h.dimension h.fold h.blocked) ready.blocked n p i (present_axis h.dimension h.fold p there).0 in
      rw (lt-ltb n (2 ^ h.dimension) i, there) (ap not (same_test _ _ (rw there at test)))

  -- and so it is free.
  free_but : (n p : ℕ) → Node S n → p ∈ ports S → free_on h n p ≡ not (eqb (next n p) 0)
  unfolding free_on held_on any enabled_on
  free_but n p i m = rw ready.idle (go (enabled_on h n p)) ∙ enabled_but n p i m
    where
      go : (b : Bool) → is_free (link_state b false) ≡ b
      go true = unfold is_free link_state in refl
      go false = unfold is_free link_state in refl

  -- The ports of the open are all.
  all_ports : send_ports S vector ≡ ports S
  unfolding S send_ports
  all_ports = keep_all (λ q. has vector (axis q)) (ports S) (λ q m. at h.dimension (has vector) ready.full (axis q) (port_axis S q m))

  sent : pass (network S) (free_on h) s (send_ports S vector) 0 ≡ none (most_sent S s 0)
  unfolding S
  sent = rw all_ports (pass_reaches S (free_on h) 0 free_but ready.fits s ready.source ready.target)

  could : pass (network S) (enabled_on h) s (send_ports S vector) 0 ≡ none (most_sent S s 0)
  unfolding S
  could = rw all_ports (pass_reaches S (enabled_on h) 0 enabled_but ready.fits s ready.source ready.target)

  rejected : send_on h s 0 0 vector ≡ record { outcome = route_rejected; scouts = most_sent S s 0 }
  unfolding S send_on outcome scouts
  rejected = maze_answers S (free_on h) (receive_on h 0) s vector 0 ∙ ap (one_result (receive_on h 0)) sent

  for_good : waiting_on h s 0 0 vector ≡ false
  unfolding S waiting_on some_attempt attempts attempted any finds_path
  for_good = or-false _ ∙ ap finds_path could

  pub ready_gives : (history_step h (opening s 0 0 0 vector)).result ≡ rejected_after (most_sent (shape_on h) s 0)
  unfolding S facts_on result_of answered
  ready_gives = (history_step_lem h (opening s 0 0 0 vector)).result ready.passes ∙ (rw (rejected, for_good) refl)
