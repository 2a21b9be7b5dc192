-- `helix::first_free` meets its contract: the ports that are still to come give the whole.
use mathlib.Core.Path.{refl, ap, ◌∙◌}
use native.Mathlib.Nat.{lt_of_lt_of_le}
use lib.Pow.{pow_mono}
use Rattle.cube.specs.PortsLeft.{ports_left}
use Rattle.helix.proofs.HelixSends.{before_first_path, no_path_left, port_follows, path_found_free, path_not_free}
use Rattle.helix.proofs.first_free.Goals as goal

pub new-port-items-requires : goal.new-port-items-requires
new-port-items-requires g c = lt_of_lt_of_le c.requires.may_try_paths.vector_ports.below (pow_mono g.met.B.Board.laws.most)

pub loop-port-init : goal.loop-port-init
loop-port-init g c = before_first_path (ap ports_left c.into_iter-port-iterator.ensures.into_iter_gives ∙ c.new-port-items.ensures)

pub free_front-requires : goal.free_front-requires
free_front-requires g c = record { may_follow = port_follows c.loop-port.invariant c.requires.may_try_paths c.in-Some.ensures.steps }

pub returns-in-Ok : goal.returns-in-Ok
returns-in-Ok g c = rw c.from.ensures (path_found_free c.loop-port.invariant c.requires.may_try_paths c.in-Some.ensures.steps c.in-Ok.ensures refl)

pub loop-port-preserved : goal.loop-port-preserved
loop-port-preserved g c = rw c.from-scouts.ensures (path_not_free c.loop-port.invariant c.requires.may_try_paths c.in-Some.ensures.steps c.in-Err.ensures refl)

pub returns : goal.returns
returns g c = (refl, no_path_left c.loop-port.invariant c.in-None.ensures.steps.0)
