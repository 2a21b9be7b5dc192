-- `helix::try_ports` meets its contract: the first free path, and the receive channel that the target has for it.
use mathlib.Core.Path.{◌≡◌, refl, sym, ◌∙◌}
use native.Mathlib.Omega.{arith}
use Rattle.layout.specs.Resources.{width_least}
use Rattle.std.proofs.lemmas.Result.{err_from_is_err_and, IfErr-at_err}
use Rattle.cube.proofs.Order.{byte_vector}
use Rattle.table.specs.View.{view}
use Rattle.table.proofs.Receives.{channel_taken, channel_missing}
use Rattle.helix.proofs.HelixSends.{helix_none, helix_full, channel_small, helix_taken, found_follows}
use Rattle.helix.proofs.try_ports.Goals as goal

pub returns-in_err-free : goal.returns-in_err-free
returns-in_err-free g c =
    let p = err_from_is_err_and c.from_residual.result c.from_residual.ensures.1 in
    rw (p.1, p.2, c.in_err-free.ensures.0) (helix_none _ _ _ _ _ c.in_err-free.ensures.1)

pub available_channel-requires : goal.available_channel-requires
available_channel-requires g c =
    let may = c.requires.may_try_paths in
    record { bytes = may.bytes; node = byte_vector may.fits may.target; port = omega (arith, width_least g.met.L.Layout.laws.ports_are) }

pub returns-in_err-receive : goal.returns-in_err-receive
returns-in_err-receive g c =
    let none = sym c.in_err-receive.ensures.ok_part ∙ c.available_channel.ensures in
    let refused = rw c.in_err-receive.ensures.ok_part at c.in_err-receive.ensures.value in
    let p = err_from_is_err_and c.from_residual-in_err-receive.result c.from_residual-in_err-receive.ensures.1 in
    rw (p.1, IfErr-at_err (p.0 ≡◌) refused p.2) (helix_full _ _ _ c.args.request.circuit.0 _ c.requires.may_try_paths c.in_ok-free.ensures refl (channel_missing (view c.args.t.now) c.args.request.target.0 none))

pub hold_helix-requires : goal.hold_helix-requires
hold_helix-requires g c = record { may_follow = found_follows c.requires.may_try_paths c.in_ok-free.ensures }

pub set_owner-requires : goal.set_owner-requires
set_owner-requires g c =
    let may = c.requires.may_try_paths in
    let taken = channel_taken (view c.args.t.now) c.args.request.target.0 (sym c.in_ok-receive.ensures.ok_part ∙ c.available_channel.ensures) in
    record {
      bytes = c.hold_helix.auto.t ∙ may.bytes;
      node = byte_vector may.fits may.target;
      port = channel_small _ _ _ c.args.request.circuit.0 _ may c.in_ok-free.ensures taken.0 taken.1;
    }

pub returns : goal.returns
returns g c =
    let taken = channel_taken (view c.args.t.now) c.args.request.target.0 (sym c.in_ok-receive.ensures.ok_part ∙ c.available_channel.ensures) in
    helix_taken _ _ _ _ _ c.requires.may_try_paths c.in_ok-free.ensures taken.0 taken.1 c.hold_helix.ensures c.set_owner.ensures
