-- `text::put::ports` meets its contract: what is left to write behind what was written are the ports.
use native.Mathlib.Omega.{arith}
use mathlib.Core.Path.{ap}
use mathlib.Core.List.{[], ◌∷◌}
use Prim.Native.Nat.{◌+◌}
use lib.ListN.{length, drop}
use Rattle.text.specs.Row.{path_characters}
use Rattle.text.proofs.Writing.{left_more, left_none, retext}
use Rattle.text.proofs.Fields.{turn_step, turn_end, path_length}
use Rattle.text.proofs.put.ports.Goals as goal

pub byte-end-requires : goal.byte-end-requires
byte-end-requires c =
    let w = c.args.path.now in
    let i = c.loop-port.port-index in
    let step = turn_step w i c.loop-port-test.true in
    omega (arith, ap length step, path_length w, c.loop-port.invariant.place, c.loop-port.invariant.long, c.requires)

pub loop-port-preserved : goal.loop-port-preserved
loop-port-preserved c =
    let w = c.args.path.now in
    let i = c.loop-port.port-index in
    left_more (path_characters (drop (i + 1) w)) c.loop-port.invariant (turn_step w i c.loop-port-test.true) c.byte-end.auto.out (retext (ap (λ x. x ∷ []) c.port_character.ensures) c.byte-end.ensures)

pub returns : goal.returns
returns c = left_none c.loop-port.invariant (turn_end c.args.path.now c.loop-port.port-index (omega (arith, c.loop-port-test.false)))
