-- `reach::AskedSend::any_helix` meets its contract: some port of the vector has a helix path over enabled links alone.
use mathlib.Core.Path.{ap, ◌∙◌}
use Rattle.std.proofs.Common.{rules, false}
use Rattle.common.specs.Lists.{any}
use Rattle.common.proofs.Runs.{callable, any_of}
use Rattle.cube.specs.PortsLeft.{ports_left}
use Rattle.reach.specs.Marks.{helix_enabled}
use Rattle.reach.proofs.Asks.{asked_ports, asked_port}
use Rattle.reach.proofs.AskedSend.any_helix.Goals as goal

pub any-requires-clause-callable : goal.any-requires-clause-callable
any-requires-clause-callable g c =
    let send = c.args.self.now in
    callable (λ p. p.0) ports_left (λ s r t step. step) (helix_enabled send.bytes.now send.request.source.0 send.request.target.0) (λ x r q k. search rules) false
    (λ p m. asked_port send.may_ask c.ports.ensures p.0 (rw c.new.ensures at m))

pub returns : goal.returns
returns g c =
    let send = c.args.self.now in
    let test = helix_enabled send.bytes.now send.request.source.0 send.request.target.0 in
    any_of (λ p. p.0) ports_left (λ s r t step. step) test (λ x r q k. search rules) c.any.new.self c.any.ensures.ran ∙ ap (any test) (c.new.ensures ∙ asked_ports send.may_ask c.ports.ensures)
