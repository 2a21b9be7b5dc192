-- `reach::AskedSend::lowest_helix` meets its contract: the lowest port of the vector is the first that comes.
use mathlib.Core.Path.{ap, sym, ◌∙◌}
use mathlib.Core.Bool.{or-false}
use mathlib.Core.List.Memᴰ
use mathlib.Core.Path.{refl}
use lib.ListN.{take}
use Rattle.common.specs.Lists.{any}
use Rattle.reach.specs.Marks.{helix_enabled}
use Rattle.reach.proofs.Asks.{asked_ports, asked_port}
use Rattle.reach.proofs.AskedSend.lowest_helix.Goals as goal

pub helix_enabled-requires : goal.helix_enabled-requires
helix_enabled-requires g c =
    let send = c.args.self.now in
    asked_port send.may_ask c.ports.ensures c.in-Some.lowest.0 (rw (← c.new.ensures, c.in-Some.ensures.steps) (Memᴰ.head refl))

pub returns-in-Some : goal.returns-in-Some
returns-in-Some g c =
    let send = c.args.self.now in
    let test = helix_enabled send.bytes.now send.request.source.0 send.request.target.0 in
    c.helix_enabled.ensures ∙ sym (unfold any in (ap (λ ps. any test (take 1 ps)) (sym (asked_ports send.may_ask c.ports.ensures) ∙ sym c.new.ensures ∙ c.in-Some.ensures.steps) ∙ or-false _))

pub returns-in-None : goal.returns-in-None
returns-in-None g c =
    let send = c.args.self.now in
    let test = helix_enabled send.bytes.now send.request.source.0 send.request.target.0 in
    sym (unfold any in ap (λ ps. any test (take 1 ps)) (sym (asked_ports send.may_ask c.ports.ensures) ∙ sym c.new.ensures ∙ c.in-None.ensures.steps.0))
