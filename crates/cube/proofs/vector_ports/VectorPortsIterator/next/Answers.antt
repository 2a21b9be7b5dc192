-- The ports of a vector one by one: the lowest comes first, and the vector without it has the others.
use native.Mathlib.Omega.{arith}
use Rattle.std.proofs.Common.{ap, rules, length}
use Rattle.cube.proofs.PortsLeft.{ports_end, lowest_port, ports_on}
use Rattle.cube.proofs.vector_ports.VectorPortsIterator.next.Goals as goal

pub returns-in_err-lowest_port-clause-steps : goal.returns-in_err-lowest_port-clause-steps
returns-in_err-lowest_port-clause-steps c =
    let none = ports_end c.args.self.now.left c.args.self.now.few c.in_err-lowest_port.ensures in
    rw c.from_residual.ensures (none, none)

pub wide_without-self-requires : goal.wide_without-self-requires
wide_without-self-requires c =
    let low = lowest_port c.args.self.now.left c.args.self.now.few c.in_ok-lowest_port.ensures in
    (omega (arith, low.0), low.1)

pub returns-clause-steps : goal.returns-clause-steps
returns-clause-steps c = ports_on c.args.self.now.left c.args.self.now.few c.in_ok-lowest_port.ensures c.wide_without-self.ensures

pub returns-clause-goes : goal.returns-clause-goes
returns-clause-goes c =
    let shorter = ap length (ports_on c.args.self.now.left c.args.self.now.few c.in_ok-lowest_port.ensures c.wide_without-self.ensures) in
    search rules
