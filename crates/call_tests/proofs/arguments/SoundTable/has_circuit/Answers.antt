-- `call_tests::SoundTable::has_circuit` meets its contract: the circuit that it asks about has a source in the cube.
use Rattle.call_tests.proofs.Stopping.{found_source}
use Rattle.call_tests.proofs.arguments.SoundTable.has_circuit.Goals as goal

pub is_open-requires : goal.is_open-requires
is_open-requires g c =
    found_source g.met.L.Layout.laws c.args.s.0 c.args.self.now.passed c.requires.node c.requires.channel c.circuit_of.ensures
