-- `cube::vectors::wide_without` meets its contract: a set bit that is changed is lost.
use Rattle.cube.proofs.Bits.{flip_xor}
use Rattle.cube.proofs.Ports.{port_bit, without_of}
use Rattle.cube.proofs.vectors.wide_without.Goals as goal

pub returns : goal.returns
returns c =
    let v = c.args.vector in
    let p = c.args.port.0 in
    rw (port_bit 32 p c.requires.0, flip_xor v p) (without_of v p c.requires.1)
