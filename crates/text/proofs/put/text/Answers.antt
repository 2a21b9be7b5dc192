-- `text::put::text` meets its contract.
use mathlib.Core.Path.{refl}
use native.Mathlib.Omega.{arith}
use Rattle.text.proofs.Writing.{wrote_part}
use Rattle.text.proofs.put.text.Goals as goal

pub returns : goal.returns
returns c = wrote_part c.args.out.now c.args.bytes.now c.requires (omega arith) c.copy_from_slice.ensures.after refl
