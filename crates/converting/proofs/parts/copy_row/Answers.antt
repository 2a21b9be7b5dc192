-- `converting::parts::copy_row` meets its contract: sixteen bytes, and zeros.
use Rattle.std.proofs.Common.{rules, ◌≡◌, length, refl}
use lib.ListN.{replicate}
use Rattle.converting.proofs.Copied.{row_copied}
use Rattle.converting.proofs.parts.copy_row.Goals as goal

pub returns : goal.returns
returns c =
    let zeros : c.fill.new.self ≡ replicate (length c.fill.new.self) 0 = search rules in
    row_copied c.args.from.now c.args.to.now c.copy.new.to c.fill.new.self c.requires.0 c.requires.1 c.copy.ensures zeros c.fill.auto.self refl
