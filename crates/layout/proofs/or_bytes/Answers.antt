-- `layout::or_bytes` meets its contract: the bytes are joined one after another.
use Rattle.std.proofs.Common.{rules, ◌≡◌}
use lib.Bits.{bit_or}
use Rattle.std.specs.List.{fold}
use Rattle.layout.proofs.Runs.{run_or}
use Rattle.layout.proofs.or_bytes.Goals as goal

pub returns : goal.returns
returns c =
    let joined : c.fold.result ≡ fold bit_or 0 c.args.bytes.now = search rules in
    rw joined (run_or c.args.bytes.now)
