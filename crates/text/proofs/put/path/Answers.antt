-- `text::put::path` meets its contract.
use mathlib.Core.Path.{◌≡◌, ap}
use mathlib.Core.Logic.{◌≢◌}
use Rattle.std.proofs.Common.{rules, tests}
use native.Mathlib.Omega.{arith}
use lib.ListN.{length}
use Rattle.text.proofs.Writing.{retext}
use Rattle.text.proofs.Fields.{path_length}
use Rattle.text.proofs.Rows.{path_none, path_some}
use Rattle.text.proofs.put.path.Goals as goal

pub byte-requires : goal.byte-requires
byte-requires c =
    let none : length c.args.path.now ≡ 0 = search (rules, tests) in
    omega (arith, ap length (path_none c.args.path.now none), c.requires)

pub returns-then-is_empty : goal.returns-then-is_empty
returns-then-is_empty c =
    let none : length c.args.path.now ≡ 0 = search (rules, tests) in
    retext (path_none c.args.path.now none) c.byte.ensures

pub ports-requires : goal.ports-requires
ports-requires c =
    let some : length c.args.path.now ≢ 0 = search (rules, tests) in
    omega (arith, ap length (path_some c.args.path.now some), path_length c.args.path.now, c.requires)

pub returns : goal.returns
returns c =
    let some : length c.args.path.now ≢ 0 = search (rules, tests) in
    retext (path_some c.args.path.now some) c.ports.ensures
