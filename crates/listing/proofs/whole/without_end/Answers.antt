-- `listing::whole::without_end` meets its contract.
use Rattle.std.proofs.Common.{◌≡◌, ◌≢◌, ◌-◌, length, get_or, rules, arith}
use Rattle.std.proofs.lemmas.List.{length-take}
use Rattle.text.proofs.Cuts.{lines_split, lines_part}
use Rattle.listing.proofs.whole.without_end.Goals as goal

pub returns-in-10 : goal.returns-in-10
returns-in-10 c =
    let input = c.args.input.now in
    let last : get_or input (length input - 1) 0 ≡ 10 = search rules in
    (lines_part input c.in-10.len_at_least last, omega (arith, length-take (length input - 1) input))

pub returns-in_default-2 : goal.returns-in_default-2
returns-in_default-2 c =
    let input = c.args.input.now in
    let other : get_or input (length input - 1) 0 ≢ 10 = search rules in
    (lines_split input c.requires other, omega arith)
