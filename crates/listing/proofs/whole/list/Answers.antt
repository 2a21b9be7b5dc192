-- `listing::whole::list` meets its contract: the header and the lines behind it are the printed list.
use native.Mathlib.Omega.{arith}
use Rattle.text.specs.Row.{spaced, ended}
use Rattle.listing.specs.Listing.{header, too_long}
use Rattle.text.proofs.Writing.{◌then◌}
use Rattle.listing.proofs.Remaining.{printed_long, printed_rows, rows_fit, lists_short, lists_all}
use Rattle.listing.proofs.whole.list.Goals as goal

pub returns-then-output-lt-OUTPUT_BYTES : goal.returns-then-output-lt-OUTPUT_BYTES
returns-then-output-lt-OUTPUT_BYTES c = lists_short c.args.input.now c.args.output.now c.if-output-lt-OUTPUT_BYTES.true

pub returns-then-input-gt-INPUT_LIMIT : goal.returns-then-input-gt-INPUT_LIMIT
unfolding too_long ended spaced
returns-then-input-gt-INPUT_LIMIT c =
    lists_all c.args.input.now (omega (arith, c.if-output-lt-OUTPUT_BYTES.false)) (printed_long c.args.input.now c.if-input-gt-INPUT_LIMIT.true) c.text.ensures

pub rows-requires : goal.rows-requires
unfolding header ended spaced
rows-requires c =
    omega (arith, rows_fit c.args.input.now c.make.new.t (omega (arith, c.if-input-gt-INPUT_LIMIT.false)) c.make.ensures, c.text-at.ensures.place, c.text-at.auto.out, c.if-output-lt-OUTPUT_BYTES.false)

pub returns : goal.returns
unfolding header ended spaced
returns c =
    let input = c.args.input.now in
    lists_all input (omega (arith, c.if-output-lt-OUTPUT_BYTES.false)) (printed_rows input c.make.new.t (omega (arith, c.if-input-gt-INPUT_LIMIT.false)) c.make.ensures) (c.text-at.ensures then c.rows.ensures)
