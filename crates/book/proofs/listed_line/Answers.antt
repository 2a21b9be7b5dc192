-- `book::listed_line` meets its contract: the first line with the circuit's number is its line.
use mathlib.Core.Path.{refl}
use lib.Dec.{eqb}
use Rattle.std.proofs.Common.{rules}
use Rattle.std.proofs.lemmas.Iterator.Search.{find_from_yields_List}
use Rattle.std.proofs.lemmas.Iterator.Consumers.{YieldsList-from_first}
use Rattle.book.specs.BookContracts.{line_is, lines_left}
use Rattle.book.proofs.Lines.{line_if_first}
use Rattle.book.proofs.listed_line.Goals as goal

pub returns : goal.returns
returns c =
    line_if_first c.args.c.0 _ c.find.result (find_from_yields_List (λ x. eqb x.number c.args.c.0) c.find.new.self _ c.find.result c.find.ensures.ran (YieldsList-from_first line_is lines_left _ refl) (λ x b q k. search rules))
