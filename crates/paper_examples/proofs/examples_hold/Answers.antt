-- `paper_examples::examples_hold` meets its contract: it is the theorem.
use Rattle.paper_examples.proofs.OnTables.{examples_on_tables}
use Rattle.paper_examples.proofs.examples_hold.Goals as goal

pub returns : goal.returns
returns c = examples_on_tables
