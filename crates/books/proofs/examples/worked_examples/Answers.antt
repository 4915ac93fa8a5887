use Rattle.books.proofs.Tables.{worked}
use Rattle.books.proofs.examples.worked_examples.Goals as goal

pub returns : goal.returns
returns c = worked
