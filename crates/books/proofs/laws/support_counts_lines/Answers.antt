-- The lines that a support number counts.
use Rattle.books.proofs.Chains.{support_counted}
use Rattle.books.proofs.laws.support_counts_lines.Goals as goal

pub returns : goal.returns
returns g c = support_counted
