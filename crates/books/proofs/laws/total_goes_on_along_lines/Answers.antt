-- The equation of totals in the ring of the kind.
use Rattle.books.proofs.Totals.{total_from_lines}
use Rattle.books.proofs.laws.total_goes_on_along_lines.Goals as goal

pub returns : goal.returns
returns g c = total_from_lines g.F.Factor.ring
