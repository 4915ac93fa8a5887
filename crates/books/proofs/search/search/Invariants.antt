use Rattle.std.proofs.Common.{not, count_by}
use Rattle.books.specs.Cells.{cells_meaning}
use Rattle.books.proofs.Searches.{Searched}
use Rattle.books.proofs.search.search.Given as goal

abbrev pub invariant-loop-l : goal.invariant-loop-l
invariant-loop-l g l = Searched (cells_meaning l.n l.cells) l.a l.seen l.visited

-- how many marks of a visit are not yet made
abbrev pub decreases-loop-l : goal.decreases-loop-l
decreases-loop-l g l = count_by not l.visited
