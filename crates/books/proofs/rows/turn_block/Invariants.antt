use Rattle.books.specs.Graph.{stands}
use Rattle.books.specs.Cells.{cells_meaning}
use Rattle.books.proofs.Steps.{SteppedUpto}
use Rattle.books.proofs.rows.turn_block.Given as goal

abbrev pub invariant-loop-j : goal.invariant-loop-j
invariant-loop-j g l =
    SteppedUpto g.C.Change.direction l.n l.i (stands (cells_meaning l.n l.initial.cells) l.l) l.j l.initial.cells l.initial.marks l.cells l.marks
