use Rattle.books.specs.Graph.{count_below}
use Rattle.books.proofs.RowChanges.{RowTurning, unturned}
use Rattle.books.proofs.rows.turn_row.Given as goal

abbrev pub invariant-loop-l : goal.invariant-loop-l
invariant-loop-l g l = RowTurning g.C.Change.direction l.n l.i l.b l.initial.cells l.cells l.marks

abbrev pub decreases-loop-l : goal.decreases-loop-l
decreases-loop-l g l = count_below l.n (unturned g.C.Change.direction l.n l.i l.cells l.marks)
