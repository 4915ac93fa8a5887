use Rattle.books.specs.Cells.{Scratched}
use Rattle.books.specs.Rows.{line_before, line_after, Supported, Totalled, Working}
use Rattle.books.proofs.rows.work_rows.Given as goal

abbrev pub invariant-loop-i : goal.invariant-loop-i
invariant-loop-i g l = Working g.F.Factor.ring.ops l.n l.a l.b (line_before g.C.Change.direction l.factor) (line_after g.C.Change.direction l.factor) l.i l.cells × Supported l.n l.i l.cells × Totalled g.F.Factor.ring.ops l.n l.i l.cells × Scratched l.n l.initial.cells l.cells
