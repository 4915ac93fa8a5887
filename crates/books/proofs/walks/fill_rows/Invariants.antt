use Rattle.std.proofs.Common.{◌*◌}
use Rattle.books.specs.Cells.{Scratched, cells_meaning}
use Rattle.books.specs.Walks.{Filled}
use Rattle.books.proofs.walks.fill_rows.Given as goal

abbrev pub invariant-loop-k : goal.invariant-loop-k
invariant-loop-k g l =
    Scratched l.n l.initial.cells l.cells
    × Filled g.F.Factor.ring.ops (cells_meaning l.n l.initial.cells) l.b (l.k * l.n) l.cells
