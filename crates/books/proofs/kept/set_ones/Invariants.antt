use Rattle.std.proofs.Common.{◌≡◌}
use Rattle.books.specs.Cells.{Scratched, supports}
use Rattle.books.specs.Kept.{OnesUpto}
use Rattle.books.proofs.kept.set_ones.Given as goal

abbrev pub invariant-loop-i : goal.invariant-loop-i
invariant-loop-i g l =
    OnesUpto g.F.Factor.ring.ops l.n l.i l.initial.cells l.cells
    × Scratched l.n l.initial.cells l.cells
    × (supports l.cells ≡ supports l.initial.cells)
