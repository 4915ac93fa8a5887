use Rattle.std.proofs.Common.{◌≡◌}
use Rattle.books.specs.Walks.{row_sum}
use Rattle.books.proofs.walks.sum_along.Given as goal

abbrev pub invariant-loop-c : goal.invariant-loop-c
invariant-loop-c g l = l.sum ≡ row_sum g.F.Factor.ring.ops l.n l.cells l.k l.a l.c
