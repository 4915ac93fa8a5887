use Rattle.books.specs.Rows.{Added, Retotalled}
use Rattle.books.proofs.rows.add_chains.Given as goal

abbrev pub invariant-loop-j : goal.invariant-loop-j
invariant-loop-j g l =
    let r = g.F.Factor.ring.ops in
    Added r l.n l.i l.b l.ahead l.j l.initial.cells l.cells × Retotalled r l.n l.i l.initial.cells l.cells
