-- Books of the same lines keep the same ones, and every call so far is counted once, by its answer.
use Rattle.std.proofs.Common.{◌≡◌}
use Rattle.comparison.specs.Counts.{counted}
use Rattle.comparison.specs.Runs.{Tallied}
use Rattle.comparison.proofs.agreement.compare.Given as goal

abbrev pub invariant-loop-earlier : goal.invariant-loop-earlier
invariant-loop-earlier g l =
    (g.K.Book.meaning l.initial.books.kept ≡ g.P.Book.meaning l.initial.books.plain → g.K.Book.meaning l.books.kept ≡ g.P.Book.meaning l.books.plain)
    × (counted l.tally ≡ l.earlier)
    × Tallied g.F.Factor.ring.ops g.F.Factor.coding (g.K.Book.meaning l.initial.books.kept) l.earlier (g.K.Book.meaning l.books.kept) l.tally
