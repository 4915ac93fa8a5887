use Rattle.std.proofs.Common.{◌≡◌, ℕ, ◌<◌, ◌≤◌, false, ◌||◌, get_or}
use Rattle.books.specs.Graph.{stands}
use Rattle.books.specs.Cells.{cells_meaning}
use Rattle.books.proofs.search.mark_lower.Given as goal

-- the blocks so far are marked, the others are as they were
abbrev pub invariant-loop-j : goal.invariant-loop-j
invariant-loop-j g l =
    ((k : ℕ) → k < l.j → get_or l.seen k false ≡ (get_or l.initial.seen k false || stands (cells_meaning l.n l.cells) l.l k))
    × ((k : ℕ) → l.j ≤ k → get_or l.seen k false ≡ get_or l.initial.seen k false)
