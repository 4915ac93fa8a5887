-- The kept book: what its cells hold.
--   kept_cell      what the cell of a pair holds
--   KeptSound      the condition of a kept book
--   OnesUpto       totals of blocks to themselves are set to one
use Rattle.std.specs.Prelude.{◌≡◌, ℕ, ◌+◌, ◌*◌, ◌<◌, cond, ◌&&◌, List, ◌==◌, nat_lt, slice_index_or}
use Rattle.factors.specs.Ring.{Operations}
use Rattle.books.specs.Graph.{Meaning, Circleless, stands, support, total}
use Rattle.books.specs.Cells.{Square, blank_cell, factor_or, cells_meaning}
use Rattle.books.specs.Walks.{noted_total}
use Rattle.books.specs.declared.cell.Cell.{Cell}

-- whether the line stands, its factor (zero without a line), the support number and the total
abbrev pub kept_cell : {F : Type 0} → Operations F → Meaning F → ℕ → ℕ → Cell F
kept_cell r m a b =
    record { total = total r m a b; factor = factor_or r.zero (m.line a b); support = support m a b; stands = stands m a b }

-- the condition of a kept book: a square of cells, no circle, and each cell of the square holds what the definitions give
-- for the lines that stand
pub record KeptSound {F : Type 0} (r : Operations F) (n : ℕ) (cells : List (Cell F)) : Type 0 where
  pub square : Square n cells
  pub circleless : Circleless (cells_meaning n cells)
  pub cells_kept : (a b : ℕ) → a < n → b < n → slice_index_or cells (a * n + b) (blank_cell r.zero) ≡ kept_cell r (cells_meaning n cells) a b

-- the totals of the first p blocks to themselves are set to one, the others are as they were
abbrev pub OnesUpto : {F : Type 0} → Operations F → ℕ → ℕ → List (Cell F) → List (Cell F) → Type 0
OnesUpto r n p before after =
    (a b : ℕ) → a < n → b < n → noted_total r n after a b ≡ cond (a == b && nat_lt a p) r.one (noted_total r n before a b)
