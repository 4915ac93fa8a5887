-- The working space of a plain book while it works out a total.
--   noted_total   what stands as the total of a pair
--   row_sum       the sum over lines of the factor times what a row notes
--   Filled        the totals of the first p cells are W(k,c,b), row after row
use Rattle.std.specs.Prelude.{◌≡◌, ℕ, ◌+◌, ◌*◌, ◌<◌, List, slice_index_or}
use Rattle.factors.specs.Ring.{Operations}
use Rattle.books.specs.Graph.{Meaning, sum_below, along, walks}
use Rattle.books.specs.Cells.{totals, cells_meaning}
use Rattle.books.specs.declared.cell.Cell.{Cell}

abbrev pub noted_total : {F : Type 0} → Operations F → ℕ → List (Cell F) → ℕ → ℕ → F
noted_total r n cells a b = slice_index_or (totals cells) (a * n + b) r.zero

-- the sum over the first j blocks c with a line (a,c) of its factor times what row k notes for c
abbrev pub row_sum : {F : Type 0} → Operations F → ℕ → List (Cell F) → ℕ → ℕ → ℕ → F
row_sum r n cells k a j = sum_below r j (λ c. along r ((cells_meaning n cells).line a c) (noted_total r n cells k c))

-- cell k × n + c holds W(k,c,b) as its total, for the places below p
abbrev pub Filled : {F : Type 0} → Operations F → Meaning F → ℕ → ℕ → List (Cell F) → Type 0
Filled r m b p cells =
    (k c : ℕ) → c < m.size → k * m.size + c < p → noted_total r m.size cells k c ≡ walks r m k c b
