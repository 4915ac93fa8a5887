-- How a square of cells holds a book.
--   blank_cell       the cell of a pair without a line
--   cell_line        the line that a cell holds
--   factor_or        the factor that is stored for a line
--   lines, factors, supports, totals   one field of each cell of a list
--   noted_support    what stands as the support number of a pair
--   cells_meaning    the book that the first n × n cells hold
--   cells_bounded    its lines go only between blocks
--   Square           there is a cell for each pair of blocks
--   PlainSound       the condition of a plain book
--   with_cell_line, relined   a cell, and the cells, with one line set anew
--   with_support, with_total   the cells with one support number, or one total, set anew
--   Scratched        only support numbers and totals of the square have changed
--   opened_cells     the cells of a new book
use Rattle.std.specs.Prelude.{◌≡◌, ℕ, ◌+◌, ◌*◌, ◌<◌, ◌≤◌, Bool, true, false, cond, ◌&&◌, List, ◌++◌, map, length, get_or, drop, replicate, is_some, Some, None, Option, nat_lt, slice_index, slice_index_or, slice_set, refl}
use Rattle.std.proofs.lemmas.Bool.{and_parts, ltb-true}
use Rattle.books.specs.Graph.{Meaning, Bounded, Circleless}
use Rattle.books.specs.declared.cell.Cell.{Cell}

-- no line, factor and total zero, support number 0
abbrev pub blank_cell : {F : Type 0} → F → Cell F
blank_cell zero = record { total = zero; factor = zero; support = 0; stands = false }

-- the line of a cell is there where `stands` says so
abbrev pub cell_line : {F : Type 0} → Cell F → Option F
cell_line c = cond c.stands (Some c.factor) None

-- the factor that is stored for a line, zero without one
abbrev pub factor_or : {F : Type 0} → F → Option F → F
factor_or zero (Some f) = f
factor_or zero None = zero

abbrev pub lines : {F : Type 0} → List (Cell F) → List (Option F)
lines cells = map cell_line cells

abbrev pub factors : {F : Type 0} → List (Cell F) → List F
factors cells = map (λ c. c.factor) cells

abbrev pub supports : {F : Type 0} → List (Cell F) → List ℕ
supports cells = map (λ c. c.support) cells

abbrev pub totals : {F : Type 0} → List (Cell F) → List F
totals cells = map (λ c. c.total) cells

abbrev pub noted_support : {F : Type 0} → ℕ → List (Cell F) → ℕ → ℕ → ℕ
noted_support n cells a b = slice_index (supports cells) (a * n + b)

-- the line of the pair (a,b) stands at place a × n + b
abbrev pub lines_meaning : {F : Type 0} → ℕ → List (Option F) → Meaning F
lines_meaning n ls = record { size = n; line = λ a b. cond (nat_lt a n && nat_lt b n) (slice_index_or ls (a * n + b) None) None }

abbrev pub cells_meaning : {F : Type 0} → ℕ → List (Cell F) → Meaning F
cells_meaning n cells = lines_meaning n (lines cells)

-- lines stand only between blocks
pub cells_bounded : {F : Type 0} (n : ℕ) (cells : List (Cell F)) → Bounded (cells_meaning n cells)
cells_bounded n cells a b line =
    let (upper, lower) = and_parts _ _ (some_inside (nat_lt a n && nat_lt b n) (slice_index_or (lines cells) (a * n + b) None) line) in
    (ltb-true a n upper, ltb-true b n lower)
  where
    some_inside : {X : Type 0} (t : Bool) (o : Option X) → is_some (cond t o None) ≡ true → t ≡ true
    some_inside true o e = refl
    some_inside false o e = e

-- the size is one that a book can have, and each pair of blocks has a cell
pub record Square {F : Type 0} (n : ℕ) (cells : List (Cell F)) : Type 0 where
  pub small : n ≤ 64
  pub room : n * n ≤ length cells

-- the condition of a plain book: a square of cells, factor zero where no line stands, and no circle
pub record PlainSound {F : Type 0} (zero : F) (n : ℕ) (cells : List (Cell F)) : Type 0 where
  pub square : Square n cells
  pub vacant : (k : ℕ) → k < n * n → slice_index_or (lines cells) k None ≡ None → slice_index_or (factors cells) k zero ≡ zero
  pub circleless : Circleless (cells_meaning n cells)

-- the same cell with another line; the factor is zero without one
abbrev pub with_cell_line : {F : Type 0} → F → Cell F → Option F → Cell F
with_cell_line zero c (Some f) = record { total = c.total; factor = f; support = c.support; stands = true }
with_cell_line zero c None = record { total = c.total; factor = zero; support = c.support; stands = false }

-- the cells with the line at place k set anew
abbrev pub relined : {F : Type 0} → F → List (Cell F) → ℕ → Option F → List (Cell F)
relined zero cells k o = slice_set cells k (with_cell_line zero (slice_index_or cells k (blank_cell zero)) o)

-- the cells with the support number at place k set anew
abbrev pub with_support : {F : Type 0} → F → List (Cell F) → ℕ → ℕ → List (Cell F)
with_support zero cells k x =
    let c = get_or cells k (blank_cell zero) in
    slice_set cells k (record { total = c.total; factor = c.factor; support = x; stands = c.stands })

-- the cells with the total at place k set anew
abbrev pub with_total : {F : Type 0} → F → List (Cell F) → ℕ → F → List (Cell F)
with_total zero cells k x =
    let c = get_or cells k (blank_cell zero) in
    slice_set cells k (record { total = x; factor = c.factor; support = c.support; stands = c.stands })

-- only support numbers and totals have changed: the lines, the factors and the cells past the square are as they were
pub record Scratched {F : Type 0} (n : ℕ) (before after : List (Cell F)) : Type 0 where
  pub same_lines : lines after ≡ lines before
  pub same_factors : factors after ≡ factors before
  pub beyond : drop (n * n) after ≡ drop (n * n) before

-- the cells of a new book of n blocks: the square is blank, the others are as they were
abbrev pub opened_cells : {F : Type 0} → F → ℕ → List (Cell F) → List (Cell F)
opened_cells zero n cells = replicate (n * n) (blank_cell zero) ++ drop (n * n) cells
