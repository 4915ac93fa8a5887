-- A book over cells, whatever they hold beside the lines.
--   held          the cells that a book holds
--   book_meaning  the book that they hold
--   cells_alter, book_alters   what its calls leave beside the meaning
--   book_lawful   the laws of a book hold in it
use Rattle.std.specs.Prelude.{◌≡◌, ℕ, ◌*◌, List, drop}
use Rattle.books.specs.Calls.{Effect}
use Rattle.books.specs.Calls.Effect.{changing, querying, refusing}
use Rattle.books.specs.Graph.{Meaning, Circleless, Lawful}
use Rattle.books.specs.Cells.{cells_meaning, cells_bounded}
use Rattle.books.specs.declared.cell.Cell.{Cell}
use Rattle.books.specs.declared.cell_book.CellBook.{CellBook}

abbrev pub held : {F U : Type 0} → CellBook F U → List (Cell F)
held s = s.cells.now

abbrev pub book_meaning : {F U : Type 0} → CellBook F U → Meaning F
book_meaning s = cells_meaning s.size (held s)

-- A change leaves the cells past the square, a query alters what it may, and a refused call leaves every cell.
abbrev pub cells_alter : {F : Type 0} → (ℕ → List (Cell F) → List (Cell F) → Type 0) → Effect → ℕ → List (Cell F) → List (Cell F) → Type 0
cells_alter queried changing n before after = drop (n * n) after ≡ drop (n * n) before
cells_alter queried querying n before after = queried n before after
cells_alter queried refusing n before after = after ≡ before

abbrev pub book_alters : {F U : Type 0} → (ℕ → List (Cell F) → List (Cell F) → Type 0) → Effect → CellBook F U → CellBook F U → Type 0
book_alters queried e s t = (t.size ≡ s.size) × cells_alter queried e s.size (held s) (held t)

pub book_lawful : {F U : Type 0} (book : CellBook F U) → Circleless (book_meaning book) → Lawful (book_meaning book)
book_lawful book acyclic = record { small = book.square.small; bounded = cells_bounded book.size (held book); acyclic = acyclic }
