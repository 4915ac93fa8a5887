-- The square of cells: the place of a pair lies within, and what is noted there is the book's line.
use Rattle.std.proofs.Common.{◌≡◌, ℕ, ◌+◌, ◌*◌, ◌/◌, ◌%◌, ◌<◌, true, ◌&&◌, ltb, List, length, get_or, is_some, None, Option, sym, ap, ◌∙◌, inl, inr, arith}
use Rattle.std.proofs.lemmas.Nat.{mul-add-lt, div_below, mod_below, div-add-mod'}
use Rattle.std.proofs.lemmas.Bool.{cond-true, and_from, lt-ltb, cases_eq}
use Rattle.books.specs.Graph.{Meaning, stands}
use Rattle.books.specs.Cells.{Square, lines, lines_meaning, cells_meaning}
use Rattle.books.specs.declared.cell.Cell.{Cell}

-- the place of a pair of blocks is one of the first n × n
pub place_below : (n a b : ℕ) → a < n → b < n → a * n + b < n * n
place_below n a b upper lower = mul-add-lt a n b n upper lower

pub inside : (n a b : ℕ) → a < n → b < n → (ltb a n && ltb b n) ≡ true
inside n a b upper lower = and_from _ _ (lt-ltb a n upper) (lt-ltb b n lower)

module _ {F : Type 0} (n : ℕ) (cells : List (Cell F)) (square : Square n cells) (a b : ℕ) (upper : a < n) (lower : b < n) where
  pub place_within : a * n + b < length cells
  place_within = omega (arith, place_below n a b upper lower, square.room)

  -- the line of a pair is what is noted at its place
  pub line_noted : (cells_meaning n cells).line a b ≡ get_or (lines cells) (a * n + b) None
  line_noted = cond-true _ _ _ (inside n a b upper lower)

-- each of the first n × n places is that of a pair
pub pair_of : (n k : ℕ) → k < n * n → (a : ℕ) × (b : ℕ) × (a < n) × (b < n) × (a * n + b ≡ k)
pair_of n k below = (k / n, k % n, div_below k n n some below, mod_below k n some, div-add-mod' k n)
  where
    some : 0 < n
    some = elim (cases_eq n 0) [ inl none ↦ absurd (omega (arith, ap (λ (i : ℕ). i * n) none)) | inr other ↦ omega arith ]

-- the lines alone make the meaning
pub same_meaning : {F : Type 0} (n : ℕ) (before after : List (Cell F)) → lines after ≡ lines before → cells_meaning n after ≡ cells_meaning n before
same_meaning n before after same = ap (lines_meaning n) same

-- a line that is read stands as it did before, where only the numbers have changed
pub line_stood : {F : Type 0} (n : ℕ) (before after : List (Cell F)) → lines after ≡ lines before
    → (a b : ℕ) (o : Option F) → o ≡ (cells_meaning n after).line a b → stands (cells_meaning n before) a b ≡ is_some o
line_stood {F} n before after same a b o read =
    ap (λ (m : Meaning F). stands m a b) (sym (same_meaning n before after same)) ∙ sym (ap is_some read)
