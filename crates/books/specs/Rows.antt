-- A row of a kept book while a change is worked into it.
--   one           1 for a passed test, 0 for another
--   counted       how many lines end at a block and start at a block of a set
--   support_row   the support numbers that the cells hold for a row
--   reached       the blocks that a row shows as reached: its own, and those with a support number above 0
--   Direction     down for a strike, which lowers support numbers, up for an entry, which raises them
--   line_before, line_after, line_added   the line before and after a change, and the factor that its chains are added with
--   Steppable, stepped, turned   a support number that can step, where it steps to, and whether its block is lost or gained
--   Settled       each support number of a row counts the lines from the blocks that the row shows as reached
--   Stepped       support numbers that differ by one, with the marks of those that are 0 without it
--   SteppedBy     the same, from before a change to afterwards
--   Lowerable, Raisable, Turnable   what a row starts from: its support numbers are off by one at the changed line
--   Resupported, Retotalled   only support numbers, or only totals, have changed
--   with_chains, Added   chains over a line are added to a total, and to the totals of a row
--   RowAnswered   a row holds the support numbers and the totals of a book
--   Supported, Totalled   the rows so far hold those of the book that the cells hold
--   HalfWorked, Working   a change of one line is worked into the rows so far
use Rattle.std.specs.Prelude.{◌≡◌, ℕ, ◌+◌, ◌-◌, ◌<◌, ◌≤◌, Bool, false, cond, ◌&&◌, ◌||◌, List, Option, Some, None, ◌==◌, ◌≢◌, nat_lt, slice_index_or}
use Rattle.factors.specs.Ring.{Operations, Ring}
use Rattle.books.specs.Graph.{Meaning, Circleless, with_line, stands, count_below, reaches, support, total}
use Rattle.books.specs.Cells.{Square, Scratched, supports, totals, noted_support, cells_meaning}
use Rattle.books.specs.Walks.{noted_total}
use Rattle.books.specs.declared.cell.Cell.{Cell}

-- a strike lowers support numbers, an entry raises them
pub data Direction : Type 0 where
  down : Direction
  up : Direction

-- what stands at the pair of the changed line before, and afterwards
abbrev pub line_before : {F : Type 0} → Direction → F → Option F
line_before down f = Some f
line_before up f = None

abbrev pub line_after : {F : Type 0} → Direction → F → Option F
line_after down f = None
line_after up f = Some f

-- what stands between the part ahead and the part after, where the chains over the line are added
abbrev pub line_added : {F : Type 0} → Ring F → Direction → F → F
line_added r down f = r.opposite f
line_added r up f = f

-- a support number that can step, and where it steps to
abbrev pub Steppable : Direction → ℕ → Type 0
Steppable down s = 0 < s
Steppable up s = s ≤ 64

abbrev pub stepped : Direction → ℕ → ℕ
stepped down s = s - 1
stepped up s = s + 1

-- the step goes to 0, or from it, so that the block of the column is lost, or gained
abbrev pub turned : Direction → ℕ → Bool
turned down s = s == 1
turned up s = s == 0

abbrev pub one : Bool → ℕ
one b = cond b 1 0

-- how many lines end at j and start at a block that passes the test
abbrev pub counted : {F : Type 0} → Meaning F → (ℕ → Bool) → ℕ → ℕ
counted m p j = count_below m.size (λ l. stands m l j && p l)

abbrev pub support_row : {F : Type 0} → ℕ → List (Cell F) → ℕ → ℕ → ℕ
support_row n cells i = λ j. noted_support n cells i j

-- block j is i itself, or has a support number above 0 in the row of i
abbrev pub reached : ℕ → (ℕ → ℕ) → ℕ → Bool
reached i s j = i == j || nat_lt 0 (s j)

-- the row of i is what its own numbers say: each counts the lines from blocks that the row shows as reached
abbrev pub Settled : {F : Type 0} → Meaning F → ℕ → (ℕ → ℕ) → Type 0
Settled m i s = (j : ℕ) → j < m.size → s j ≡ counted m (reached i s) j

-- the support numbers of row i are one more in `high` than in `low` where the test is passed, all others are the same,
-- and the blocks that pass it with 0 in `low` are newly marked
pub record Stepped {F : Type 0} (n i : ℕ) (p : ℕ → Bool) (low high : List (Cell F)) (before after : List Bool) : Type 0 where
  pub differ : (k j : ℕ) → k < n → j < n → noted_support n high k j ≡ noted_support n low k j + one (k == i && p j)
  pub marked : (j : ℕ) → j < n → slice_index_or after j false ≡ (slice_index_or before j false || (p j && noted_support n low i j == 0))

-- the support numbers of row i have stepped where the test is passed, and the blocks that turned are newly marked
abbrev pub SteppedBy : {F : Type 0} → Direction → ℕ → ℕ → (ℕ → Bool) → List (Cell F) → List (Cell F) → List Bool → List Bool → Type 0
SteppedBy down n i p before after marks marked = Stepped n i p after before marks marked
SteppedBy up n i p before after marks marked = Stepped n i p before after marks marked

-- the line to b is gone, and the number of b still counts it
pub record Lowerable {F : Type 0} (n i b : ℕ) (cells : List (Cell F)) : Type 0 where
  pub own : noted_support n cells i i ≡ 0
  pub balance : (j : ℕ) → j < n → noted_support n cells i j ≡ counted (cells_meaning n cells) (reached i (support_row n cells i)) j + one (j == b)

-- the line to b is there, and the number of b does not count it yet
pub record Raisable {F : Type 0} (n i b : ℕ) (cells : List (Cell F)) : Type 0 where
  pub circleless : Circleless (cells_meaning n cells)
  pub apart : reaches (cells_meaning n cells) b i ≡ false
  pub balance : (j : ℕ) → j < n → counted (cells_meaning n cells) (reached i (support_row n cells i)) j ≡ noted_support n cells i j + one (j == b)

abbrev pub Turnable : {F : Type 0} → Direction → ℕ → ℕ → ℕ → List (Cell F) → Type 0
Turnable down n i b cells = Lowerable n i b cells
Turnable up n i b cells = Raisable n i b cells

-- only support numbers have changed, and those of row i only
pub record Resupported {F : Type 0} (n i : ℕ) (before after : List (Cell F)) : Type 0 where
  pub scratched : Scratched n before after
  pub same_totals : totals after ≡ totals before
  pub same_rows : (k j : ℕ) → k < n → j < n → (k ≢ i) → noted_support n after k j ≡ noted_support n before k j

-- only totals have changed, and those of row i only
pub record Retotalled {F : Type 0} (r : Operations F) (n i : ℕ) (before after : List (Cell F)) : Type 0 where
  pub scratched : Scratched n before after
  pub same_supports : supports after ≡ supports before
  pub same_rows : (k j : ℕ) → k < n → j < n → (k ≢ i) → noted_total r n after k j ≡ noted_total r n before k j

-- the total of (i,j) and, added to it, what stands ahead times the total of (b,j)
abbrev pub with_chains : {F : Type 0} → Operations F → ℕ → List (Cell F) → ℕ → ℕ → F → ℕ → F
with_chains r n cells i b ahead j = r.add (noted_total r n cells i j) (r.mul ahead (noted_total r n cells b j))

-- in the columns below p that b reaches, the chains on from b are added to the totals of row i
abbrev pub Added : {F : Type 0} → Operations F → ℕ → ℕ → ℕ → F → ℕ → List (Cell F) → List (Cell F) → Type 0
Added r n i b ahead p before after =
    (j : ℕ) → j < n
    → noted_total r n after i j ≡ cond (nat_lt j p && reached b (support_row n before b) j) (with_chains r n before i b ahead j) (noted_total r n before i j)

-- row i holds the support numbers and the totals of the book m
pub record RowAnswered {F : Type 0} (r : Operations F) (m : Meaning F) (n i : ℕ) (cells : List (Cell F)) : Type 0 where
  pub supported : (j : ℕ) → j < n → noted_support n cells i j ≡ support m i j
  pub totalled : (j : ℕ) → j < n → noted_total r n cells i j ≡ total r m i j

-- the rows below p hold the support numbers, or the totals, of the book that the cells hold
abbrev pub Supported : {F : Type 0} → ℕ → ℕ → List (Cell F) → Type 0
Supported n p cells = (i j : ℕ) → i < n → j < n → i < p → noted_support n cells i j ≡ support (cells_meaning n cells) i j

abbrev pub Totalled : {F : Type 0} → Operations F → ℕ → ℕ → List (Cell F) → Type 0
Totalled r n p cells = (i j : ℕ) → i < n → j < n → i < p → noted_total r n cells i j ≡ total r (cells_meaning n cells) i j

-- the line (a,b) was one thing and is another now; the rows below p hold the numbers of the book as it is now, the others
-- still those of the book as it was
pub record HalfWorked {F : Type 0} (r : Operations F) (n a b : ℕ) (was is : Option F) (p : ℕ) (cells : List (Cell F)) : Type 0 where
  pub square : Square n cells
  pub upper : a < n
  pub lower : b < n
  pub line : (cells_meaning n cells).line a b ≡ is
  pub circleless_before : Circleless (with_line (cells_meaning n cells) a b was)
  pub circleless : Circleless (cells_meaning n cells)
  pub done : (i : ℕ) → i < n → i < p → RowAnswered r (cells_meaning n cells) n i cells
  pub left : (i : ℕ) → i < n → p ≤ i → RowAnswered r (with_line (cells_meaning n cells) a b was) n i cells

-- the same, shut: a loop over rows hands it on whole
unfoldable pub Working : {F : Type 0} → Operations F → ℕ → ℕ → ℕ → Option F → Option F → ℕ → List (Cell F) → Type 0
Working r n a b was is p cells = HalfWorked r n a b was is p cells
