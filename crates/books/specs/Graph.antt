-- What a book means: blocks, lines, chains, reach, supports, needed lines and totals.
--   Meaning     the size and the lines with their factors
--   with_line   a book with the line of one pair set anew
--   Bounded     lines go only between blocks
--   Chain       a list of lines, each starting where the one before ends
--   Reaches     a chain goes from one block to another
--   Circleless  no chain of one line or more leads back to its start
--   Lawful      the laws of every book
--   Free        a line that may be set
--   reaches, support, needed, walks, total   what the queries answer, worked out from the lines
use Rattle.std.specs.Prelude.{◌≡◌, ℕ, zero, suc, ◌+◌, ◌<◌, ◌≤◌, Bool, true, false, cond, not, ◌&&◌, ◌||◌, is_some, Some, None, Option, ◌==◌}
use Rattle.factors.specs.Ring.{Operations}

-- The blocks are the numbers below `size`. `line a b` is the factor of the line from the upper block a to the
-- lower block b, or nothing, so an ordered pair has at most one line.
pub record Meaning (F : Type 0) : Type 0 where
  pub size : ℕ
  pub line : ℕ → ℕ → Option F

-- the book with n blocks and no lines
abbrev pub no_lines : {F : Type 0} → ℕ → Meaning F
no_lines n = record { size = n; line = λ a b. None }

-- the same book, but for what stands at (a,b)
abbrev pub with_line : {F : Type 0} → Meaning F → ℕ → ℕ → Option F → Meaning F
with_line m a b o = record { size = m.size; line = λ i j. cond (i == a && j == b) o (m.line i j) }

-- a line stands at (a,b)
abbrev pub stands : {F : Type 0} → Meaning F → ℕ → ℕ → Bool
stands m a b = is_some (m.line a b)

-- lines go only between blocks
abbrev pub Bounded : {F : Type 0} → Meaning F → Type 0
Bounded m = (a b : ℕ) → stands m a b ≡ true → (a < m.size) × (b < m.size)

-- a chain of k lines from a to b; the empty chain goes from each block to itself
pub data Chain {F : Type 0} (m : Meaning F) : ℕ → ℕ → ℕ → Type 0 where
  empty : {a : ℕ} → Chain m 0 a a
  then : {k a b c : ℕ} → stands m a b ≡ true → Chain m k b c → Chain m (suc k) a c

-- block a reaches b
abbrev pub Reaches : {F : Type 0} → Meaning F → ℕ → ℕ → Type 0
Reaches m a b = (k : ℕ) × Chain m k a b

-- no circle: no chain, not empty, goes from a block to itself
abbrev pub Circleless : {F : Type 0} → Meaning F → Type 0
Circleless m = (k a : ℕ) → Chain m (suc k) a a → ⊥

-- the laws of every book: at most 64 blocks, lines only between blocks, no circle
pub record Lawful {F : Type 0} (m : Meaning F) : Type 0 where
  pub small : m.size ≤ 64
  pub bounded : Bounded m
  pub acyclic : Circleless m

-- some number below n passes the test
abbrev pub any_below : ℕ → (ℕ → Bool) → Bool
any_below zero p = false
any_below (suc n) p = p n || any_below n p

-- how many numbers below n pass the test
abbrev pub count_below : ℕ → (ℕ → Bool) → ℕ
count_below zero p = 0
count_below (suc n) p = cond (p n) 1 0 + count_below n p

-- a chain of at most k lines goes from a to b
abbrev pub reaches_within : {F : Type 0} → Meaning F → ℕ → ℕ → ℕ → Bool
reaches_within m zero a b = a == b
reaches_within m (suc k) a b = a == b || any_below m.size (λ c. stands m a c && reaches_within m k c b)

-- block a reaches b: no chain of a circleless book has as many lines as there are blocks
unfoldable pub reaches : {F : Type 0} → Meaning F → ℕ → ℕ → Bool
reaches m a b = reaches_within m m.size a b

-- a line may be set at (a,b) if b does not reach a, so that it closes no circle; to set none is always allowed
abbrev pub Free : {F : Type 0} → Meaning F → ℕ → ℕ → Option F → Type 0
Free m a b (Some f) = reaches m b a ≡ false
Free m a b None = Unit {0}

-- the support number of (a,b): how many lines (l,b) there are for which a reaches l
unfoldable pub support : {F : Type 0} → Meaning F → ℕ → ℕ → ℕ
support m a b = count_below m.size (λ l. stands m l b && reaches m a l)

-- a chain of two lines or more goes from a to b: over a line to c, another to d, and on from there
unfoldable pub detour : {F : Type 0} → Meaning F → ℕ → ℕ → Bool
detour m a b = any_below m.size (λ c. any_below m.size (λ d. stands m a c && (stands m c d && reaches m d b)))

-- the line (a,b) is needed: it stands, and no chain of two lines or more goes from a to b
unfoldable pub needed : {F : Type 0} → Meaning F → ℕ → ℕ → Bool
needed m a b = stands m a b && not (detour m a b)

module _ {F : Type 0} (r : Operations F) where
  -- the sum of f k for k below n, in rising order, starting from zero
  abbrev pub sum_below : ℕ → (ℕ → F) → F
  sum_below zero f = r.zero
  sum_below (suc n) f = r.add (sum_below n f) (f n)

  -- a line's factor times x; no line adds nothing
  abbrev pub along : Option F → F → F
  along (Some f) x = r.mul f x
  along None x = r.zero

  -- W(k,a,b): the sum over all chains of k lines from a to b of the product of their factors
  unfoldable pub walks : Meaning F → ℕ → ℕ → ℕ → F
  walks m zero a b = cond (a == b) r.one r.zero
  walks m (suc k) a b = sum_below m.size (λ c. along (m.line a c) (walks m k c b))

  -- T(a,b): the total over all chains from a to b
  unfoldable pub total : Meaning F → ℕ → ℕ → F
  total m a b = sum_below m.size (λ k. walks m k a b)
