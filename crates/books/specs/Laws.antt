-- What the answers of a book mean: laws that hold in every book whose lines go between blocks and close no circle.
--   Counted       how many numbers below a bound have a property
--   ReachLaw      reach is a chain of lines
--   SupportLaw    support numbers count lines
--   NeedLaw       a needed line has no chain of two lines or more beside it
--   TotalLaw      totals go on along each line from the upper block
use Rattle.std.specs.Prelude.{◌≡◌, ℕ, suc, ◌<◌, true, cond, Decides, ◌==◌}
use Rattle.factors.specs.Ring.{Operations}
use Rattle.books.specs.Graph.{Meaning, stands, Bounded, Chain, Reaches, Circleless, reaches, support, needed, sum_below, along, total}

-- of the numbers below n, just k have the property P
pub data Counted (P : ℕ → Type 0) : ℕ → ℕ → Type 0 where
  none : Counted P 0 0
  counted : {n k : ℕ} → P n → Counted P n k → Counted P (suc n) (suc k)
  passed : {n k : ℕ} → (P n → ⊥) → Counted P n k → Counted P (suc n) k

-- a reaches b, as it is worked out, just if some chain of lines goes from a to b
abbrev pub ReachLaw : Type 0 → Type 0
ReachLaw F = (m : Meaning F) → Bounded m → Circleless m → (a b : ℕ) → Decides (reaches m a b) (Reaches m a b)

-- the support number of (a,b) is the number of blocks l that have a line to b and that a chain leads to from a
abbrev pub SupportLaw : Type 0 → Type 0
SupportLaw F =
    (m : Meaning F) → Bounded m → Circleless m → (a b : ℕ)
    → Counted (λ l. (stands m l b ≡ true) × Reaches m a l) m.size (support m a b)

-- the line (a,b) is needed just if it stands and no chain of two lines or more goes from a to b
abbrev pub NeedLaw : Type 0 → Type 0
NeedLaw F =
    (m : Meaning F) → Bounded m → Circleless m → (a b : ℕ)
    → Decides (needed m a b) ((stands m a b ≡ true) × ((k : ℕ) → Chain m (suc (suc k)) a b → ⊥))

-- the total of (a,b) is one if a is b, and zero if not, plus for each line (a,c) its factor times the total of (c,b)
abbrev pub TotalLaw : {F : Type 0} → Operations F → Type 0
TotalLaw {F} r =
    (m : Meaning F) → Bounded m → Circleless m → (a b : ℕ) → a < m.size
    → total r m a b ≡ r.add (cond (a == b) r.one r.zero) (sum_below r m.size (λ c. along r (m.line a c) (total r m c b)))
