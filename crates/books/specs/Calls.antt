-- What each call of a book answers and which lines it leaves, with the refusals in the order in which they are tested.
--   entering, striking, .. the answers of the two changes, and of the five queries
--   entered, struck        the book afterwards
--   Effect                 a change, a query, or a refused call
--   fault_number, size_fault_number   the numbers that refusals are reported by
use Rattle.std.specs.Prelude.{ℕ, ◌*◌, Bool, cond, not, ◌&&◌, ◌||◌, Some, None, Ok, Err, Option, Result, ◌==◌, nat_lt}
use Rattle.factors.specs.Ring.{Operations}
use Rattle.books.specs.Graph.{Meaning, with_line, stands, reaches, support, needed, total}
use Rattle.books.specs.declared.fault.BookFault.{BookFault}
use Rattle.books.specs.declared.fault.BookFault.TheVariants.{NoBlock, SameBlock, LineStands, Circle, NoLine}
use Rattle.books.specs.declared.fault.SizeFault.{SizeFault}
use Rattle.books.specs.declared.fault.SizeFault.TheVariants.{SizeOutOfRange, TooFewCells}

-- refused with this fault if the test holds, and otherwise as what follows says
abbrev pub refuse : {X E : Type 0} → Bool → E → Result X E → Result X E
refuse t e r = cond t (Err e) r

-- one value where an answer is granted, another where it is refused
abbrev pub granted : {X E Y : Type 0} → Result X E → Y → Y → Y
granted (Ok x) y z = y
granted (Err e) y z = z

-- how a call ends, as far as it concerns what a book holds beside its meaning
pub data Effect : Type 0 where
  changing : Effect
  querying : Effect
  refusing : Effect

-- a change that is granted, or one that is refused
abbrev pub change_effect : {X E : Type 0} → Result X E → Effect
change_effect (Ok x) = changing
change_effect (Err e) = refusing

-- a query that is granted, or one that is refused
abbrev pub query_effect : {X E : Type 0} → Result X E → Effect
query_effect (Ok x) = querying
query_effect (Err e) = refusing

-- a or b is no block
abbrev pub outside : {F : Type 0} → Meaning F → ℕ → ℕ → Bool
outside m a b = not (nat_lt a m.size && nat_lt b m.size)

-- the size and the cells that a book is opened with
abbrev pub sizing : ℕ → ℕ → Result Unit SizeFault
sizing n cells = refuse (n == 0 || nat_lt 64 n) SizeOutOfRange (refuse (nat_lt cells (n * n)) TooFewCells (Ok tt))

-- the size that a book then has
abbrev pub opened_size : ℕ → ℕ → ℕ
opened_size n cells = granted (sizing n cells) n 0

module _ {F : Type 0} (m : Meaning F) (a b : ℕ) where
  abbrev pub entering : Result Unit BookFault
  entering =
      refuse (outside m a b) NoBlock
      (refuse (a == b) SameBlock (refuse (stands m a b) LineStands (refuse (reaches m b a) Circle (Ok tt))))

  -- granted it adds that line and no other
  abbrev pub entered : F → Meaning F
  entered f = granted entering (with_line m a b (Some f)) m

  abbrev pub striking : Result Unit BookFault
  striking = refuse (outside m a b) NoBlock (refuse (not (stands m a b)) NoLine (Ok tt))

  -- granted it removes that line only
  abbrev pub struck : Meaning F
  struck = granted striking (with_line m a b None) m

  -- the factor of a line that stands
  abbrev pub line_or_fault : Option F → Result F BookFault
  line_or_fault (Some f) = Ok f
  line_or_fault None = Err NoLine

  abbrev pub factoring : Result F BookFault
  factoring = refuse (outside m a b) NoBlock (line_or_fault (m.line a b))

  abbrev pub reaching : Result Bool BookFault
  reaching = refuse (outside m a b) NoBlock (Ok (reaches m a b))

  abbrev pub supporting : Result ℕ BookFault
  supporting = refuse (outside m a b) NoBlock (Ok (support m a b))

  abbrev pub needing : Result Bool BookFault
  needing = refuse (outside m a b) NoBlock (refuse (not (stands m a b)) NoLine (Ok (needed m a b)))

  abbrev pub totalling : Operations F → Result F BookFault
  totalling r = refuse (outside m a b) NoBlock (Ok (total r m a b))

abbrev pub fault_number : BookFault → ℕ
fault_number NoBlock = 1
fault_number SameBlock = 2
fault_number LineStands = 3
fault_number Circle = 4
fault_number NoLine = 5

abbrev pub size_fault_number : SizeFault → ℕ
size_fault_number SizeOutOfRange = 16
size_fault_number TooFewCells = 17
