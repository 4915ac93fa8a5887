-- What a book answers to a call, by its code where it answers a factor, and which lines it then has.
--   answer_of   the answer to each call, or its refusal
--   book_after  the book afterwards
--   pair_of     the two numbers that a call is about
--   Within      two numbers up to a size
use Rattle.std.specs.Prelude.{ℕ, ◌≤◌, Result}
use Rattle.factors.specs.Ring.{Operations}
use Rattle.factors.specs.Coding.{Coding}
use Rattle.books.specs.Graph.{Meaning}
use Rattle.books.specs.Calls.{entering, entered, striking, struck, factoring, reaching, supporting, needing, totalling}
use Rattle.books.specs.declared.fault.BookFault.{BookFault}
use Rattle.asking.specs.Answers.{told}
use Rattle.asking.specs.declared.pair.Pair.{Pair}
use Rattle.comparison.specs.declared.answer.Answer.{Answer}
use Rattle.comparison.specs.declared.answer.Answer.TheVariants.{Entered, Struck, Holds, Support, Code}
use Rattle.comparison.specs.declared.call.Call.{Call}
use Rattle.comparison.specs.declared.call.Call.TheVariants.{Enter, Strike, Factor, Reach, Support as AskSupport, Need, Total}

abbrev pub answer_of : {F : Type 0} → Operations F → Coding F → Meaning F → Call F → Result Answer BookFault
answer_of r c m (Enter pair factor) = told (λ done. Entered) (entering m pair.upper pair.lower)
answer_of r c m (Strike pair) = told (λ done. Struck) (striking m pair.upper pair.lower)
answer_of r c m (Factor pair) = told (λ factor. Code (c.code factor)) (factoring m pair.upper pair.lower)
answer_of r c m (Reach pair) = told Holds (reaching m pair.upper pair.lower)
answer_of r c m (AskSupport pair) = told Support (supporting m pair.upper pair.lower)
answer_of r c m (Need pair) = told Holds (needing m pair.upper pair.lower)
answer_of r c m (Total pair) = told (λ total. Code (c.code total)) (totalling m pair.upper pair.lower r)

-- only a line that is entered or struck changes the book
abbrev pub book_after : {F : Type 0} → Meaning F → Call F → Meaning F
book_after m (Enter pair factor) = entered m pair.upper pair.lower factor
book_after m (Strike pair) = struck m pair.upper pair.lower
book_after m (Factor pair) = m
book_after m (Reach pair) = m
book_after m (AskSupport pair) = m
book_after m (Need pair) = m
book_after m (Total pair) = m

abbrev pub pair_of : {F : Type 0} → Call F → Pair ℕ
pair_of (Enter pair factor) = pair
pair_of (Strike pair) = pair
pair_of (Factor pair) = pair
pair_of (Reach pair) = pair
pair_of (AskSupport pair) = pair
pair_of (Need pair) = pair
pair_of (Total pair) = pair

abbrev pub Within : ℕ → Pair ℕ → Type 0
Within size pair = (pair.upper ≤ size) × (pair.lower ≤ size)
