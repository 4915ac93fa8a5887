-- What a book of the tariff answers to a question, and which lines it then has.
--   answer_of   the answer to each question, or its refusal
--   book_after  the book afterwards
use Rattle.std.specs.Prelude.{Result}
use Rattle.std.specs.Result.{result_flatten}
use Rattle.factors.specs.Whole.{whole_of, whole_operations}
use Rattle.factors.specs.declared.whole.Whole.{Whole}
use Rattle.books.specs.Graph.{Meaning}
use Rattle.books.specs.Calls.{entering, entered, striking, struck, reaching, supporting, needing, totalling}
use Rattle.books.specs.declared.fault.BookFault.{BookFault}
use Rattle.asking.specs.Answers.{told}
use Rattle.tariff.specs.Blocks.{block_number}
use Rattle.tariff.specs.declared.answer.Answer.{Answer}
use Rattle.tariff.specs.declared.answer.Answer.TheVariants.{Entered, Struck, Counts, Rests, Needed}
use Rattle.tariff.specs.declared.question.Question.{Question}
use Rattle.tariff.specs.declared.question.Question.TheVariants.{Enter, Strike, Count, Rest, Need}

abbrev pub answer_of : Meaning Whole → Question → Result Answer BookFault
answer_of m (Enter line) = told (λ done. Entered) (entering m (block_number line.upper) (block_number line.lower))
answer_of m (Strike pair) = told (λ done. Struck) (striking m (block_number pair.upper) (block_number pair.lower))
answer_of m (Count pair) =
    result_flatten (told
    (λ total. told (Counts total.value) (supporting m (block_number pair.upper) (block_number pair.lower)))
    (totalling m (block_number pair.upper) (block_number pair.lower) whole_operations))
answer_of m (Rest pair) = told Rests (reaching m (block_number pair.upper) (block_number pair.lower))
answer_of m (Need pair) = told Needed (needing m (block_number pair.upper) (block_number pair.lower))

-- only a line that is entered or struck changes the book
abbrev pub book_after : Meaning Whole → Question → Meaning Whole
book_after m (Enter line) = entered m (block_number line.upper) (block_number line.lower) (whole_of line.factor)
book_after m (Strike pair) = struck m (block_number pair.upper) (block_number pair.lower)
book_after m (Count pair) = m
book_after m (Rest pair) = m
book_after m (Need pair) = m
