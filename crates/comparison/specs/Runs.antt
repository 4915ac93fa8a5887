-- A run of calls to one book, each answered by the lines that the calls before it left, and the answers counted.
--   Tallied  the lines and the tally after so many calls
use Rattle.std.specs.Prelude.{ℕ, ◌+◌}
use Rattle.factors.specs.Ring.{Operations}
use Rattle.factors.specs.Coding.{Coding}
use Rattle.books.specs.Graph.{Meaning}
use Rattle.comparison.specs.Answers.{answer_of, book_after}
use Rattle.comparison.specs.Counts.{no_answers, tallying}
use Rattle.comparison.specs.declared.call.Call.{Call}
use Rattle.comparison.specs.declared.tally.Tally.{Tally}

pub data Tallied {F : Type 0} (r : Operations F) (c : Coding F) (first : Meaning F) : ℕ → Meaning F → Tally → Type 0 where
  begun : Tallied r c first 0 first no_answers
  called : {k : ℕ} {m : Meaning F} {t : Tally} (call : Call F) → Tallied r c first k m t
      → Tallied r c first (k + 1) (book_after m call) (tallying t (answer_of r c m call))
