-- A run with no call yet, and with one more.
use Rattle.std.proofs.Common.{◌≡◌, ℕ, ◌+◌, Result, sym, ap, ◌∙◌, subst, subst₂}
use Rattle.factors.specs.Ring.{Operations}
use Rattle.factors.specs.Coding.{Coding}
use Rattle.books.specs.Graph.{Meaning}
use Rattle.books.specs.declared.fault.BookFault.{BookFault}
use Rattle.comparison.specs.Answers.{answer_of, book_after}
use Rattle.comparison.specs.Counts.{no_answers, tallying}
use Rattle.comparison.specs.Runs.{Tallied}
use Rattle.comparison.specs.Runs.Tallied.{begun, called}
use Rattle.comparison.specs.declared.answer.Answer.{Answer}
use Rattle.comparison.specs.declared.call.Call.{Call}
use Rattle.comparison.specs.declared.tally.Tally.{Tally}

module _ {F : Type 0} (r : Operations F) (c : Coding F) (first : Meaning F) where
  pub tallied_none : (t : Tally) → t ≡ no_answers → Tallied r c first 0 first t
  tallied_none t none = subst (Tallied r c first 0 first) (sym none) begun

  pub tallied_more : (k : ℕ) (m after : Meaning F) (t more : Tally) (call : Call F) (answer : Result Answer BookFault)
      → Tallied r c first k m t → answer ≡ answer_of r c m call → after ≡ book_after m call → more ≡ tallying t answer
      → Tallied r c first (k + 1) after more
  tallied_more k m after t more call answer tallied answers leaves counts =
      subst₂ (Tallied r c first (k + 1)) (sym leaves) (sym (counts ∙ ap (tallying t) answers)) (called call tallied)
