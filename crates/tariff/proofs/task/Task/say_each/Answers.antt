use Rattle.std.proofs.Common.{List, sym, subst}
use Rattle.std.specs.List.{FoldsTo}
use Rattle.std.proofs.lemmas.List.{take_more}
use Rattle.std.proofs.lemmas.Fn.{FoldsTo-push}
use Rattle.tariff.specs.declared.question.Question.{Question}
use Rattle.tariff.proofs.task.Task.say_each.Goals as goal

pub loop-question-preserved : goal.loop-question-preserved
loop-question-preserved g c =
    let now = c.loop-question in
    let Put : List Question → Type 0 = λ questions. FoldsTo g.T.Teller.asked c.args.self.now.teller questions c.say.new.self in
    subst Put (sym (take_more c.args.questions.now now.question-index _ c.loop-question-test.true)) (FoldsTo-push g.T.Teller.asked _ _ now.self.teller _ c.say.new.self now.invariant c.say.ensures)
