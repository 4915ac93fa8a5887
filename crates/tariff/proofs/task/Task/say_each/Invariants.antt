use Rattle.std.proofs.Common.{take}
use Rattle.std.specs.List.{FoldsTo}
use Rattle.tariff.proofs.task.Task.say_each.Given as goal

-- the questions so far have been put
abbrev pub invariant-loop-question : goal.invariant-loop-question
invariant-loop-question g l = FoldsTo g.T.Teller.asked l.initial.self.teller (take l.question-index l.questions) l.self.teller
