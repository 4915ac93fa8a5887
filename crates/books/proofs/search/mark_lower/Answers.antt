use Rattle.std.proofs.Common.{arith}
use Rattle.std.proofs.lemmas.Grind.{common_steps}
use Rattle.books.proofs.search.mark_lower.Goals as goal
use Rattle.books.proofs.search.mark_lower.Goals.{then-is_some, else-is_some}

pub loop-j-preserved : goal.loop-j-preserved
loop-j-preserved g c =
    let was = c.loop-j.invariant in
    elim c.if-is_some.branch [
      | then-is_some w ↦ (λ k below. grind (arith, common_steps, was.0 k, was.1 k), λ k above. grind (arith, common_steps, was.1 k))
      | else-is_some w ↦ (λ k below. grind (arith, common_steps, was.0 k, was.1 k), λ k above. grind (arith, common_steps, was.1 k))
    ]
