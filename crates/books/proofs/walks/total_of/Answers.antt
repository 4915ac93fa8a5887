use Rattle.std.proofs.Common.{◌∙◌}
use Rattle.books.specs.Walks.{noted_total}
use Rattle.books.proofs.Fillings.{filled_total}
use Rattle.books.proofs.Sums.{sum_range}
use Rattle.books.proofs.walks.total_of.Goals as goal

pub returns-clause-answers : goal.returns-clause-answers
returns-clause-answers g c =
    let ring = g.F.Factor.ring in
    let n = c.args.n in
    let cells = c.fill_rows.new.cells in
    c.sum_rows.ensures
    ∙ sum_range ring.ops (λ k. noted_total ring.ops n cells k c.args.a) n
    ∙ filled_total ring n c.args.b c.args.cells.now cells c.args.a c.requires.block c.fill_rows.ensures.filled
