use Rattle.std.proofs.Common.{rules, replicate, refl, ap, ◌∙◌}
use Rattle.books.proofs.Openings.{made_alike}
use Rattle.books.proofs.square.fill.Goals as goal

pub returns : goal.returns
returns g c =
    let made = c.fill_with.ensures.ran in
    made_alike _ c.args.cell _ (λ x q called. search rules) c.fill_with.new.self _ made.0 refl made.1 ∙ ap (λ k. replicate k c.args.cell) (search rules)
