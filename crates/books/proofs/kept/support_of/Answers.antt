use Rattle.std.proofs.Common.{ℕ, eqb, sym, ap, ◌∙◌}
use Rattle.books.proofs.KeptCells.{kept_needs}
use Rattle.books.proofs.kept.support_of.Goals as goal

pub returns-clause-needs : goal.returns-clause-needs
returns-clause-needs g c line =
    let p = c.requires in
    kept_needs g.F.Factor.ring.ops c.args.n c.args.cells.now p.sound c.args.a c.args.b p.upper p.lower line ∙ ap (λ (s : ℕ). eqb s 1) (sym c.support_at.ensures)
