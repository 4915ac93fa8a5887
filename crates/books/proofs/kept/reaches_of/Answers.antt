use Rattle.std.proofs.Common.{◌∙◌}
use Rattle.books.proofs.KeptCells.{kept_reaches}
use Rattle.books.proofs.kept.reaches_of.Goals as goal

pub returns : goal.returns
returns g c =
    let p = c.requires in
    c.reaches_at.ensures ∙ kept_reaches g.F.Factor.ring.ops c.args.n c.args.cells.now p.sound c.args.a c.args.b p.upper p.lower
