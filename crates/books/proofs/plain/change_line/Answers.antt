use Rattle.std.proofs.Common.{ap, ◌∙◌}
use Rattle.books.specs.Cells.{cells_meaning}
use Rattle.books.proofs.Changes.{relined_meaning, change_sound}
use Rattle.books.proofs.plain.change_line.Goals as goal

pub returns-clause-leaves : goal.returns-clause-leaves
returns-clause-leaves g c =
    let p = c.requires in
    ap (cells_meaning c.args.n) c.set_line.ensures
    ∙ relined_meaning g.F.Factor.ring.ops.zero c.args.n c.args.cells.now p.sound.square.room c.args.a c.args.b p.upper p.lower c.args.line

pub returns-clause-keeps : goal.returns-clause-keeps
returns-clause-keeps g c =
    let p = c.requires in
    change_sound g.F.Factor.ring.ops.zero c.args.n c.args.cells.now p.sound.square.room c.args.a c.args.b p.upper p.lower c.args.line p.sound
    c.set_line.new.cells c.set_line.ensures p.free
