use Rattle.std.proofs.Common.{◌≡◌, ◌+◌, ◌*◌, ◌≤◌, List, length, Option, sym, ap, ◌∙◌, subst₂, arith}
use Rattle.books.specs.Cells.{relined}
use Rattle.books.specs.Rows.{line_after, HalfWorked, Working}
use Rattle.books.specs.declared.cell.Cell.{Cell}
use Rattle.books.proofs.Changes.{free_circleless}
use Rattle.books.proofs.KeptCells.{relined_works, worked_meaning, worked_beyond, worked_kept}
use Rattle.books.proofs.kept.change_line.Goals as goal

pub work_rows-requires : goal.work_rows-requires
unfolding Working
work_rows-requires g c =
    let r = g.F.Factor.ring.ops in
    let n = c.args.n in
    let cells = c.args.cells.now in
    let p = c.requires in
    let is = line_after g.C.Change.direction c.args.factor in
    let lined : c.set_line.new.cells ≡ relined r.zero cells (c.args.a * n + c.args.b) is = c.set_line.ensures ∙ ap (relined r.zero cells (c.args.a * n + c.args.b)) c.line.ensures in
    let Work : Option g.row.F.Denot → List (Cell g.row.F.Denot) → Type 0 = λ before now. HalfWorked r n c.args.a c.args.b before is 0 now in
    subst₂ Work p.line (sym lined) (relined_works r n cells p.sound c.args.a c.args.b p.upper p.lower is (free_circleless n cells c.args.a c.args.b is p.sound.circleless p.free))

pub returns : goal.returns
returns g c =
    let r = g.F.Factor.ring.ops in
    let n = c.args.n in
    let cells = c.args.cells.now in
    let p = c.requires in
    let is = line_after g.C.Change.direction c.args.factor in
    let lined : c.set_line.new.cells ≡ relined r.zero cells (c.args.a * n + c.args.b) is = c.set_line.ensures ∙ ap (relined r.zero cells (c.args.a * n + c.args.b)) c.line.ensures in
    let closes = free_circleless n cells c.args.a c.args.b is p.sound.circleless p.free in
    let done = c.work_rows in
    let room : n * n ≤ length done.new.cells = omega (arith, p.sound.square.room) in
    record {
      leaves = worked_meaning r n cells p.sound c.args.a c.args.b p.upper p.lower is closes c.set_line.new.cells done.new.cells lined done.ensures.scratched room;
      keeps = worked_kept r n cells p.sound c.args.a c.args.b p.upper p.lower is closes c.set_line.new.cells done.new.cells lined done.ensures.scratched room done.ensures.supported done.ensures.totalled;
      same = worked_beyond r n cells p.sound c.args.a c.args.b p.upper p.lower is closes c.set_line.new.cells done.new.cells lined done.ensures.scratched room;
    }
