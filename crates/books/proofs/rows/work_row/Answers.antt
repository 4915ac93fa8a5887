use Rattle.std.proofs.Common.{sym, refl, ◌∙◌, subst, arith}
use Rattle.books.specs.Walks.{noted_total}
use Rattle.books.specs.Rows.{line_before, line_after, line_added, Added, Working}
use Rattle.books.proofs.Fillings.{scratched_more}
use Rattle.books.proofs.RowWork.{done_supported, done_totalled, work_apart, work_passes, work_changed, work_turnable, work_mends}
use Rattle.books.proofs.rows.work_row.Goals as goal

pub reaches_at-requires : goal.reaches_at-requires
unfolding Working
reaches_at-requires g c = let work = c.requires.working in record { square = work.square; upper = c.requires.row; lower = work.upper }

pub add_chains-requires : goal.add_chains-requires
unfolding Working
add_chains-requires g c =
    let ring = g.F.Factor.ring in
    let n = c.args.n in
    let cells = c.args.cells.now in
    let f = c.args.factor in
    let d = g.C.Change.direction in
    let work = c.requires.working in
    let changed = work_changed ring n cells c.args.a c.args.b f d c.args.i work in
    record {
      square = work.square;
      row = c.requires.row;
      upper = work.upper;
      lower = work.lower;
      apart = work_apart ring n cells c.args.a c.args.b (line_before d f) (line_after d f) (line_added ring d f) changed c.args.i c.requires.row work (sym c.reaches_at.ensures ∙ c.if-reaches_at.true);
    }

pub turn_row-requires : goal.turn_row-requires
unfolding Working
turn_row-requires g c =
    let work = c.requires.working in
    record {
      square = record { small = work.square.small; room = omega (arith, work.square.room) };
      row = c.requires.row;
      lower = work.lower;
      starts = work_turnable g.F.Factor.ring c.args.n c.args.cells.now c.args.a c.args.b c.args.factor g.C.Change.direction c.args.i c.requires.row work (sym c.reaches_at.ensures ∙ c.if-reaches_at.true) c.add_chains.new.cells c.add_chains.ensures.rest;
    }

pub returns-then-reaches_at : goal.returns-then-reaches_at
unfolding Working
returns-then-reaches_at g c =
    let ring = g.F.Factor.ring in
    let r = ring.ops in
    let n = c.args.n in
    let i = c.args.i in
    let cells = c.args.cells.now in
    let f = c.args.factor in
    let d = g.C.Change.direction in
    let work = c.requires.working in
    let changed = work_changed ring n cells c.args.a c.args.b f d i work in
    let Adds : g.row.F.Denot → Type 0 = λ x. Added r n i c.args.b (r.mul (noted_total r n cells i c.args.a) x) n cells c.add_chains.new.cells in
    let more = work_mends ring n cells c.args.a c.args.b (line_before d f) (line_after d f) (line_added ring d f) changed i c.requires.row work (sym c.reaches_at.ensures ∙ c.if-reaches_at.true)
    c.add_chains.new.cells c.add_chains.ensures.rest c.turn_row.new.cells (omega (arith, work.square.room)) (subst Adds c.added.ensures c.add_chains.ensures.adds) c.turn_row.ensures.rest c.turn_row.ensures.settles in
    record {
      works = more;
      supported = done_supported r n c.args.a c.args.b (line_before d f) (line_after d f) _ _ more;
      totalled = done_totalled r n c.args.a c.args.b (line_before d f) (line_after d f) _ _ more;
      scratched = scratched_more c.add_chains.ensures.rest.scratched c.turn_row.ensures.rest.scratched;
    }

pub returns-else-reaches_at : goal.returns-else-reaches_at
unfolding Working
returns-else-reaches_at g c =
    let ring = g.F.Factor.ring in
    let r = ring.ops in
    let n = c.args.n in
    let cells = c.args.cells.now in
    let f = c.args.factor in
    let d = g.C.Change.direction in
    let work = c.requires.working in
    let changed = work_changed ring n cells c.args.a c.args.b f d c.args.i work in
    let more = work_passes ring n cells c.args.a c.args.b (line_before d f) (line_after d f) (line_added ring d f) changed c.args.i c.requires.row work (sym c.reaches_at.ensures ∙ c.if-reaches_at.false) in
    record {
      works = more;
      supported = done_supported r n c.args.a c.args.b (line_before d f) (line_after d f) _ _ more;
      totalled = done_totalled r n c.args.a c.args.b (line_before d f) (line_after d f) _ _ more;
      scratched = record { same_lines = refl; same_factors = refl; beyond = refl };
    }
