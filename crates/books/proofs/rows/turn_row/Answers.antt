use Rattle.std.proofs.Common.{◌≤◌, length, ap, arith}
use Rattle.std.proofs.lemmas.List.{length-set}
use Rattle.books.proofs.RowChanges.{first_steppable, turning_starts, turning_turns, turning_falls, turning_steppable, turning_places, turning_rest, turning_ends}
use Rattle.books.proofs.Steps.{stepped_once, set_rest, resupported_more}
use Rattle.books.proofs.rows.turn_row.Goals as goal

pub step_support-requires : goal.step_support-requires
step_support-requires g c = record {
  square = c.requires.square;
  row = c.requires.row;
  column = c.requires.lower;
  room = omega (arith, ap length c.no_marks-marks.ensures);
  steppable = first_steppable c.args.n c.args.i c.args.b c.args.cells.now g.C.Change.direction c.requires.square.small c.requires.lower c.requires.starts;
}

pub loop-l-init : goal.loop-l-init
loop-l-init g c =
    let n = c.args.n in
    let cells = c.args.cells.now in
    let p = c.requires in
    let d = g.C.Change.direction in
    let zero = g.F.Factor.ring.ops.zero in
    let done = c.step_support in
    let none = c.no_marks-marks.result in
    let places : n ≤ length none = omega (arith, ap length c.no_marks-marks.ensures) in
    turning_starts n c.args.i c.args.b cells d p.square.small p.row done.new.cells none done.new.marks c.no_marks-marks.ensures done.auto.marks
    (set_rest n cells p.square.room c.args.i c.args.b p.row p.lower zero none places done.new.cells done.new.marks _ done.ensures.steps)
    p.starts
    (stepped_once n cells p.square.room c.args.i c.args.b p.row p.lower zero none places done.new.cells done.new.marks d (first_steppable n c.args.i c.args.b cells d p.square.small p.lower p.starts) done.ensures.steps done.ensures.turns)

pub turn_block-requires : goal.turn_block-requires
turn_block-requires g c =
    let now = c.loop-l in
    let picked = c.in-Some.ensures in
    record {
      square = record { small = c.requires.square.small; room = omega arith };
      row = c.requires.row;
      block = picked.0;
      room = simp length-set (omega (arith, turning_places _ _ _ _ _ _ g.C.Change.direction now.invariant));
      steppable = turning_steppable c.args.n c.args.i c.args.b _ now.cells now.marks g.C.Change.direction c.requires.square.small now.invariant c.in-Some.l picked.0 picked.1;
    }

pub loop-l-smaller : goal.loop-l-smaller
loop-l-smaller g c =
    let now = c.loop-l in
    let picked = c.in-Some.ensures in
    turning_falls c.args.n c.args.i c.requires.square.small c.requires.row _ now.cells c.turn_block.new.cells now.marks c.turn_block.new.marks c.in-Some.l picked.0 picked.1 c.turn_block.auto.marks c.turn_block.ensures.rest c.args.b g.C.Change.direction now.invariant c.turn_block.ensures.steps

pub loop-l-preserved : goal.loop-l-preserved
loop-l-preserved g c =
    let now = c.loop-l in
    let picked = c.in-Some.ensures in
    turning_turns c.args.n c.args.i c.requires.square.small c.requires.row _ now.cells c.turn_block.new.cells now.marks c.turn_block.new.marks c.in-Some.l picked.0 picked.1 c.turn_block.auto.marks c.turn_block.ensures.rest c.args.b g.C.Change.direction now.invariant c.turn_block.ensures.steps

pub returns : goal.returns
returns g c =
    let n = c.args.n in
    let p = c.requires in
    let d = g.C.Change.direction in
    let done = c.step_support in
    let none = c.no_marks-marks.result in
    let places : n ≤ length none = omega (arith, ap length c.no_marks-marks.ensures) in
    let first = set_rest n c.args.cells.now p.square.room c.args.i c.args.b p.row p.lower g.F.Factor.ring.ops.zero none places done.new.cells done.new.marks _ done.ensures.steps in
    record {
      settles = turning_ends n c.args.i c.args.cells.now done.new.cells c.loop-l.cells c.loop-l.marks first c.in_default.ensures c.args.b d c.loop-l.invariant;
      rest = resupported_more n first (turning_rest n c.args.i c.args.b done.new.cells c.loop-l.cells c.loop-l.marks d c.loop-l.invariant);
    }
