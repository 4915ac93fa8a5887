use Rattle.std.proofs.Common.{ℕ, ◌+◌, Bool, List, sym, ◌∙◌, subst, subst₂, arith}
use Rattle.books.specs.Graph.{stands}
use Rattle.books.specs.Cells.{cells_meaning}
use Rattle.books.specs.Rows.{Steppable}
use Rattle.books.specs.declared.cell.Cell.{Cell}
use Rattle.books.proofs.Squares.{line_stood}
use Rattle.books.proofs.Steps.{SteppedUpto, step_more, stepped_left, stepped_passed}
use Rattle.books.proofs.rows.turn_block.Goals as goal
use Rattle.books.proofs.rows.turn_block.Goals.{then-is_some, else-is_some}

pub loop-j-preserved : goal.loop-j-preserved
loop-j-preserved g c =
    let n = c.args.n in
    let start = c.args.cells.now in
    let now = c.loop-j in
    let d = g.C.Change.direction in
    let test : ℕ → Bool = stands (cells_meaning n start) c.args.l in
    let Next : List (Cell g.row.F.Denot) → List Bool → Type 0 = SteppedUpto d n c.args.i test (now.j + 1) start c.args.marks.now in
    let line = line_stood n start now.cells now.invariant.1.scratched.same_lines c.args.l now.j c.line_at.result c.line_at.ensures in
    let left = stepped_left n c.args.i c.requires.row test start now.cells c.args.marks.now now.marks now.j d now.invariant.0 c.loop-j-test.true in
    elim c.if-is_some.branch [
      | then-is_some w ↦
          step_more d n c.args.i c.requires.row test now.j c.loop-j-test.true g.F.Factor.ring.ops.zero start now.cells c.if-is_some.cells c.args.marks.now now.marks c.if-is_some.marks (omega arith) (omega arith) (line ∙ sym w.if-is_some.ensures)
          (subst (Steppable d) (sym left) (c.requires.steppable now.j c.loop-j-test.true (line ∙ sym w.if-is_some.ensures))) now.invariant
          (w.cells-is ∙ w.step_support.ensures.steps) (w.marks-is ∙ w.step_support.ensures.turns)
      | else-is_some w ↦
          subst₂ Next (sym w.cells-is) (sym w.marks-is)
          (stepped_passed n c.args.i c.requires.row test start now.cells c.args.marks.now now.marks now.j d now.invariant.0 (line ∙ sym w.if-is_some.ensures), now.invariant.1)
    ]
