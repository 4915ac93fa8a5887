use Rattle.std.proofs.Common.{◌*◌, ◌≤◌, length, arith}
use Rattle.books.proofs.KeptOpening.{ones_more}
use Rattle.books.proofs.kept.set_ones.Goals as goal

pub loop-i-preserved : goal.loop-i-preserved
loop-i-preserved g c =
    let r = g.F.Factor.ring.ops in
    let n = c.args.n in
    let now = c.loop-i in
    let room : n * n ≤ length now.cells = omega (arith, c.requires.room) in
    ones_more r n now.i c.loop-i-test.true c.args.cells.now now.cells c.set_total.new.cells c.one.result c.one.ensures room c.set_total.ensures now.invariant
