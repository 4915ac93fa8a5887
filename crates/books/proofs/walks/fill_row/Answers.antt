use Rattle.std.proofs.Common.{arith}
use Rattle.books.proofs.Fillings.{filled_more}
use Rattle.books.proofs.walks.fill_row.Goals as goal

pub loop-a-preserved : goal.loop-a-preserved
loop-a-preserved g c =
    let now = c.loop-a in
    filled_more g.F.Factor.ring c.args.n c.args.b c.args.cells.now now.cells c.set_total.new.cells c.args.k now.a c.walks_of-walks.result
    (omega (arith, c.requires.square.room, now.auto.cells)) c.requires.row c.loop-a-test.true c.walks_of-walks.ensures c.set_total.ensures now.invariant
