use Rattle.std.proofs.Common.{arith}
use Rattle.books.proofs.AddedChains.{added_more}
use Rattle.books.proofs.rows.add_chains.Goals as goal

pub loop-j-preserved : goal.loop-j-preserved
loop-j-preserved g c =
    let now = c.loop-j in
    added_more g.F.Factor.ring.ops c.args.n c.args.i c.args.b c.multiply-ahead.result c.requires.row c.requires.lower c.requires.apart now.j c.loop-j-test.true
    c.args.cells.now now.cells c.add_chain.new.cells (omega arith) now.invariant.0 now.invariant.1 c.add_chain.ensures.adds c.add_chain.ensures.leaves
