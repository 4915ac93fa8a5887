use Rattle.std.proofs.Common.{Bool, true, List, set, sym, subst₂}
use Rattle.books.specs.Cells.{cells_meaning}
use Rattle.books.proofs.Searches.{Searched, search_starts, search_visits, search_ends}
use Rattle.books.specs.Cells.{cells_bounded}
use Rattle.books.proofs.search.search.Goals as goal

pub loop-l-init : goal.loop-l-init
loop-l-init g c =
    let m = cells_meaning c.args.n c.args.cells.now in
    let Start : List Bool → List Bool → Type 0 = λ seen visited. Searched m c.args.a (set seen c.args.a true) visited in
    subst₂ Start (sym c.no_marks-seen.ensures) (sym c.no_marks-visited.ensures)
    (search_starts m c.args.a c.requires.square.small c.requires.block)

pub loop-l-preserved : goal.loop-l-preserved
loop-l-preserved g c =
    let picked = c.in-Some.ensures in
    search_visits (cells_meaning c.args.n c.args.cells.now) c.args.a c.loop-l.seen c.loop-l.visited c.loop-l.invariant c.in-Some.l picked.0
    c.requires.block c.mark_lower.new.seen c.mark_lower.auto.seen picked.1 c.mark_lower.ensures

pub returns : goal.returns
returns g c =
    search_ends (cells_meaning c.args.n c.args.cells.now) c.args.a (cells_bounded c.args.n c.args.cells.now) c.requires.circleless c.loop-l.seen c.loop-l.visited c.loop-l.invariant c.in_default.ensures
