use Rattle.std.proofs.Common.{◌≡◌, ℕ, ◌<◌, true, false, slice_index_or, rules, tests}
use Rattle.std.proofs.lemmas.Iterator.{first_from_Range}
use Rattle.books.proofs.Searches.{found_below}
use Rattle.books.proofs.search.next_block.Goals as goal

pub returns : goal.returns
returns c =
    let seen = c.args.seen.now in
    let visited = c.args.visited.now in
    let Next : ℕ → Type 0 = λ l. (slice_index_or seen l false ≡ true) × (slice_index_or visited l false ≡ false) in
    let Past : ℕ → Type 0 = λ l. slice_index_or seen l false ≡ true → slice_index_or visited l false ≡ true in
    found_below c.args.n Next Past (λ l. (l < c.args.n) × (slice_index_or seen l false ≡ true) × (slice_index_or visited l false ≡ false)) c.find.result
    (λ l below next. (below, next.0, next.1))
    (first_from_Range _ _ _ _ Next Past c.find.ensures.ran
    (λ l q passes. search (rules, tests))
    (λ l q fails. (search (rules, tests), search (rules, tests))))
