-- A chain where reach is computed, and the other way round.
use Rattle.books.proofs.Chains.{reaches_decides}
use Rattle.books.proofs.laws.reach_is_a_chain.Goals as goal

pub returns : goal.returns
returns g c = reaches_decides
