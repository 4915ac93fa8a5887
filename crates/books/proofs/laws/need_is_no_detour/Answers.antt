-- A needed line against the chains of two lines or more.
use Rattle.books.proofs.Chains.{needed_decides}
use Rattle.books.proofs.laws.need_is_no_detour.Goals as goal

pub returns : goal.returns
returns g c = needed_decides
