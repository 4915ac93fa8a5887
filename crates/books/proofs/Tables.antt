-- The worked examples hold: each is computed.
use Rattle.std.proofs.Common.{refl}
use Rattle.std.specs.Int.{int_wrap}
use Rattle.books.specs.Graph.{reaches, support, detour, needed, walks, total}
use Rattle.books.specs.Worked.{WorkedExamples}

pub worked : WorkedExamples
unfolding int_wrap reaches support detour needed walks total
worked = record {
  total_of_both_chains = refl;
  support_of_both_chains = refl;
  direct_line_not_needed = refl;
  first_line_needed = refl;
  second_line_needed = refl;
  total_to_itself = refl;
  total_after_strike = refl;
  support_after_strike = refl;
  direct_line_needed_after_strike = refl;
  circle_refused = refl;
  line_to_itself_refused = refl;
  line_to_no_block_refused = refl;
  total_cancelled = refl;
  reach_not_cancelled = refl;
  total_over_zero = refl;
  support_over_zero = refl;
  reach_over_zero = refl;
  total_of_depths = refl;
}
