-- Worked examples of the definitions: a book of four blocks with lines (0,1), (1,2) and (0,2).
--   three_lines      that book
--   number_of        the number that an answer is refused with, 0 if it is granted
--   WorkedExamples   the table
use Rattle.std.specs.Prelude.{◌≡◌, ℕ, true, false, pos, negsuc, Some, Ok, Err, Result}
use Rattle.factors.specs.Whole.{whole_of, whole_operations}
use Rattle.factors.specs.Depth.{depth_of, depth_operations}
use Rattle.factors.specs.declared.whole.Whole.{Whole}
use Rattle.factors.specs.declared.depth.Depth.{Depth}
use Rattle.books.specs.Graph.{Meaning, no_lines, with_line, reaches, support, needed, total}
use Rattle.books.specs.Calls.{entering, entered, struck, fault_number}
use Rattle.books.specs.declared.fault.BookFault.{BookFault}

abbrev pub three_lines : {F : Type 0} → F → F → F → Meaning F
three_lines f g h = with_line (with_line (with_line (no_lines 4) 0 1 (Some f)) 1 2 (Some g)) 0 2 (Some h)

abbrev pub number_of : {X : Type 0} → Result X BookFault → ℕ
number_of (Ok x) = 0
number_of (Err e) = fault_number e

-- whole factors 2, 3 and 5
abbrev pub priced : Meaning Whole
priced = three_lines (whole_of (pos 2)) (whole_of (pos 3)) (whole_of (pos 5))

-- the same with −6 on the direct line, which cancels the total of the other chain
abbrev pub cancelled : Meaning Whole
cancelled = three_lines (whole_of (pos 2)) (whole_of (pos 3)) (whole_of (negsuc 5))

-- the first book with a line (2,3) of factor zero
abbrev pub with_zero : Meaning Whole
with_zero = entered priced 2 3 (whole_of (pos 0))

-- depth factors (0,1,0,0) on the three lines
abbrev pub deep : Meaning Depth
deep = three_lines (depth_of (0, 1, 0, 0)) (depth_of (0, 1, 0, 0)) (depth_of (0, 1, 0, 0))

pub record WorkedExamples : Type 0 where
  pub total_of_both_chains : total whole_operations priced 0 2 ≡ whole_of (pos 11)
  pub support_of_both_chains : support priced 0 2 ≡ 2
  pub direct_line_not_needed : needed priced 0 2 ≡ false
  pub first_line_needed : needed priced 0 1 ≡ true
  pub second_line_needed : needed priced 1 2 ≡ true
  pub total_to_itself : total whole_operations priced 3 3 ≡ whole_of (pos 1)
  pub total_after_strike : total whole_operations (struck priced 1 2) 0 2 ≡ whole_of (pos 5)
  pub support_after_strike : support (struck priced 1 2) 0 2 ≡ 1
  pub direct_line_needed_after_strike : needed (struck priced 1 2) 0 2 ≡ true
  pub circle_refused : number_of (entering priced 2 0) ≡ 4
  pub line_to_itself_refused : number_of (entering priced 2 2) ≡ 2
  pub line_to_no_block_refused : number_of (entering priced 0 4) ≡ 1
  pub total_cancelled : total whole_operations cancelled 0 2 ≡ whole_of (pos 0)
  pub reach_not_cancelled : reaches cancelled 0 2 ≡ true
  pub total_over_zero : total whole_operations with_zero 0 3 ≡ whole_of (pos 0)
  pub support_over_zero : support with_zero 0 3 ≡ 1
  pub reach_over_zero : reaches with_zero 0 3 ≡ true
  pub total_of_depths : total depth_operations deep 0 2 ≡ depth_of (0, 1, 1, 0)
