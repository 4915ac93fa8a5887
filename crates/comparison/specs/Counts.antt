-- How many calls a tally has counted, and what it counts an answer as.
--   granted  the granted ones
--   refused  the refused ones
--   counted  all of them
--   no_grants, no_refusals, no_answers   nothing counted yet
--   granting, refusing, tallying   the same with one answer more, under its own kind
use Rattle.std.specs.Prelude.{ℕ, ◌+◌, ◌%◌, ◌^◌, true, false, Ok, Err, Result}
use Rattle.books.specs.declared.fault.BookFault.{BookFault}
use Rattle.books.specs.declared.fault.BookFault.TheVariants.{NoBlock, SameBlock, LineStands, Circle, NoLine}
use Rattle.comparison.specs.declared.answer.Answer.{Answer}
use Rattle.comparison.specs.declared.answer.Answer.TheVariants.{Entered, Struck, Holds, Support, Code}
use Rattle.comparison.specs.declared.tally.grants.Grants.{Grants}
use Rattle.comparison.specs.declared.tally.refusals.Refusals.{Refusals}
use Rattle.comparison.specs.declared.tally.Tally.{Tally}

abbrev pub granted : Grants → ℕ
granted g = g.entered + g.struck + g.affirmed + g.denied + g.supports + g.codes

abbrev pub refused : Refusals → ℕ
refused r = r.no_block + r.same_block + r.line_stands + r.circle + r.no_line

abbrev pub counted : Tally → ℕ
counted t = granted t.grants + refused t.refusals

abbrev pub no_grants : Grants
no_grants = record { entered = 0; struck = 0; affirmed = 0; denied = 0; supports = 0; support_sum = 0; codes = 0; code_sum = 0 }

abbrev pub no_refusals : Refusals
no_refusals = record { no_block = 0; same_block = 0; line_stands = 0; circle = 0; no_line = 0 }

abbrev pub no_answers : Tally
no_answers = record { grants = no_grants; refusals = no_refusals }

-- the numbers in answers are added up in 64 bits
abbrev pub granting : Grants → Answer → Grants
granting g Entered = record g { entered = g.entered + 1 }
granting g Struck = record g { struck = g.struck + 1 }
granting g (Holds true) = record g { affirmed = g.affirmed + 1 }
granting g (Holds false) = record g { denied = g.denied + 1 }
granting g (Support lines) = record g { supports = g.supports + 1; support_sum = (g.support_sum + lines) % 2 ^ 64 }
granting g (Code code) = record g { codes = g.codes + 1; code_sum = (g.code_sum + code) % 2 ^ 64 }

abbrev pub refusing : Refusals → BookFault → Refusals
refusing r NoBlock = record r { no_block = r.no_block + 1 }
refusing r SameBlock = record r { same_block = r.same_block + 1 }
refusing r LineStands = record r { line_stands = r.line_stands + 1 }
refusing r Circle = record r { circle = r.circle + 1 }
refusing r NoLine = record r { no_line = r.no_line + 1 }

abbrev pub tallying : Tally → Result Answer BookFault → Tally
tallying t (Ok answer) = record t { grants = granting t.grants answer }
tallying t (Err fault) = record t { refusals = refusing t.refusals fault }
