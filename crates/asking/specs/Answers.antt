-- What a program takes for a book's answer to a call.
--   told  the answer to a call that is granted, or its refusal
use Rattle.std.specs.Prelude.{Result}
use Rattle.std.specs.Result.{result_map_both}
use Rattle.books.specs.declared.fault.BookFault.{BookFault}

abbrev pub told : {X A : Type 0} → (X → A) → Result X BookFault → Result A BookFault
told say r = result_map_both say (λ fault. fault) r
