-- How the factors of a kind go out as numbers and come back.
--   Coding    the width in bits, the code of a factor, the factor of a code, and that the two correspond one to one
--   decoding  the answer to reading a code: its factor, or the refusal of a bit above the width
use Rattle.std.specs.Prelude.{◌≡◌, ℕ, ◌^◌, ◌<◌, ◌≤◌, cond, Ok, Err, Result, nat_lt, List, ◌++◌, codes}
use Rattle.std.specs.Fmt.{decimal}
use Rattle.factors.specs.declared.fault.CodeFault.{CodeFault}
use Rattle.factors.specs.declared.fault.CodeFault.TheVariants.{BitAboveWidth}

pub record Coding (F : Type 0) : Type 0 where
  pub width : ℕ
  pub code : F → ℕ
  pub factor : ℕ → F
  pub width_fits : width ≤ 64
  pub code_below : (f : F) → code f < 2 ^ width
  pub factor_code : (f : F) → factor (code f) ≡ f
  pub code_factor : (n : ℕ) → n < 2 ^ width → code (factor n) ≡ n

-- a code is read back if no bit above the width is set
abbrev pub decoding : {F : Type 0} → Coding F → ℕ → Result F CodeFault
decoding c n = cond (nat_lt n (2 ^ c.width)) (Ok (c.factor n)) (Err BitAboveWidth)

-- the number that a refused code is reported by
abbrev pub code_fault_number : CodeFault → ℕ
code_fault_number BitAboveWidth = 13

-- the text that a refusal of this number is printed as
abbrev pub refusal_text : ℕ → List ℕ
refusal_text number = codes "number " ++ decimal number
