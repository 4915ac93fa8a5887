-- Remainders of sums and products: to take remainders on the way changes nothing.
--   Alike       two numbers that leave the same remainder
--   alike_rest  so do a number and its remainder
--   alike_add   sums of alike numbers are alike
--   alike_mul   and so are products
use Rattle.std.specs.Prelude.{◌≡◌, ℕ, ◌+◌, ◌*◌, ◌%◌}
use Rattle.std.proofs.Common.{sym, ◌∙◌}
use Rattle.std.proofs.Math.Nat.{add-mod, mod-mod}
use Rattle.std.proofs.lemmas.Nat.{mul-mod}

pub record Alike (m a b : ℕ) : Type 0 where
  pub rest : a % m ≡ b % m

pub alike_rest : (m a : ℕ) → Alike m (a % m) a
alike_rest m a = record { rest = mod-mod a m }

pub alike_add : {m a b c d : ℕ} → Alike m a b → Alike m c d → Alike m (a + c) (b + d)
alike_add {m} {a} {b} {c} {d} e f = record { rest = add-mod a c m ∙ (λ i. (e.rest i + f.rest i) % m) ∙ sym (add-mod b d m) }

pub alike_mul : {m a b c d : ℕ} → Alike m a b → Alike m c d → Alike m (a * c) (b * d)
alike_mul {m} {a} {b} {c} {d} e f = record { rest = mul-mod a c m ∙ (λ i. (e.rest i * f.rest i) % m) ∙ sym (mul-mod b d m) }
