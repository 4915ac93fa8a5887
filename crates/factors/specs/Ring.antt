-- What a factor kind computes and which laws its operations keep.
--   Operations  zero, one, sum and product
--   Laws        what the sums and products keep
--   Ring        the operations with their laws and an opposite
use Rattle.std.specs.Prelude.{◌≡◌}

-- what a total is worked out with; a kind has nothing else to say about totals
pub record Operations (F : Type 0) : Type 0 where
  pub zero : F
  pub one : F
  pub add : F → F → F
  pub mul : F → F → F

-- the laws of sums and products; the product need not commute
pub record Laws {F : Type 0} (ops : Operations F) : Type 0 where
  pub add_assoc : (x y z : F) → ops.add (ops.add x y) z ≡ ops.add x (ops.add y z)
  pub add_comm : (x y : F) → ops.add x y ≡ ops.add y x
  pub add-zero : (x : F) → ops.add x ops.zero ≡ x
  pub mul_assoc : (x y z : F) → ops.mul (ops.mul x y) z ≡ ops.mul x (ops.mul y z)
  pub one-mul : (x : F) → ops.mul ops.one x ≡ x
  pub mul-one : (x : F) → ops.mul x ops.one ≡ x
  pub mul-add : (x y z : F) → ops.mul x (ops.add y z) ≡ ops.add (ops.mul x y) (ops.mul x z)
  pub add-mul : (x y z : F) → ops.mul (ops.add x y) z ≡ ops.add (ops.mul x z) (ops.mul y z)

-- and with an opposite for each factor, a ring
pub record Ring (F : Type 0) : Type 0 where
  pub ops : Operations F
  pub laws : Laws ops
  pub opposite : F → F
  pub add_opposite : (x : F) → ops.add x (opposite x) ≡ ops.zero
