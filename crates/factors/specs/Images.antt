-- How the laws of sums and products pass from plain numbers to the factors that are made of them.
--   number_operations  zero, one, sum and product of natural numbers
--   number_laws        they keep the laws
--   Image              each factor is made of numbers, and sums and products of factors are made of those of the numbers
--   image_ring         the ring of such factors
use Rattle.std.specs.Prelude.{◌≡◌, ℕ, ◌+◌, ◌*◌}
use Rattle.std.proofs.Common.{ap, subst, add_assoc, add_comm, add-mul, add-zero, mul-add, mul_assoc, mul-one, one-mul}
use Rattle.factors.specs.Ring.{Operations, Laws, Ring}

abbrev pub number_operations : Operations ℕ
number_operations = record { zero = 0; one = 1; add = λ a b. a + b; mul = λ a b. a * b }

pub number_laws : Laws number_operations
number_laws = record {
  add_assoc = add_assoc;
  add_comm = add_comm;
  add-zero = add-zero;
  mul_assoc = mul_assoc;
  one-mul = one-mul;
  mul-one = mul-one;
  mul-add = mul-add;
  add-mul = add-mul;
}

-- `made` makes a factor of numbers, and `numbers` are some that it is made of
pub record Image {R F : Type 0} (from : Operations R) (to : Operations F) (made : R → F) (numbers : F → R) : Type 0 where
  pub each : (x : F) → made (numbers x) ≡ x
  pub zeros : to.zero ≡ made from.zero
  pub ones : to.one ≡ made from.one
  pub sums : (a b : R) → to.add (made a) (made b) ≡ made (from.add a b)
  pub products : (a b : R) → to.mul (made a) (made b) ≡ made (from.mul a b)

module _ {R F : Type 0} {from : Operations R} {to : Operations F} {made : R → F} {numbers : F → R} (laws : Laws from) (image : Image from to made numbers) where
  -- what holds of all that is made of numbers holds of every factor
  pub every : (P : F → Type 0) → ((a : R) → P (made a)) → (x : F) → P x
  every P holds x = subst P (image.each x) (holds (numbers x))

  pub every_two : (P : F → F → Type 0) → ((a b : R) → P (made a) (made b)) → (x y : F) → P x y
  every_two P holds x y = every (λ v. P v y) (λ a. every (P (made a)) (holds a) y) x

  pub every_three : (P : F → F → F → Type 0) → ((a b c : R) → P (made a) (made b) (made c)) → (x y z : F) → P x y z
  every_three P holds x y z = every (λ v. P v y z) (λ a. every_two (P (made a)) (holds a) y z) x

  abbrev pub image_ring : (opposite : F → F) → ((x : F) → to.add x (opposite x) ≡ to.zero) → Ring F
  image_ring opposite add_opposite = record {
    ops = to;
    laws = record {
      add_assoc = every_three _ (λ a b c. simp image.sums (ap made (laws.add_assoc a b c)));
      add_comm = every_two _ (λ a b. simp image.sums (ap made (laws.add_comm a b)));
      add-zero = every _ (λ a. simp (image.zeros, image.sums) (ap made (laws.add-zero a)));
      mul_assoc = every_three _ (λ a b c. simp image.products (ap made (laws.mul_assoc a b c)));
      one-mul = every _ (λ a. simp (image.ones, image.products) (ap made (laws.one-mul a)));
      mul-one = every _ (λ a. simp (image.ones, image.products) (ap made (laws.mul-one a)));
      mul-add = every_three _ (λ a b c. simp (image.sums, image.products) (ap made (laws.mul-add a b c)));
      add-mul = every_three _ (λ a b c. simp (image.sums, image.products) (ap made (laws.add-mul a b c)));
    };
    opposite = opposite;
    add_opposite = add_opposite;
  }
