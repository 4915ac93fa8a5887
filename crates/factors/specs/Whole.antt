-- Whole numbers: signed numbers of 32 bits whose sums, opposites and products wrap.
--   whole_of          the factor that is left of a number: it is wrapped to 32 bits
--   whole_operations  zero, one, sum and product
--   whole_opposite    the opposite
--   whole_code        the code: the pattern in two's complement
--   whole_coded       the factor of a code
--   whole_ring        the operations with their laws
--   whole_coding      the codes with their laws
--   whole_same        factors with the same value are the same
use Rattle.std.specs.Prelude.{◌≡◌, ℕ, ◌^◌, ◌<◌, ℤ, pos, ◌+ℤ◌, ◌*ℤ◌, neg_ℤ, FitsSigned, refl}
use Rattle.std.proofs.Common.{ap, ◌∙◌, mod-eq_of_lt, lit≤, of_z, to_z}
use mathlib.Core.HLevel.{is_prop→PathP}
use Rattle.std.proofs.Math.Bridge.{le_prop}
use Rattle.std.proofs.Math.IntN.{+ℤ_invr}
use Rattle.std.specs.Int.Signed.{mag}
use mir.ValLaws.{of_z_fits}
use Rattle.std.specs.Int.{int_wrap, w32}
use Rattle.std.proofs.lemmas.Int.{SFits-int_wrap, to_z-of_z, of_z-to_z, int_wrap-add_left, int_wrap-add_right, int_wrap-mul_left, int_wrap-mul_right}
use Rattle.factors.specs.Ring.{Operations, Ring}
use Rattle.factors.specs.Coding.{Coding}
use Rattle.factors.specs.Images.{Image, image_ring, number_operations, number_laws}
use Rattle.factors.specs.declared.whole.Whole.{Whole}

abbrev pub whole_of : ℤ → Whole
whole_of z = record { value = int_wrap w32 z; fits = (SFits-int_wrap w32 z).sfits }

abbrev pub whole_operations : Operations Whole
whole_operations = record {
  zero = whole_of (pos 0);
  one = whole_of (pos 1);
  add = λ x y. whole_of (x.value +ℤ y.value);
  mul = λ x y. whole_of (x.value *ℤ y.value);
}

abbrev pub whole_opposite : Whole → Whole
whole_opposite x = whole_of (neg_ℤ x.value)

abbrev pub whole_code : Whole → ℕ
whole_code x = of_z w32 x.value

abbrev pub whole_coded : ℕ → Whole
whole_coded n = whole_of (pos n)

-- The laws

-- two proofs that a value fits are the same
pub whole_same : (x y : Whole) → x.value ≡ y.value → x ≡ y
whole_same x y e = λ i. record { value = e i; fits = is_prop→PathP (λ j. mag (e j) < 2 ^ 31) (λ j. le_prop) x.fits y.fits i }

-- a value is in the range of its type
pub whole_fits : (x : Whole) → FitsSigned w32 x.value
whole_fits x = record { sfits = x.fits }

pub code_below : (x : Whole) → whole_code x < 2 ^ 32
code_below x = (of_z_fits w32 x.value (whole_fits x)).fits

-- a code is read as a number in two's complement
pub coded_value : (n : ℕ) → n < 2 ^ 32 → (whole_coded n).value ≡ to_z w32 n
unfolding int_wrap
coded_value n h = ap (to_z w32) (mod-eq_of_lt h)

pub coded_code : (x : Whole) → whole_coded (whole_code x) ≡ x
coded_code x = whole_same _ x (coded_value (whole_code x) (code_below x) ∙ to_z-of_z w32 x.value (whole_fits x))

pub code_coded : (n : ℕ) → n < 2 ^ 32 → whole_code (whole_coded n) ≡ n
code_coded n h = ap (of_z w32) (coded_value n h) ∙ of_z-to_z w32 n h

-- sums and products of factors are those of their codes, wrapped
pub whole_image : Image number_operations whole_operations whole_coded whole_code
whole_image = record {
  each = coded_code;
  zeros = refl;
  ones = refl;
  sums = λ a b. whole_same _ _ (simp (int_wrap-add_left, int_wrap-add_right));
  products = λ a b. whole_same _ _ (simp (int_wrap-mul_left, int_wrap-mul_right));
}

pub add_opposite : (x : Whole) → whole_operations.add x (whole_opposite x) ≡ whole_of (pos 0)
add_opposite x = whole_same _ _ (simp (int_wrap-add_right, +ℤ_invr))

abbrev pub whole_ring : Ring Whole
whole_ring = image_ring number_laws whole_image whole_opposite add_opposite

abbrev pub whole_coding : Coding Whole
whole_coding = record {
  width = 32;
  code = whole_code;
  factor = whole_coded;
  width_fits = lit≤ tt;
  code_below = code_below;
  factor_code = coded_code;
  code_factor = code_coded;
}
