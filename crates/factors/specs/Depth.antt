-- Depths: four numbers at the places 0 to 3, each modulo 4096, that multiply as sums of powers with the powers from the fourth on dropped.
--   Places            four numbers of any size
--   place_operations  zero, one, sum and product of four numbers
--   rests             the remainder of each of four numbers modulo 4096
--   depth_of          the factor that is left of four numbers: their remainders
--   depth_places      the four numbers of a factor
--   depth_operations  zero, one, sum and product
--   depth_opposite    the opposite
--   depth_code        the code: the four numbers in 12 bits each, the one at place 0 highest
--   depth_coded       the factor of a code
--   depth_ring        the operations with their laws
--   depth_coding      the codes with their laws
--   depth_same, depth_same_places   factors with the same numbers, or the same list of them, are the same
use Rattle.std.specs.Prelude.{◌≡◌, ℕ, ◌+◌, ◌-◌, ◌*◌, ◌/◌, ◌%◌, ◌^◌, ◌<◌, ◌≤◌, List, [], ◌∷◌, length, slice_index, zero, suc, refl}
use mathlib.Core.HLevel.{is_prop→PathP}
use Rattle.std.proofs.Math.Bridge.{le_prop}
use Rattle.std.proofs.Common.{sym, ap, ◌∙◌, add-mul, mod-eq_of_lt, mod-lt, mul-add, mul_assoc, arith, lit<, lit≤}
use Rattle.std.proofs.lemmas.Nat.{mod-pow-add}
use Rattle.factors.specs.Ring.{Operations, Laws, Ring}
use Rattle.factors.specs.Coding.{Coding}
use Rattle.factors.specs.Images.{Image, image_ring}
use Rattle.factors.specs.Remainders.{Alike, alike_rest, alike_add, alike_mul}
use Rattle.factors.specs.declared.depth.Depth.{Depth}

abbrev pub Places : Type 0
Places = ℕ × ℕ × ℕ × ℕ

-- the product has at place k the sum of x(i) * y(k - i) for i from 0 to k
abbrev pub place_operations : Operations Places
place_operations = record {
  zero = (0, 0, 0, 0);
  one = (1, 0, 0, 0);
  add = λ x y. (x.0 + y.0, x.1 + y.1, x.2 + y.2, x.3 + y.3);
  mul = λ x y. (
    x.0 * y.0,
    x.0 * y.1 + x.1 * y.0,
    x.0 * y.2 + x.1 * y.1 + x.2 * y.0,
    x.0 * y.3 + x.1 * y.2 + x.2 * y.1 + x.3 * y.0,
  );
}

abbrev pub rests : Places → List ℕ
rests p = p.0 % 4096 ∷ p.1 % 4096 ∷ p.2 % 4096 ∷ p.3 % 4096 ∷ []

-- each is a remainder, and where there is no number the list is read as 0
pub rest_below : (p : Places) (k : ℕ) → slice_index (rests p) k < 4096
rest_below p zero = mod-lt p.0 (lit< tt)
rest_below p (suc zero) = mod-lt p.1 (lit< tt)
rest_below p (suc (suc zero)) = mod-lt p.2 (lit< tt)
rest_below p (suc (suc (suc zero))) = mod-lt p.3 (lit< tt)
rest_below p (suc (suc (suc (suc k)))) = lit< tt

abbrev pub depth_of : Places → Depth
depth_of p = record { places = rests p; four = (lit≤ tt, lit≤ tt); below = rest_below p }

abbrev pub depth_places : Depth → Places
depth_places x = (slice_index x.places 0, slice_index x.places 1, slice_index x.places 2, slice_index x.places 3)

abbrev pub depth_operations : Operations Depth
depth_operations = record {
  zero = depth_of place_operations.zero;
  one = depth_of place_operations.one;
  add = λ x y. depth_of (place_operations.add (depth_places x) (depth_places y));
  mul = λ x y. depth_of (place_operations.mul (depth_places x) (depth_places y));
}

abbrev pub depth_opposite : Depth → Depth
depth_opposite x = let p = depth_places x in depth_of (4096 - p.0, 4096 - p.1, 4096 - p.2, 4096 - p.3)

abbrev pub depth_code : Depth → ℕ
depth_code x = let p = depth_places x in p.0 * 2 ^ 36 + p.1 * 2 ^ 24 + p.2 * 2 ^ 12 + p.3

abbrev pub depth_coded : ℕ → Depth
depth_coded n = depth_of (n / 2 ^ 36, n / 2 ^ 24, n / 2 ^ 12, n)

-- The laws

-- two proofs that there are four numbers, or that each is below 4096, are the same
pub depth_same_places : (x y : Depth) → x.places ≡ y.places → x ≡ y
depth_same_places x y e = λ i. record {
  places = e i;
  four = (is_prop→PathP (λ j. 4 ≤ length (e j)) (λ j. le_prop) x.four.0 y.four.0 i, is_prop→PathP (λ j. length (e j) ≤ 4) (λ j. le_prop) x.four.1 y.four.1 i);
  below = λ k. is_prop→PathP (λ j. slice_index (e j) k < 4096) (λ j. le_prop) (x.below k) (y.below k) i;
}

-- factors are the same where their numbers leave the same remainders
pub depth_alike : (p q : Places) → Alike 4096 p.0 q.0 → Alike 4096 p.1 q.1 → Alike 4096 p.2 q.2 → Alike 4096 p.3 q.3 → depth_of p ≡ depth_of q
depth_alike p q e f g h = depth_same_places _ _ (λ i. e.rest i ∷ f.rest i ∷ g.rest i ∷ h.rest i ∷ [])

-- four remainders are what is left of them
rests_again : (l : List ℕ) → length l ≡ 4 → ((k : ℕ) → slice_index l k < 4096) → rests (slice_index l 0, slice_index l 1, slice_index l 2, slice_index l 3) ≡ l
rests_again (a ∷ b ∷ c ∷ d ∷ []) four below = λ i. mod-eq_of_lt (below 0) i ∷ mod-eq_of_lt (below 1) i ∷ mod-eq_of_lt (below 2) i ∷ mod-eq_of_lt (below 3) i ∷ []
rests_again [] four below = cc
rests_again (a ∷ []) four below = cc
rests_again (a ∷ b ∷ []) four below = cc
rests_again (a ∷ b ∷ c ∷ []) four below = cc
rests_again (a ∷ b ∷ c ∷ d ∷ e ∷ l) four below = absurd (omega arith)

-- a factor is what is left of its numbers
pub depth_again : (x : Depth) → depth_of (depth_places x) ≡ x
depth_again x = depth_same_places _ x (rests_again x.places (omega arith) x.below)

-- lists of four numbers are the same where the numbers are
pub places_same : (p q : Places) → p.0 ≡ q.0 → p.1 ≡ q.1 → p.2 ≡ q.2 → p.3 ≡ q.3 → p ≡ q
places_same p q e f g h = λ i. (e i, f i, g i, h i)

-- factors with the same numbers are the same
pub depth_same : (x y : Depth) → (depth_places x).0 ≡ (depth_places y).0 → (depth_places x).1 ≡ (depth_places y).1 → (depth_places x).2 ≡ (depth_places y).2 → (depth_places x).3 ≡ (depth_places y).3 → x ≡ y
depth_same x y e f g h = sym (depth_again x) ∙ ap depth_of (places_same (depth_places x) (depth_places y) e f g h) ∙ depth_again y

pub place_laws : Laws place_operations
place_laws = record {
  add_assoc = λ x y z. places_same _ _ (omega arith) (omega arith) (omega arith) (omega arith);
  add_comm = λ x y. places_same _ _ (omega arith) (omega arith) (omega arith) (omega arith);
  add-zero = λ x. places_same _ _ (omega arith) (omega arith) (omega arith) (omega arith);
  mul_assoc = λ x y z. simp (mul-add, add-mul, mul_assoc) (places_same _ _ (omega arith) (omega arith) (omega arith) (omega arith));
  one-mul = λ x. places_same _ _ (omega arith) (omega arith) (omega arith) (omega arith);
  mul-one = λ x. places_same _ _ (omega arith) (omega arith) (omega arith) (omega arith);
  mul-add = λ x y z. simp mul-add (places_same _ _ (omega arith) (omega arith) (omega arith) (omega arith));
  add-mul = λ x y z. simp add-mul (places_same _ _ (omega arith) (omega arith) (omega arith) (omega arith));
}

-- sums and products of factors are those of their numbers, of which remainders are left
pub depth_image : Image place_operations depth_operations depth_of depth_places
depth_image = record {
  each = depth_again;
  zeros = refl;
  ones = refl;
  sums = λ a b. depth_alike _ _ (sum _ _) (sum _ _) (sum _ _) (sum _ _);
  products = λ a b. depth_alike _ _
      (product _ _)
      (alike_add (product _ _) (product _ _))
      (alike_add (alike_add (product _ _) (product _ _)) (product _ _))
      (alike_add (alike_add (alike_add (product _ _) (product _ _)) (product _ _)) (product _ _));
}
  where
    sum : (a b : ℕ) → Alike 4096 (a % 4096 + b % 4096) (a + b)
    sum a b = alike_add (alike_rest 4096 a) (alike_rest 4096 b)

    product : (a b : ℕ) → Alike 4096 (a % 4096 * (b % 4096)) (a * b)
    product a b = alike_mul (alike_rest 4096 a) (alike_rest 4096 b)

pub add_opposite : (x : Depth) → depth_operations.add x (depth_opposite x) ≡ depth_operations.zero
add_opposite x = depth_alike _ _ (none (x.below 0)) (none (x.below 1)) (none (x.below 2)) (none (x.below 3))
  where
    none : {a : ℕ} → a < 4096 → Alike 4096 (a + (4096 - a) % 4096) 0
    none h = record { rest = omega arith }

abbrev pub depth_ring : Ring Depth
depth_ring = image_ring place_laws depth_image depth_opposite add_opposite

pub code_below : (x : Depth) → depth_code x < 2 ^ 48
code_below x = omega arith

pub coded_code : (x : Depth) → depth_coded (depth_code x) ≡ x
coded_code x = depth_alike _ (depth_places x) (record { rest = omega arith }) (record { rest = omega arith }) (record { rest = omega arith }) (record { rest = omega arith }) ∙ depth_again x

pub code_coded : (n : ℕ) → n < 2 ^ 48 → depth_code (depth_coded n) ≡ n
code_coded n h = omega (arith, mod-eq_of_lt h, mod-pow-add n 12 12, mod-pow-add n 12 24, mod-pow-add n 12 36)

abbrev pub depth_coding : Coding Depth
depth_coding = record {
  width = 48;
  code = depth_code;
  factor = depth_coded;
  width_fits = lit≤ tt;
  code_below = code_below;
  factor_code = coded_code;
  code_factor = code_coded;
}
