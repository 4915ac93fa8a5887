-- Sums over the numbers below a bound in a ring, and the laws of zero.
--   zero-add, add_none, add_exchange, mul_zero, zero_mul, add_undone   what the laws of a ring give at once
--   sum_same, sum_zeros, sum_add   sums term by term
--   mul_sum, sum_mul, sum_exchange   a factor, or another sum, moved through a sum
--   sum_first, sum_only   one term taken out
--   sum_range   a sum taken along the list of the numbers
use Rattle.std.proofs.Common.{◌≡◌, ℕ, zero, suc, ◌<◌, map, sym, refl, ap, ◌∙◌, ap₂, inl, inr, add-one, arith}
use Rattle.std.specs.List.{fold, range_with_len}
use Rattle.std.proofs.lemmas.List.Sums.{fold_push}
use Rattle.std.proofs.lemmas.Bool.{cases_eq}
use Rattle.factors.specs.Ring.{Operations, Ring}
use Rattle.books.specs.Graph.{sum_below}
use Rattle.books.proofs.Counts.{numbers_more}

module _ {F : Type 0} (r : Ring F) where
  open r.ops use {zero as o, add as ◌⊕◌, mul as ◌⊗◌}

  infixl 60 ◌⊕◌
  infixl 70 ◌⊗◌
  pub zero-add : (x : F) → o ⊕ x ≡ x
  zero-add x = r.laws.add_comm o x ∙ r.laws.add-zero x

  pub add_none : (x y : F) → y ≡ o → x ⊕ y ≡ x
  add_none x y none = ap (λ u. x ⊕ u) none ∙ r.laws.add-zero x

  pub add_exchange : (w x y z : F) → w ⊕ x ⊕ (y ⊕ z) ≡ w ⊕ y ⊕ (x ⊕ z)
  add_exchange w x y z =
      r.laws.add_assoc w x (y ⊕ z)
      ∙ ap (λ u. w ⊕ u) (sym (r.laws.add_assoc x y z) ∙ ap (λ u. u ⊕ z) (r.laws.add_comm x y) ∙ r.laws.add_assoc y x z)
      ∙ sym (r.laws.add_assoc w y (x ⊕ z))

  twice_zero : (x : F) → x ⊕ x ≡ x → x ≡ o
  twice_zero x same =
      sym (r.laws.add-zero x)
      ∙ ap (λ u. x ⊕ u) (sym (r.add_opposite x))
      ∙ sym (r.laws.add_assoc x x (r.opposite x))
      ∙ ap (λ u. u ⊕ r.opposite x) same
      ∙ r.add_opposite x

  pub mul_zero : (x : F) → x ⊗ o ≡ o
  mul_zero x = twice_zero (x ⊗ o) (sym (r.laws.mul-add x o o) ∙ ap (λ y. x ⊗ y) (r.laws.add-zero o))

  pub zero_mul : (x : F) → o ⊗ x ≡ o
  zero_mul x = twice_zero (o ⊗ x) (sym (r.laws.add-mul o o x) ∙ ap (λ y. y ⊗ x) (r.laws.add-zero o))

  -- a product is taken away again by the one with the opposite factor
  pub add_undone : (w x y z : F) → w ⊕ x ⊗ y ⊗ z ⊕ x ⊗ r.opposite y ⊗ z ≡ w
  add_undone w x y z =
      r.laws.add_assoc w (x ⊗ y ⊗ z) (x ⊗ r.opposite y ⊗ z)
      ∙ add_none w _ (sym (r.laws.add-mul (x ⊗ y) (x ⊗ r.opposite y) z) ∙ ap (λ u. u ⊗ z) nothing ∙ zero_mul z)
    where
      nothing : x ⊗ y ⊕ x ⊗ r.opposite y ≡ o
      nothing = sym (r.laws.mul-add x y (r.opposite y)) ∙ ap (λ u. x ⊗ u) (r.add_opposite y) ∙ mul_zero x

  abbrev pub sum : ℕ → (ℕ → F) → F
  sum = sum_below r.ops

  pub sum_same : (n : ℕ) (f g : ℕ → F) → ((k : ℕ) → k < n → f k ≡ g k) → sum n f ≡ sum n g
  sum_same zero f g same = refl
  sum_same (suc n) f g same = ap₂ ◌⊕◌ (sum_same n f g (λ k h. same k (omega arith))) (same n (omega arith))

  pub sum_zeros : (n : ℕ) (f : ℕ → F) → ((k : ℕ) → k < n → f k ≡ o) → sum n f ≡ o
  sum_zeros zero f zeros = refl
  sum_zeros (suc n) f zeros =
      ap₂ ◌⊕◌ (sum_zeros n f (λ k h. zeros k (omega arith))) (zeros n (omega arith)) ∙ r.laws.add-zero o

  pub sum_add : (n : ℕ) (f g : ℕ → F) → sum n (λ k. f k ⊕ g k) ≡ sum n f ⊕ sum n g
  sum_add zero f g = sym (r.laws.add-zero o)
  sum_add (suc n) f g =
      ap (λ u. u ⊕ (f n ⊕ g n)) (sum_add n f g) ∙ add_exchange (sum n f) (sum n g) (f n) (g n)

  pub mul_sum : (n : ℕ) (x : F) (f : ℕ → F) → x ⊗ sum n f ≡ sum n (λ k. x ⊗ f k)
  mul_sum zero x f = mul_zero x
  mul_sum (suc n) x f = r.laws.mul-add x (sum n f) (f n) ∙ ap (λ u. u ⊕ x ⊗ f n) (mul_sum n x f)

  pub sum_mul : (n : ℕ) (x : F) (f : ℕ → F) → sum n f ⊗ x ≡ sum n (λ k. f k ⊗ x)
  sum_mul zero x f = zero_mul x
  sum_mul (suc n) x f = r.laws.add-mul (sum n f) (f n) x ∙ ap (λ u. u ⊕ f n ⊗ x) (sum_mul n x f)

  pub sum_exchange : (n k : ℕ) (f : ℕ → ℕ → F) → sum n (λ i. sum k (λ j. f i j)) ≡ sum k (λ j. sum n (λ i. f i j))
  sum_exchange zero k f = sym (sum_zeros k (λ j. o) (λ j h. refl))
  sum_exchange (suc n) k f =
      ap (λ u. u ⊕ sum k (λ j. f n j)) (sum_exchange n k f) ∙ sym (sum_add k (λ j. sum n (λ i. f i j)) (λ j. f n j))

  -- the first term taken out
  pub sum_first : (n : ℕ) (f : ℕ → F) → sum (suc n) f ≡ f 0 ⊕ sum n (λ k. f (suc k))
  sum_first zero f = r.laws.add_comm o (f 0)
  sum_first (suc n) f =
      ap (λ u. u ⊕ f (suc n)) (sum_first n f) ∙ r.laws.add_assoc (f 0) (sum n (λ k. f (suc k))) (f (suc n))

  -- all terms but the one at a are zero
  pub sum_only : (n : ℕ) (f : ℕ → F) (a : ℕ) → a < n → ((k : ℕ) → k < n → (k ≡ a → ⊥) → f k ≡ o) → sum n f ≡ f a
  sum_only zero f a h zeros = absurd (omega arith)
  sum_only (suc n) f a h zeros = elim (cases_eq n a) [
    | inl here ↦ ap₂ ◌⊕◌ (sum_zeros n f (λ k l. zeros k (omega arith) (omega arith))) (ap f here) ∙ zero-add (f a)
    | inr there ↦
        ap₂ ◌⊕◌ (sum_only n f a (omega arith) (λ k l. zeros k (omega arith))) (zeros n (omega arith) there)
        ∙ r.laws.add-zero (f a)
  ]

-- a sum taken along the list of the numbers
pub sum_range : {F : Type 0} (r : Operations F) (f : ℕ → F) (n : ℕ) → fold (λ sum k. r.add sum (f k)) r.zero (range_with_len 0 n) ≡ sum_below r n f
sum_range r f zero = refl
sum_range {F} r f (suc n) =
    ap (fold (λ (sum : F) (k : ℕ). r.add sum (f k)) r.zero) (numbers_more n)
    ∙ fold_push (λ (sum : F) (k : ℕ). r.add sum (f k)) r.zero (range_with_len 0 n) n
    ∙ ap (λ (sum : F). r.add sum (f n)) (sum_range r f n)
