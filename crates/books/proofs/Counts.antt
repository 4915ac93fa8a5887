-- What any_below and count_below tell of the numbers below a bound that pass a test.
--   any_decides_of, any_decides, any_found, any_here   whether one passes
--   count_at_most, count_none, count_some   how many pass
--   count_only, count_unique, count_one_decides   just one passes
--   count_counted   the count, said of a property that the test decides
--   numbers_more, count_range   the count, taken along the list of the numbers
use Rattle.std.proofs.Common.{◌≡◌, ℕ, zero, suc, ◌+◌, ◌<◌, ◌≤◌, Bool, true, false, cond, eqb, Decides, sym, refl, ap, ◌∙◌, inl, inr, zero-add, add-one, one-add, add_comm, List, [], ◌∷◌, ◌++◌, map, arith}
use Rattle.std.specs.List.{count_by, range_with_len}
use Rattle.std.proofs.lemmas.List.{map-id}
use Rattle.std.proofs.lemmas.List.FromFn.{map-range_with_len_more}
use Rattle.std.proofs.lemmas.List.Sums.{sum_by_push}
use Rattle.std.proofs.lemmas.Bool.{both_ways, false_from_ne_true, cases_Bool, cases_eq, eq-eqb, eqb-true}
use Rattle.std.proofs.lemmas.Bool.Decides.{Decides-below_or, not_from_Decides, nat_tests}
use Rattle.books.specs.Graph.{any_below, count_below}
use Rattle.books.specs.Laws.{Counted}
use Rattle.books.specs.Laws.Counted.{none, counted, passed}

pub any_decides_of : (n : ℕ) (p : ℕ → Bool) (P : ℕ → Type 0) → ((k : ℕ) → Decides (p k) (P k))
    → Decides (any_below n p) ((k : ℕ) × (k < n) × P k)
any_decides_of n p P each = Decides-below_or p P (λ j. any_below j p) each refl (λ _. refl) n

-- a test decides that it is passed
pub decides_itself : (b : Bool) → Decides b (b ≡ true)
decides_itself b = (λ e. e, λ e. e)

pub any_decides : (n : ℕ) (p : ℕ → Bool) → Decides (any_below n p) ((k : ℕ) × (k < n) × (p k ≡ true))
any_decides n p = any_decides_of n p (λ k. p k ≡ true) (λ k. decides_itself (p k))

pub any_found : (n : ℕ) (p : ℕ → Bool) → any_below n p ≡ true → (k : ℕ) × (k < n) × (p k ≡ true)
any_found n p e = (any_decides n p).0 e

pub any_here : (n : ℕ) (p : ℕ → Bool) (k : ℕ) → k < n → p k ≡ true → any_below n p ≡ true
any_here n p k h e = (any_decides n p).1 (k, h, e)

pub count_at_most : (n : ℕ) (p : ℕ → Bool) → count_below n p ≤ n
count_at_most zero p = omega arith
count_at_most (suc n) p = grind (arith, count_at_most n p)

pub count_none : (n : ℕ) (p : ℕ → Bool) → ((k : ℕ) → k < n → p k ≡ false) → count_below n p ≡ 0
count_none zero p no_one = refl
count_none (suc n) p no_one = rw (no_one n (omega arith), count_none n p (λ k h. no_one k (omega arith)))

pub count_some : (n : ℕ) (p : ℕ → Bool) (k : ℕ) → k < n → p k ≡ true → 0 < count_below n p
count_some zero p k h e = omega arith
count_some (suc n) p k h e = grind (arith, nat_tests, count_some n p k)

-- one passes, if a does and no other
pub count_only : (n : ℕ) (p : ℕ → Bool) (a : ℕ)
    → a < n → p a ≡ true → ((k : ℕ) → k < n → p k ≡ true → k ≡ a) → count_below n p ≡ 1
count_only zero p a h e only = omega arith
count_only (suc n) p a h e only = elim (cases_eq n a) [
  | inl here ↦ rw (
    ap p here ∙ e,
    count_none n p (λ k l. false_from_ne_true (p k) (λ t. let s = only k (omega arith) t in omega arith)),
  )
  | inr there ↦ rw (
    false_from_ne_true (p n) (λ t. there (only n (omega arith) t)),
    count_only n p a (omega arith) e (λ k l t. only k (omega arith) t),
  )
]

-- where one passes, two that pass are the same
pub count_unique : (n : ℕ) (p : ℕ → Bool) (k l : ℕ)
    → count_below n p ≡ 1 → k < n → p k ≡ true → l < n → p l ≡ true → k ≡ l
count_unique zero p k l one hk ek hl el = omega arith
count_unique (suc n) p k l one hk ek hl el = elim (cases_Bool (p n)) [
  | inl e ↦ last k (rw e at one) hk ek ∙ sym (last l (rw e at one) hl el)
  | inr e ↦ count_unique n p k l (omega (arith, rw e at one)) (below e k hk ek) ek (below e l hl el) el
]
  where
    last : (i : ℕ) → 1 + count_below n p ≡ 1 → i < suc n → p i ≡ true → i ≡ n
    last i others h t = elim (cases_eq i n) [ inl same ↦ same | inr other ↦ let s = count_some n p i (omega arith) t in omega arith ]

    below : p n ≡ false → (i : ℕ) → i < suc n → p i ≡ true → i < n
    below e i h t = elim (cases_eq i n) [ inl same ↦ absurd (both_ways (p n) e (ap p (sym same) ∙ t)) | inr other ↦ omega arith ]

pub count_one_decides : (n : ℕ) (p : ℕ → Bool) (a : ℕ) → a < n → p a ≡ true
    → Decides (eqb (count_below n p) 1) ((k : ℕ) → k < n → p k ≡ true → k ≡ a)
count_one_decides n p a h e = (
  λ t k l s. count_unique n p k a (eqb-true (count_below n p) 1 t) l s h e,
  λ only. eq-eqb (count_below n p) 1 (count_only n p a h e only),
)

-- where the test decides the property, the count is the number of those that have it
pub count_counted : (n : ℕ) (p : ℕ → Bool) (P : ℕ → Type 0) → ((k : ℕ) → Decides (p k) (P k)) → Counted P n (count_below n p)
count_counted zero p P each = none
count_counted (suc n) p P each = elim (cases_Bool (p n)) [
  | inl e ↦ rw (e, one-add) (counted ((each n).0 e) (count_counted n p P each))
  | inr e ↦ rw (e, zero-add) (passed (not_from_Decides (p n) (each n) e) (count_counted n p P each))
]

-- the numbers below k + 1 are those below k, and k
pub numbers_more : (k : ℕ) → range_with_len 0 (suc k) ≡ range_with_len 0 k ++ k ∷ []
numbers_more k =
    sym (map-id (range_with_len 0 (suc k)))
    ∙ ap (λ (j : ℕ). map (λ (i : ℕ). i) (range_with_len 0 j)) (sym (add-one k))
    ∙ map-range_with_len_more (λ (j : ℕ). j) 0 k k (zero-add k)
    ∙ ap (λ (ks : List ℕ). ks ++ k ∷ []) (map-id (range_with_len 0 k))

-- the numbers below n that pass the test, counted along the list of the numbers
pub count_range : (n : ℕ) (p : ℕ → Bool) → count_by p (range_with_len 0 n) ≡ count_below n p
count_range zero p = refl
count_range (suc n) p =
    ap (count_by p) (numbers_more n)
    ∙ sum_by_push (λ (k : ℕ). cond (p k) 1 0) (range_with_len 0 n) n
    ∙ ap (λ (k : ℕ). k + cond (p n) 1 0) (count_range n p)
    ∙ add_comm (count_below n p) (cond (p n) 1 0)
