-- Support numbers from their local equation, and the work sets of a change.
--   count_same, count_turned   tests that agree, or that differ at one number
--   settled_support   the local equation has one solution: the support numbers
use Rattle.std.proofs.Common.{◌≡◌, ℕ, zero, suc, ◌+◌, ◌<◌, Bool, true, false, cond, ◌&&◌, eqb, ltb, sym, refl, ap, ◌∙◌, ap₂, inl, inr, arith}
use Rattle.std.proofs.lemmas.Bool.{cases_Bool, cases_eq, eq-eqb, eqb-true, lt-ltb, ltb-true, and_parts, and_from, and_right, or_cases, or_left, or_right}
use Rattle.std.proofs.lemmas.Bool.Decides.{same_from_decides}
use Rattle.books.specs.Graph.{Meaning, stands, Bounded, Chain, Reaches, Circleless, count_below, reaches, support}
use Rattle.books.specs.Graph.Chain.{empty, then}
use Rattle.books.specs.Rows.{one, counted, reached, Settled}
use Rattle.books.proofs.Counts.{count_some}
use Rattle.books.proofs.Chains.{reaches_same, chain_onward, chain_last, chain_within_size, reaches_decides, reaches_chain, chain_reaches}

pub count_same : (n : ℕ) (p q : ℕ → Bool) → ((k : ℕ) → k < n → p k ≡ q k) → count_below n p ≡ count_below n q
count_same zero p q same = refl
count_same (suc n) p q same =
    ap₂ (λ (b : Bool) (k : ℕ). cond b 1 0 + k) (same n (omega arith)) (count_same n p q (λ k h. same k (omega arith)))

-- two tests that differ at most at l, where the second is not passed
pub count_turned : (n : ℕ) (p q : ℕ → Bool) (l : ℕ) → l < n → q l ≡ false → ((k : ℕ) → k < n → (k ≡ l → ⊥) → p k ≡ q k)
    → count_below n p ≡ count_below n q + cond (p l) 1 0
count_turned zero p q l h none same = absurd (omega arith)
count_turned (suc n) p q l h none same = elim (cases_eq n l) [
  | inl here ↦
      let rest = count_same n p q (λ k below. same k (omega arith) (omega arith)) in
      let last : one (q n) ≡ 0 = ap one (ap q here ∙ none) in
      let first : one (p n) ≡ one (p l) = ap (λ (k : ℕ). one (p k)) here in
      omega arith
  | inr there ↦
      let rest = count_turned n p q l (omega arith) none (λ k below. same k (omega arith)) in
      let last : one (p n) ≡ one (q n) = ap one (same n (omega arith) there) in
      omega arith
]

-- one block fewer in the set takes the lines from it out of the count
pub counted_turned : {F : Type 0} (m : Meaning F) (p q : ℕ → Bool) (l : ℕ) → l < m.size → p l ≡ true → q l ≡ false
    → ((k : ℕ) → k < m.size → (k ≡ l → ⊥) → p k ≡ q k)
    → (j : ℕ) → counted m p j ≡ counted m q j + cond (stands m l j) 1 0
counted_turned m p q l h passed none same j =
    count_turned m.size (λ k. stands m k j && p k) (λ k. stands m k j && q k) l h (and_right _ _ none)
    (λ k below other. ap (λ (b : Bool). stands m k j && b) (same k below other))
    ∙ ap (λ (b : Bool). counted m q j + cond b 1 0) (only (stands m l j) (p l) passed)
  where
    only : (x y : Bool) → y ≡ true → (x && y) ≡ x
    only true y e = e
    only false y e = refl

pub counted_same : {F : Type 0} (m : Meaning F) (p q : ℕ → Bool) → ((k : ℕ) → k < m.size → p k ≡ q k) → (j : ℕ) → counted m p j ≡ counted m q j
counted_same m p q same j = count_same m.size _ _ (λ k below. ap (λ (b : Bool). stands m k j && b) (same k below))

-- some line is counted
count_found : (n : ℕ) (p : ℕ → Bool) → 0 < count_below n p → (k : ℕ) × (k < n) × (p k ≡ true)
count_found zero p some = absurd (omega arith)
count_found (suc n) p some = elim (cases_Bool (p n)) [
  | inl e ↦ (n, omega arith, e)
  | inr e ↦ let (k, h, t) = count_found n p (omega (arith, rw e at some)) in (k, omega arith, t)
]

module _ {F : Type 0} (m : Meaning F) (bounded : Bounded m) (circleless : Circleless m) where
  -- the last line of a chain is counted
  chain_supported : {k i j : ℕ} → Chain m k i j → reached i (support m i) j ≡ true
  unfolding support
  chain_supported {i = i} empty = or_left _ _ (eq-eqb i i refl)
  chain_supported {i = i} {j = j} (then t e) =
      let (l, d, line) = chain_last t e in
      or_right _ _ (lt-ltb 0 (support m i j) (count_some m.size (λ x. stands m x j && reaches m i x) l (bounded l j line).0 (and_from _ _ line (chain_reaches m bounded circleless d))))

module _ {F : Type 0} (m : Meaning F) (bounded : Bounded m) (circleless : Circleless m) (i : ℕ) where
  -- a row shows its reach: the block itself, and those with a support number
  pub support_reached : i < m.size → (j : ℕ) → reached i (support m i) j ≡ reaches m i j
  unfolding support
  support_reached block j =
      same_from_decides (reached i (support m i) j) (reaches m i j) (shown, λ (k, d). chain_supported m bounded circleless d) (reaches_decides m bounded circleless i j)
    where
      shown : reached i (support m i) j ≡ true → Reaches m i j
      shown e = elim (or_cases (eqb i j) (ltb 0 (support m i j)) e) [
        | inl same ↦ reaches_same (eqb-true i j same)
        | inr some ↦
            let (l, _, t) = count_found m.size (λ l. stands m l j && reaches m i l) (ltb-true 0 _ some) in
            let (s, r) = and_parts _ _ t in
            let (k, d) = reaches_chain m bounded circleless i l r in
            (suc k, chain_onward d s)
      ]

  module _ (s : ℕ → ℕ) (settled : Settled m i s) where
    -- along a chain from i every block is shown as reached
    pub settled_onward : {k j : ℕ} → reached i s j ≡ true → {l : ℕ} → Chain m k j l → reached i s l ≡ true
    settled_onward at empty = at
    settled_onward at (then {a = x} {b = y} t e) =
        let (upper, lower) = bounded x y t in
        settled_onward
        (or_right _ _ (lt-ltb 0 (s y) (rw (settled y lower) (count_some m.size _ x upper (and_from _ _ t at)))))
        e

    -- what is shown is reached: back along lines to i, for as long as a chain can be
    pub settled_back : (fuel : ℕ) {k l t : ℕ} → l < m.size → Chain m k l t → m.size < k + fuel → reached i s l ≡ true → Reaches m i l
    settled_back zero block d long at = absurd (omega (arith, chain_within_size m bounded circleless d))
    settled_back (suc fuel) {l = l} block d long at = elim (or_cases (eqb i l) (ltb 0 (s l)) at) [
      | inl same ↦ reaches_same (eqb-true i l same)
      | inr some ↦
          let (x, below, t) = count_found m.size (λ x. stands m x l && reached i s x) (rw (sym (settled l block)) (ltb-true 0 (s l) some)) in
          let (line, shown) = and_parts _ _ t in
          let (k, e) = settled_back fuel below (then line d) (omega arith) shown in
          (suc k, chain_onward e line)
    ]

    pub settled_reached : (l : ℕ) → l < m.size → reached i s l ≡ reaches m i l
    settled_reached l block =
        same_from_decides (reached i s l) (reaches m i l)
        (settled_back (suc m.size) block empty (omega arith), λ (k, d). settled_onward (or_left _ _ (eq-eqb i i refl)) d)
        (reaches_decides m bounded circleless i l)

    -- the local equation has one solution
    pub settled_support : (j : ℕ) → j < m.size → s j ≡ support m i j
    unfolding support
    settled_support j below = settled j below ∙ counted_same m (reached i s) (reaches m i) settled_reached j
