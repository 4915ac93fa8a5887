-- Totals over all chains: where they are zero, and the equation that they solve in a book without circles.
--   along_same, along_zero, along_add, along_sum, along_times   a line's factor times equals, zero, a sum, or a product
--   walks_no_chain, walks_long, total_no_chain   no chains, no total
--   total_from_lines   the total is one at the same block and goes on along each line from the upper block
use Rattle.std.proofs.Common.{◌≡◌, ℕ, zero, suc, ◌<◌, true, cond, eqb, is_some, Some, None, Option, sym, refl, ap, ◌∙◌, subst, lt_irrefl}
use Rattle.std.proofs.lemmas.Bool.{ne_eqb, cond-false}
use Rattle.factors.specs.Ring.{Ring}
use Rattle.books.specs.Graph.{Meaning, Bounded, Chain, Reaches, Circleless, along, walks, total}
use Rattle.books.specs.Graph.Chain.{empty, then}
use Rattle.books.proofs.Chains.{chain_short}
use Rattle.books.proofs.Sums.{sum, add_none, mul_zero, zero_mul, sum_same, sum_zeros, mul_sum, sum_exchange, sum_first}

module _ {F : Type 0} (r : Ring F) where
  open r.ops use {zero as o, one as i, add as ◌⊕◌, mul as ◌⊗◌}

  infixl 60 ◌⊕◌
  infixl 70 ◌⊗◌
  -- where no line stands, x and y may differ
  pub along_same : (l : Option F) (x y : F) → (is_some l ≡ true → x ≡ y) → along r.ops l x ≡ along r.ops l y
  along_same (Some f) x y same = ap (λ u. f ⊗ u) (same refl)
  along_same None x y same = refl

  pub along_zero : (l : Option F) → along r.ops l o ≡ o
  along_zero (Some f) = mul_zero r f
  along_zero None = refl

  pub along_add : (l : Option F) (x y : F) → along r.ops l (x ⊕ y) ≡ along r.ops l x ⊕ along r.ops l y
  along_add (Some f) x y = r.laws.mul-add f x y
  along_add None x y = sym (r.laws.add-zero o)

  pub along_times : (l : Option F) (x y : F) → along r.ops l (x ⊗ y) ≡ along r.ops l x ⊗ y
  along_times (Some f) x y = sym (r.laws.mul_assoc f x y)
  along_times None x y = sym (zero_mul r y)

  pub along_sum : (l : Option F) (n : ℕ) (f : ℕ → F) → along r.ops l (sum r n f) ≡ sum r n (λ k. along r.ops l (f k))
  along_sum (Some x) n f = mul_sum r n x f
  along_sum None n f = sym (sum_zeros r n (λ k. o) (λ k h. refl))

  module _ (m : Meaning F) where
    pub walks_no_chain : (k a b : ℕ) → (Chain m k a b → ⊥) → walks r.ops m k a b ≡ o
    unfolding walks
    walks_no_chain zero a b none =
        cond-false (eqb a b) i o (ne_eqb a b (λ same. none (subst (λ (n : ℕ). Chain m 0 a n) same empty)))
    walks_no_chain (suc k) a b none =
        sum_zeros r m.size (λ c. along r.ops (m.line a c) (walks r.ops m k c b))
        (λ c h. along_same (m.line a c) _ o (λ s. walks_no_chain k c b (λ d. none (then s d))) ∙ along_zero (m.line a c))

    pub walks_long : Bounded m → Circleless m → (a b : ℕ) → a < m.size → walks r.ops m m.size a b ≡ o
    walks_long bounded circleless a b h =
        walks_no_chain m.size a b (λ d. lt_irrefl m.size (chain_short m bounded circleless h d))

    pub total_no_chain : (a b : ℕ) → (Reaches m a b → ⊥) → total r.ops m a b ≡ o
    unfolding total
    total_no_chain a b none = sum_zeros r m.size (λ k. walks r.ops m k a b) (λ k h. walks_no_chain k a b (λ d. none (k, d)))

    pub total_from_lines : Bounded m → Circleless m → (a b : ℕ) → a < m.size
        → total r.ops m a b ≡ cond (eqb a b) i o ⊕ sum r m.size (λ c. along r.ops (m.line a c) (total r.ops m c b))
    unfolding total walks
    total_from_lines bounded circleless a b h =
        sym (add_none r (total r.ops m a b) _ (walks_long bounded circleless a b h))
        ∙ sum_first r m.size (λ k. walks r.ops m k a b)
        ∙ ap (λ u. walks r.ops m 0 a b ⊕ u)
        (sum_exchange r m.size m.size (λ k c. along r.ops (m.line a c) (walks r.ops m k c b))
        ∙ sum_same r m.size _ _ (λ c l. sym (along_sum (m.line a c) m.size (λ k. walks r.ops m k c b))))
