-- How a change of one line changes the totals.
--   total_unique   in a book without circles only the totals solve the equation of totals
--   entered_total   what a new line adds: the totals to its upper block times its factor times those from its lower block
--   struck_total   what a struck line takes away: the same, with the opposite factor
use Rattle.std.proofs.Common.{◌≡◌, ℕ, zero, suc, ◌<◌, Bool, true, false, cond, ◌&&◌, eqb, is_some, Some, None, Option, sym, refl, ap, ◌∙◌, ap₂, lt_irrefl}
use Rattle.std.proofs.lemmas.Bool.{false_from_ne_true, eq-eqb, eqb-true, ne_eqb, and_parts, and_from, and_right, cond-true, cond-false}
use Rattle.factors.specs.Ring.{Ring}
use Rattle.books.specs.Graph.{Meaning, with_line, Bounded, Chain, Reaches, Circleless, reaches, along, total}
use Rattle.books.specs.Graph.Chain.{empty, then}
use Rattle.books.proofs.Chains.{chain_short, reaches_chain, relined_again, with_line_bounded, strike_circleless, struck_apart, enter_circleless}
use Rattle.books.proofs.Sums.{sum, zero-add, add_none, mul_zero, zero_mul, add_undone, sum_same, sum_add, sum_mul, sum_only}
use Rattle.books.proofs.Totals.{along_same, along_add, along_times, total_no_chain, total_from_lines}

module _ {F : Type 0} (r : Ring F) where
  open r.ops use {zero as o, one as e, add as ◌⊕◌, mul as ◌⊗◌}

  infixl 60 ◌⊕◌
  infixl 70 ◌⊗◌
  abbrev T : Meaning F → ℕ → ℕ → F
  T = total r.ops

  -- one at the same block
  abbrev same : ℕ → ℕ → F
  same i j = cond (eqb i j) e o

  -- x taken on along each line from i
  abbrev onward : Meaning F → (ℕ → F) → ℕ → F
  onward m x i = sum r m.size (λ c. along r.ops (m.line i c) (x c))

  onward_add_times : (m : Meaning F) (x y : ℕ → F) (z : F) (i : ℕ)
      → onward m (λ c. x c ⊕ y c ⊗ z) i ≡ onward m x i ⊕ onward m y i ⊗ z
  onward_add_times m x y z i =
      sum_same r m.size _ _ (λ c h. along_add r (m.line i c) (x c) (y c ⊗ z)
      ∙ ap (λ u. along r.ops (m.line i c) (x c) ⊕ u) (along_times r (m.line i c) (y c) z))
      ∙ sum_add r m.size _ _
      ∙ ap (λ u. onward m x i ⊕ u) (sym (sum_mul r m.size z _))

  module _ (m : Meaning F) where
    -- two solutions are the same where no chain of k lines starts
    solutions_same : (j : ℕ) (x y : ℕ → F)
        → ((i : ℕ) → i < m.size → x i ≡ same i j ⊕ onward m x i)
        → ((i : ℕ) → i < m.size → y i ≡ same i j ⊕ onward m y i)
        → (k i : ℕ) → i < m.size → ((c : ℕ) → Chain m k i c → ⊥) → x i ≡ y i
    solutions_same j x y solves-x solves-y zero i h none = absurd (none i empty)
    solutions_same j x y solves-x solves-y (suc k) i h none =
        solves-x i h
        ∙ ap (λ u. same i j ⊕ u)
        (sum_same r m.size _ _ (λ c l. along_same r (m.line i c) (x c) (y c) (λ s. solutions_same j x y solves-x solves-y k c l (λ d w. none d (then s w)))))
        ∙ sym (solves-y i h)

    pub total_unique : Bounded m → Circleless m → (j : ℕ) (x : ℕ → F)
        → ((i : ℕ) → i < m.size → x i ≡ cond (eqb i j) e o ⊕ sum r m.size (λ c. along r.ops (m.line i c) (x c)))
        → (i : ℕ) → i < m.size → x i ≡ total r.ops m i j
    total_unique bounded circleless j x solves i h =
        solutions_same j x (λ c. T m c j) solves (λ c l. total_from_lines r m bounded circleless c j l) m.size i h
        (λ c d. lt_irrefl m.size (chain_short m bounded circleless h d))

  -- what a new line adds to what is taken on from i
  entered_onward : (m : Meaning F) (a b : ℕ) → b < m.size → m.line a b ≡ None → (f : F) (x : ℕ → F) (i : ℕ)
      → onward (with_line m a b (Some f)) x i ≡ onward m x i ⊕ same i a ⊗ (f ⊗ x b)
  entered_onward m a b lower none f x i =
      sum_same r m.size _ _ (λ c h. parted (eqb i a && eqb c b) (m.line i c) (x c) (vacant c))
      ∙ sum_add r m.size _ _
      ∙ ap (λ u. onward m x i ⊕ u)
      (sum_only r m.size (λ c. cond (eqb i a && eqb c b) (f ⊗ x c) o) b lower
      (λ c h other. cond-false _ _ _ (and_right _ _ (ne_eqb c b other)))
      ∙ chosen (eqb i a) (eqb b b) (f ⊗ x b) (eq-eqb b b refl))
    where
      vacant : (c : ℕ) → (eqb i a && eqb c b) ≡ true → m.line i c ≡ None
      vacant c t =
          let (p, q) = and_parts (eqb i a) (eqb c b) t in
          ap₂ m.line (eqb-true i a p) (eqb-true c b q) ∙ none

      parted : (t : Bool) (l : Option F) (y : F) → (t ≡ true → l ≡ None)
          → along r.ops (cond t (Some f) l) y ≡ along r.ops l y ⊕ cond t (f ⊗ y) o
      parted true l y blank = sym (ap (λ k. along r.ops k y ⊕ f ⊗ y) (blank refl) ∙ zero-add r (f ⊗ y))
      parted false l y blank = sym (r.laws.add-zero (along r.ops l y))

      chosen : (s t : Bool) (y : F) → t ≡ true → cond (s && t) y o ≡ cond s e o ⊗ y
      chosen true t y here = cond-true t y o here ∙ sym (r.laws.one-mul y)
      chosen false t y here = sym (zero_mul r y)

  module _ (m : Meaning F) (a b : ℕ) (bounded : Bounded m) (circleless : Circleless m) (upper : a < m.size) (lower : b < m.size) where
    pub entered_total : m.line a b ≡ None → (Reaches m b a → ⊥) → (f : F) (i j : ℕ) → i < m.size
        → total r.ops (with_line m a b (Some f)) i j ≡ total r.ops m i j ⊕ (total r.ops m i a ⊗ f) ⊗ total r.ops m b j
    entered_total none apart f i j h =
        sym (total_unique (with_line m a b (Some f)) (with_line_bounded m a b (Some f) bounded upper lower)
        (enter_circleless m a b (Some f) bounded circleless
        (false_from_ne_true (reaches m b a) (λ t. apart (reaches_chain m bounded circleless b a t))))
        j x solves i h)
        ∙ ap (λ u. T m i j ⊕ u) (sym (r.laws.mul_assoc (T m i a) f (T m b j)))
      where
        y : F
        y = f ⊗ T m b j

        x : ℕ → F
        x c = T m c j ⊕ T m c a ⊗ y

        at_lower : x b ≡ T m b j
        at_lower = add_none r _ _ (ap (λ u. u ⊗ y) (total_no_chain r m b a apart) ∙ zero_mul r y)

        gathered : (p s q t : F) → p ⊕ s ⊕ (q ⊕ t) ⊗ y ≡ p ⊕ (s ⊕ t ⊗ y ⊕ q ⊗ y)
        gathered p s q t =
            ap (λ u. p ⊕ s ⊕ u) (r.laws.add-mul q t y ∙ r.laws.add_comm (q ⊗ y) (t ⊗ y))
            ∙ r.laws.add_assoc p s (t ⊗ y ⊕ q ⊗ y)
            ∙ ap (λ u. p ⊕ u) (sym (r.laws.add_assoc s (t ⊗ y) (q ⊗ y)))

        solves : (c : ℕ) → c < m.size → x c ≡ same c j ⊕ onward (with_line m a b (Some f)) x c
        solves c l =
            ap₂ (λ s t. s ⊕ t ⊗ y) (total_from_lines r m bounded circleless c j l) (total_from_lines r m bounded circleless c a l)
            ∙ gathered (same c j) (onward m (λ d. T m d j) c) (same c a) (onward m (λ d. T m d a) c)
            ∙ ap (λ u. same c j ⊕ u) (sym (entered_onward m a b lower none f x c
            ∙ ap₂ ◌⊕◌ (onward_add_times m (λ d. T m d j) (λ d. T m d a) y c) (ap (λ u. same c a ⊗ (f ⊗ u)) at_lower)))

  module _ (m : Meaning F) (a b : ℕ) (bounded : Bounded m) (circleless : Circleless m) (upper : a < m.size) (lower : b < m.size) where
    -- read backwards: the book is the one without the line, with the line entered
    pub struck_total : (f : F) → m.line a b ≡ Some f → (i j : ℕ) → i < m.size
        → total r.ops (with_line m a b None) i j ≡ total r.ops m i j ⊕ (total r.ops m i a ⊗ r.opposite f) ⊗ total r.ops m b j
    struck_total f stood i j h =
        sym (ap₂ ◌⊕◌ (rebuilt i j h) (ap₂ (λ s t. s ⊗ r.opposite f ⊗ t) to_upper from_lower)
        ∙ add_undone r (T struck i j) (T struck i a) f (T struck b j))
      where
        struck : Meaning F
        struck = with_line m a b None

        apart : Reaches struck b a → ⊥
        apart = struck_apart m a b circleless (ap is_some stood)

        rebuilt : (c d : ℕ) → c < m.size → T m c d ≡ T struck c d ⊕ T struck c a ⊗ f ⊗ T struck b d
        rebuilt c d l =
            ap (λ n. T n c d) (sym (ap (λ k. with_line struck a b k) (sym stood) ∙ relined_again m a b None))
            ∙ entered_total struck a b (with_line_bounded m a b None bounded upper lower) (strike_circleless m a b circleless) upper lower
            (cond-true _ _ _ (and_from _ _ (eq-eqb a a refl) (eq-eqb b b refl))) apart f c d l

        to_upper : T m i a ≡ T struck i a
        to_upper = rebuilt i a h ∙ add_none r _ _ (ap (λ u. T struck i a ⊗ f ⊗ u) (total_no_chain r struck b a apart) ∙ mul_zero r _)

        from_lower : T m b j ≡ T struck b j
        from_lower =
            rebuilt b j lower
            ∙ add_none r _ _ (ap (λ u. u ⊗ f ⊗ T struck b j) (total_no_chain r struck b a apart)
            ∙ ap (λ u. u ⊗ T struck b j) (zero_mul r f) ∙ zero_mul r _)
