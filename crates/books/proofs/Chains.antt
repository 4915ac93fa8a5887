-- Chains of lines: how they join, how long they get without a circle, and what reach, detours and needed lines say of them.
--   chain_append, reaches_append, reaches_same, reaches_after, chain_last, chain_onward   chains put together and apart
--   chain_end   chains end at blocks
--   chain_short, chain_within_size   a chain has fewer lines than there are blocks
--   reaches_decides, reaches_chain, chain_reaches   computed reach is the existence of a chain
--   search_decides   a search that has followed every line has found the reach
--   support_counted, detour_decides, needed_decides, needed_is_support_one   supports and needed lines
--   chain_among, circleless_among   fewer lines
--   relined_again, with_line_bounded, strike_circleless, struck_apart, enter_circleless   a change of one line
--   no_lines_circleless   the book without lines
use Rattle.std.proofs.Common.{◌≡◌, ℕ, zero, suc, ◌+◌, ◌-◌, ◌<◌, ◌≤◌, Bool, true, false, cond, not, ◌&&◌, eqb, ◌⊎◌, is_some, None, Decides, Option, sym, refl, ap, ◌∙◌, subst, ap₂, inl, inr, suc-add, zero-add, arith}
use mathlib.Core.Path.{fun_ext}
use Rattle.std.proofs.lemmas.Bool.{false≢true, cases_Bool, eq-eqb, eqb-true, cond-true, cond-false, and_parts, and_from, or_cases, or_left, or_right}
use Rattle.std.proofs.lemmas.Bool.Decides.{same_from_decides, not_from_Decides, Decides-like, Decides-and, Decides-not, nat_tests}
use Rattle.books.specs.Graph.{Meaning, no_lines, with_line, stands, Bounded, Chain, Reaches, Circleless, any_below, reaches_within, reaches, support, detour, needed}
use Rattle.books.specs.Graph.Chain.{empty, then}
use Rattle.books.specs.Laws.{Counted}
use Rattle.books.proofs.Counts.{any_decides_of, decides_itself, any_found, any_here, count_one_decides, count_counted}

module _ {F : Type 0} {m : Meaning F} where
  pub chain_append : {j k a b c : ℕ} → Chain m j a b → Chain m k b c → Chain m (j + k) a c
  chain_append empty d = rw zero-add d
  chain_append (then s e) d = rw suc-add (then s (chain_append e d))

  pub reaches_append : {a b c : ℕ} → Reaches m a b → Reaches m b c → Reaches m a c
  reaches_append (j, d) (k, e) = (j + k, chain_append d e)

  pub reaches_same : {a b : ℕ} → a ≡ b → Reaches m a b
  reaches_same {a} same = subst (λ (n : ℕ). Reaches m a n) same (0, empty)

  pub reaches_after : {a b c : ℕ} → stands m a b ≡ true → Reaches m b c → Reaches m a c
  reaches_after s (k, d) = (suc k, then s d)

  -- the last line of a chain that a line begins
  pub chain_last : {k a b c : ℕ} → stands m a b ≡ true → Chain m k b c → (d : ℕ) × Chain m k a d × (stands m d c ≡ true)
  chain_last {a} s empty = (a, empty, s)
  chain_last s (then t e) = let r = chain_last t e in (r.0, then s r.1, r.2)

  pub chain_onward : {k a b c : ℕ} → Chain m k a b → stands m b c ≡ true → Chain m (suc k) a c
  chain_onward empty s = then s empty
  chain_onward (then t e) s = then t (chain_onward e s)

module _ {F : Type 0} (m : Meaning F) (bounded : Bounded m) where
  pub chain_end : {k a b : ℕ} → a < m.size → Chain m k a b → b < m.size
  chain_end h empty = h
  chain_end h (then {a} {b} s e) = chain_end (bounded a b s).1 e

module _ {F : Type 0} (m : Meaning F) where
  pub within_reaches : (k a b : ℕ) → reaches_within m k a b ≡ true → Reaches m a b
  within_reaches zero a b e = reaches_same (eqb-true a b e)
  within_reaches (suc k) a b e = elim (or_cases (eqb a b) (any_below m.size (λ c. stands m a c && reaches_within m k c b)) e) [
    | inl s ↦ reaches_same (eqb-true a b s)
    | inr f ↦
        let (c, _, g) = any_found m.size (λ c. stands m a c && reaches_within m k c b) f in
        let (s, t) = and_parts (stands m a c) (reaches_within m k c b) g in
        reaches_after s (within_reaches k c b t)
  ]

module _ {F : Type 0} (m : Meaning F) (bounded : Bounded m) where
  pub chain_within : {j a b : ℕ} (k : ℕ) → j ≤ k → Chain m j a b → reaches_within m k a b ≡ true
  chain_within {a} zero h empty = eq-eqb a a refl
  chain_within {a} (suc k) h empty = or_left _ _ (eq-eqb a a refl)
  chain_within zero h (then s e) = absurd (omega arith)
  chain_within (suc k) h (then {a} {b} s e) =
      or_right _ _ (any_here m.size _ b (bounded a b s).1 (and_from _ _ s (chain_within k (omega arith) e)))

module _ {F : Type 0} (m : Meaning F) (bounded : Bounded m) (circleless : Circleless m) where
  -- where the blocks that a reaches are numbered by different numbers below s, a chain from a has less than s lines:
  -- past its first line the number of a is free, and the block with the largest number takes it
  pigeonhole : {k a b : ℕ} → Chain m k a b → (s : ℕ) (rank : ℕ → ℕ)
      → ((i : ℕ) → Reaches m a i → rank i < s)
      → ((i j : ℕ) → Reaches m a i → Reaches m a j → rank i ≡ rank j → i ≡ j)
      → k < s
  pigeonhole {a} empty s rank below apart = let h = below a (0, empty) in omega arith
  pigeonhole (then {k} {a} {b} t e) s rank below apart =
      let h = pigeonhole e (s - 1) next (λ i r. next_below i (reaches_after t r) (differs r))
      (λ i j p q same. apart i j (reaches_after t p) (reaches_after t q) (next_apart i j (differs p) (differs q) same)) in
      let here = below a (0, empty) in
      omega arith
    where
      next : ℕ → ℕ
      next i = cond (eqb (rank i) (s - 1)) (rank a) (rank i)

      differs : {i : ℕ} → Reaches m b i → rank i ≡ rank a → ⊥
      differs {i} (j, d) same =
          circleless j a (then t (subst (λ (n : ℕ). Chain m j b n) (apart i a (suc j, then t d) (0, empty) same) d))

      next_below : (i : ℕ) → Reaches m a i → (rank i ≡ rank a → ⊥) → next i < s - 1
      next_below i r other = let hi = below i r in let ha = below a (0, empty) in grind (arith, nat_tests)

      next_apart : (i j : ℕ) → (rank i ≡ rank a → ⊥) → (rank j ≡ rank a → ⊥) → next i ≡ next j → rank i ≡ rank j
      next_apart i j p q same = grind (arith, nat_tests)

  -- a chain from a block has fewer lines than there are blocks
  pub chain_short : {k a b : ℕ} → a < m.size → Chain m k a b → k < m.size
  chain_short h d = pigeonhole d m.size (λ i. i) (λ i (j, e). chain_end m bounded h e) (λ i j p q same. same)

  -- and no chain has more
  pub chain_within_size : {k a b : ℕ} → Chain m k a b → k ≤ m.size
  chain_within_size empty = omega arith
  chain_within_size (then {k} {a} {b} s e) = let h = chain_short (bounded a b s).0 (then s e) in omega arith

  pub reaches_decides : (a b : ℕ) → Decides (reaches m a b) (Reaches m a b)
  unfolding reaches
  reaches_decides a b = (within_reaches m m.size a b, λ (k, d). chain_within m bounded m.size (chain_within_size d) d)

  pub reaches_chain : (a b : ℕ) → reaches m a b ≡ true → Reaches m a b
  reaches_chain a b = (reaches_decides a b).0

  pub chain_reaches : {k a b : ℕ} → Chain m k a b → reaches m a b ≡ true
  chain_reaches {k} {a} {b} d = (reaches_decides a b).1 (k, d)

  -- what a search from a has seen, once it follows every line of what it has seen, is what a reaches
  pub search_decides : (a : ℕ) (seen : ℕ → Bool) → seen a ≡ true
      → ((i j : ℕ) → i < m.size → j < m.size → seen i ≡ true → stands m i j ≡ true → seen j ≡ true)
      → ((j : ℕ) → j < m.size → seen j ≡ true → Reaches m a j)
      → (j : ℕ) → j < m.size → seen j ≡ reaches m a j
  search_decides a seen first closed reached j l =
      same_from_decides (seen j) (reaches m a j) (reached j l, λ (k, d). carried first d) (reaches_decides a j)
    where
      carried : {k i n : ℕ} → seen i ≡ true → Chain m k i n → seen n ≡ true
      carried s empty = s
      carried s (then {a = i} {b = n} t e) =
          let (p, q) = bounded i n t in carried (closed i n p q s t) e

  -- a chain of two lines or more
  pub detour_decides : (a b : ℕ) → Decides (detour m a b) ((k : ℕ) × Chain m (suc (suc k)) a b)
  unfolding detour
  detour_decides a b =
      Decides-like (detour m a b) (λ (c, _, (d, _, (s, (t, (k, w))))). (k, then s (then t w))) (λ (k, d). first_lines d)
      (any_decides_of m.size _ _ (λ c. any_decides_of m.size _ _ (λ d.
      Decides-and _ _ (decides_itself (stands m a c)) (Decides-and _ _ (decides_itself (stands m c d)) (reaches_decides d b)))))
    where
      first_lines : {k : ℕ} → Chain m (suc (suc k)) a b
          → (c : ℕ) × (c < m.size) × ((d : ℕ) × (d < m.size) × ((stands m a c ≡ true) × ((stands m c d ≡ true) × Reaches m d b)))
      first_lines (then {b = c} s (then {k} {b = d} t w)) = (c, (bounded a c s).1, (d, (bounded c d t).1, (s, (t, (k, w)))))

  pub needed_decides : (a b : ℕ) → Decides (needed m a b) ((stands m a b ≡ true) × ((k : ℕ) → Chain m (suc (suc k)) a b → ⊥))
  unfolding needed
  needed_decides a b =
      Decides-and (stands m a b) (not (detour m a b)) (decides_itself (stands m a b))
      (Decides-like (not (detour m a b)) (λ none k d. none (k, d)) (λ none (k, d). none k d)
      (Decides-not (detour m a b) (detour_decides a b)))

  pub support_counted : (a b : ℕ) → Counted (λ l. (stands m l b ≡ true) × Reaches m a l) m.size (support m a b)
  unfolding support
  support_counted a b =
      count_counted m.size _ _ (λ l. Decides-and (stands m l b) (reaches m a l) (decides_itself (stands m l b)) (reaches_decides a l))

  -- a line is needed if its support number is one: a reaches no other block with a line to b
  pub needed_is_support_one : (a b : ℕ) → a < m.size → stands m a b ≡ true → needed m a b ≡ eqb (support m a b) 1
  unfolding support
  needed_is_support_one a b h s =
      same_from_decides (needed m a b) (eqb (support m a b) 1)
      (Decides-like (needed m a b) (λ (_, none) l _ t. let (u, r) = and_parts _ _ t in only none (reaches_chain a l r).1 u) (λ alone. (s, λ k d. elsewhere alone d)) (needed_decides a b))
      (count_one_decides m.size (λ l. stands m l b && reaches m a l) a h (and_from _ _ s (chain_reaches empty)))
    where
      only : ((k : ℕ) → Chain m (suc (suc k)) a b → ⊥) → {k l : ℕ} → Chain m k a l → stands m l b ≡ true → l ≡ a
      only none empty t = refl
      only none (then {k} u e) t = absurd (none k (chain_onward (then u e) t))

      elsewhere : ((l : ℕ) → l < m.size → (stands m l b && reaches m a l) ≡ true → l ≡ a) → {k : ℕ} → Chain m (suc (suc k)) a b → ⊥
      elsewhere alone (then {k = suc k} t e) =
          let (l, d, u) = chain_last t e in
          circleless k a (subst (λ (n : ℕ). Chain m (suc k) a n) (alone l (bounded l b u).0 (and_from _ _ u (chain_reaches d))) d)

-- where every line of m is one of n
module _ {F : Type 0} (m n : Meaning F) (among : (a b : ℕ) → stands m a b ≡ true → stands n a b ≡ true) where
  pub chain_among : {k a b : ℕ} → Chain m k a b → Chain n k a b
  chain_among empty = empty
  chain_among (then {a} {b} s e) = then (among a b s) (chain_among e)

  pub circleless_among : Circleless n → Circleless m
  circleless_among circleless k a d = circleless k a (chain_among d)

module _ {F : Type 0} (m : Meaning F) (a b : ℕ) where
  -- the lines of a book in which the pair (a,b) is set anew
  pub with_line_stands : (o : Option F) (i j : ℕ) → stands (with_line m a b o) i j ≡ true
      → ((i ≡ a) × (j ≡ b) × (is_some o ≡ true)) ⊎ (stands m i j ≡ true)
  with_line_stands o i j s = elim (cases_Bool (eqb i a && eqb j b)) [
    | inl e ↦ let (p, q) = and_parts (eqb i a) (eqb j b) e in
        inl (eqb-true i a p, eqb-true j b q, ap is_some (sym (cond-true (eqb i a && eqb j b) o (m.line i j) e)) ∙ s)
    | inr e ↦ inr (ap is_some (sym (cond-false (eqb i a && eqb j b) o (m.line i j) e)) ∙ s)
  ]

  -- a change is undone by what stood there before
  pub relined_again : (o : Option F) → with_line (with_line m a b o) a b (m.line a b) ≡ m
  relined_again o =
      let again = fun_ext (λ i. fun_ext (λ j. at i j)) in
      λ t. record { size = m.size; line = again t }
    where
      at : (i j : ℕ) → cond (eqb i a && eqb j b) (m.line a b) (cond (eqb i a && eqb j b) o (m.line i j)) ≡ m.line i j
      at i j = elim (cases_Bool (eqb i a && eqb j b)) [
        | inl e ↦ let (p, q) = and_parts (eqb i a) (eqb j b) e in
            cond-true _ _ _ e ∙ ap₂ m.line (sym (eqb-true i a p)) (sym (eqb-true j b q))
        | inr e ↦ cond-false _ _ _ e ∙ cond-false _ _ _ e
      ]

  pub with_line_bounded : (o : Option F) → Bounded m → a < m.size → b < m.size → Bounded (with_line m a b o)
  with_line_bounded o bounded upper lower i j s = elim (with_line_stands o i j s) [
    | inl (x, y, _) ↦ (omega arith, omega arith)
    | inr old ↦ bounded i j old
  ]

  struck_among : (i j : ℕ) → stands (with_line m a b None) i j ≡ true → stands m i j ≡ true
  struck_among i j s = elim (with_line_stands None i j s) [ inl (_, _, never) ↦ absurd (false≢true never) | inr old ↦ old ]

  pub strike_circleless : Circleless m → Circleless (with_line m a b None)
  strike_circleless = circleless_among (with_line m a b None) m struck_among

  -- without its line, b does not reach a: with it that would be a circle
  pub struck_apart : Circleless m → stands m a b ≡ true → Reaches (with_line m a b None) b a → ⊥
  struck_apart circleless s (k, d) = circleless k a (then s (chain_among (with_line m a b None) m struck_among d))

  -- a chain with the new line goes from a block that reaches a to one that b reaches
  pub entered_chain : (o : Option F) {k i j : ℕ} → Chain (with_line m a b o) k i j → Chain m k i j ⊎ (Reaches m i a × Reaches m b j)
  entered_chain o empty = inl empty
  entered_chain o (then {k} {a = i} {b = c} s e) = elim (with_line_stands o i c s) [
    | inl (x, y, _) ↦ elim (entered_chain o e) [ inl d ↦ inr (reaches_same x, reaches_append (reaches_same (sym y)) (k, d)) | inr (_, q) ↦ inr (reaches_same x, q) ]
    | inr old ↦ elim (entered_chain o e) [ inl d ↦ inl (then old d) | inr (p, q) ↦ inr (reaches_after old p, q) ]
  ]

  pub enter_circleless : (o : Option F) → Bounded m → Circleless m → reaches m b a ≡ false → Circleless (with_line m a b o)
  enter_circleless o bounded circleless apart k i d = elim (entered_chain o d) [
    | inl old ↦ circleless k i old
    | inr (p, q) ↦ not_from_Decides (reaches m b a) (reaches_decides m bounded circleless b a) apart (reaches_append q p)
  ]

pub no_lines_circleless : (F : Type 0) (n : ℕ) → Circleless (no_lines {F = F} n)
no_lines_circleless F n k a (then never e) = false≢true never
