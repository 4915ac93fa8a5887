-- A row after the change of one line: what it starts from, and what it holds once the change is worked in.
--   count_lined   one line more among those that are counted
--   reaches_apart, support_apart   a block that does not reach the line
use Rattle.std.proofs.Common.{◌≡◌, ℕ, ◌+◌, ◌*◌, ◌<◌, ◌≤◌, Bool, true, false, cond, ◌&&◌, ◌||◌, eqb, ltb, ◌⊎◌, List, length, get_or, is_some, Some, None, Decides, Option, sym, refl, ap, ◌∙◌, subst, ap₂, inl, inr, arith}
use Rattle.std.proofs.lemmas.Bool.{both_ways, false_from_ne_true, cases_eq, eq-eqb, ne_eqb, and_parts, and_from, and_left, and_right, cond-true, cond-false, lt-ltb}
use Rattle.std.proofs.lemmas.Bool.Decides.{same_from_decides, not_from_Decides, Decides-at}
use Rattle.factors.specs.Ring.{Operations, Ring}
use Rattle.books.specs.Graph.{Meaning, with_line, stands, Bounded, Chain, Reaches, Circleless, count_below, reaches, support, total}
use Rattle.books.specs.Graph.Chain.{empty, then}
use Rattle.books.specs.Cells.{Scratched, totals, noted_support, cells_meaning}
use Rattle.books.specs.Walks.{noted_total}
use Rattle.books.specs.Rows.{one, counted, support_row, reached, Settled, with_chains, Added, RowAnswered, HalfWorked}
use Rattle.books.specs.declared.cell.Cell.{Cell}
use Rattle.books.proofs.Counts.{count_none}
use Rattle.books.proofs.Chains.{reaches_append, chain_onward, reaches_decides, reaches_chain, chain_reaches, entered_chain, chain_among, with_line_stands, strike_circleless, with_line_bounded, relined_again, struck_apart}
use Rattle.books.proofs.ChangedTotals.{entered_total, struck_total}
use Rattle.books.proofs.Sums.{add_none, zero_mul, mul_zero}
use Rattle.books.proofs.Totals.{total_no_chain}
use Rattle.books.proofs.Supports.{count_same, count_turned, counted_same, support_reached, settled_support}
use Rattle.books.proofs.Squares.{same_meaning}

-- one line more, from a block that passes the test, is counted at its lower block
pub count_lined : (n a b : ℕ) (s t : ℕ → ℕ → Bool) (p : ℕ → Bool) → a < n → p a ≡ true → s a b ≡ true → t a b ≡ false
    → ((x y : ℕ) → (eqb x a && eqb y b) ≡ false → s x y ≡ t x y)
    → (j : ℕ) → count_below n (λ x. s x j && p x) ≡ count_below n (λ x. t x j && p x) + one (eqb j b)
count_lined n a b s t p upper passes line none same j = elim (cases_eq j b) [
  | inl here ↦
      let at : (s a j && p a) ≡ true = and_from _ _ (ap (s a) here ∙ line) passes in
      count_turned n (λ x. s x j && p x) (λ x. t x j && p x) a upper (and_left _ _ (ap (t a) here ∙ none))
      (λ x below other. ap (λ (v : Bool). v && p x) (same x j (and_left _ _ (ne_eqb x a other))))
      ∙ ap (λ (v : Bool). count_below n (λ x. t x j && p x) + one v) (at ∙ sym (eq-eqb j b here))
  | inr there ↦
      let rest = count_same n (λ x. s x j && p x) (λ x. t x j && p x) (λ x below. ap (λ (v : Bool). v && p x) (same x j (and_right _ _ (ne_eqb j b there)))) in
      let e : one (eqb j b) ≡ 0 = ap one (ne_eqb j b there) in
      omega arith
]

-- no line of a circle: a block counts no line to itself
pub support_own : {F : Type 0} (m : Meaning F) → Bounded m → Circleless m → (i : ℕ) → support m i i ≡ 0
unfolding support
support_own m bounded circleless i =
    count_none m.size (λ l. stands m l i && reaches m i l) (λ l below. false_from_ne_true _ (λ e.
    let (line, r) = and_parts (stands m l i) (reaches m i l) e in
    let (k, d) = reaches_chain m bounded circleless i l r in
    circleless k i (chain_onward d line)))

module _ {F : Type 0} (m : Meaning F) (a b : ℕ) (o : Option F) where
  -- every pair but (a,b) is as it was
  pub other_stands : (x y : ℕ) → (eqb x a && eqb y b) ≡ false → stands (with_line m a b o) x y ≡ stands m x y
  other_stands x y e = ap is_some (cond-false (eqb x a && eqb y b) o (m.line x y) e)

  pub this_line : (with_line m a b o).line a b ≡ o
  this_line = cond-true (eqb a a && eqb b b) o (m.line a b) (and_from _ _ (eq-eqb a a refl) (eq-eqb b b refl))

  module _ (i : ℕ) (apart : Reaches m i a → ⊥) where
    chain_apart : {k x y : ℕ} → Reaches m i x → Chain m k x y → Chain (with_line m a b o) k x y
    chain_apart at empty = empty
    chain_apart at (then {k} {a = x} {b = y} s e) =
        then (other_stands x y (and_left _ _ (ne_eqb x a (λ same. apart (subst (λ (l : ℕ). Reaches m i l) same at)))) ∙ s)
        (chain_apart (reaches_append at (1, then s empty)) e)

    module _ (bounded : Bounded m) (circleless : Circleless m) (bounded' : Bounded (with_line m a b o)) (circleless' : Circleless (with_line m a b o)) where
      pub reaches_apart : (x : ℕ) → reaches (with_line m a b o) i x ≡ reaches m i x
      reaches_apart x =
          same_from_decides (reaches (with_line m a b o) i x) (reaches m i x) (
            λ e. let (k, d) = reaches_chain (with_line m a b o) bounded' circleless' i x e in old k (entered_chain m a b o d),
            λ (k, d). chain_reaches (with_line m a b o) bounded' circleless' (chain_apart (0, empty) d),
          )
          (reaches_decides m bounded circleless i x)
        where
          old : (k : ℕ) → Chain m k i x ⊎ (Reaches m i a × Reaches m b x) → Reaches m i x
          old k (inl d) = (k, d)
          old k (inr (p, q)) = absurd (apart p)

      pub support_apart : (j : ℕ) → support (with_line m a b o) i j ≡ support m i j
      unfolding support
      support_apart j = count_same m.size _ _ (λ l below. at l (reaches m i l) refl)
        where
          at : (l : ℕ) (t : Bool) → reaches m i l ≡ t → (stands (with_line m a b o) l j && reaches (with_line m a b o) i l) ≡ (stands m l j && reaches m i l)
          at l true e =
              ap₂ ◌&&◌ (other_stands l j (and_left _ _ (ne_eqb l a (λ same. apart (subst (λ (x : ℕ). Reaches m i x) same (reaches_chain m bounded circleless i l e)))))) (reaches_apart l)
          at l false e = and_right _ _ (reaches_apart l ∙ e) ∙ sym (and_right _ _ e)

-- A change of the line (a,b) by x, seen from the book m after it; before it the line was `was`.
pub record Changed {F : Type 0} (r : Ring F) (m : Meaning F) (a b : ℕ) (was : Option F) (x : F) : Type 0 where
  pub bounded_before : Bounded (with_line m a b was)
  pub circleless_before : Circleless (with_line m a b was)
  pub bounded : Bounded m
  pub circleless : Circleless m
  -- the lower block does not reach the line
  pub lower_apart : Reaches (with_line m a b was) b a → ⊥
  pub totals : (i j : ℕ) → i < m.size
      → total r.ops m i j ≡ r.ops.add (total r.ops (with_line m a b was) i j) (r.ops.mul (r.ops.mul (total r.ops (with_line m a b was) i a) x) (total r.ops (with_line m a b was) b j))
  pub supports_apart : (i j : ℕ) → (Reaches (with_line m a b was) i a → ⊥) → support m i j ≡ support (with_line m a b was) i j

module _ {F : Type 0} (r : Ring F) (m : Meaning F) (a b : ℕ) (bounded : Bounded m) (circleless : Circleless m) (upper : a < m.size) (lower : b < m.size) (f : F) where
  pub struck_changed : m.line a b ≡ None → Circleless (with_line m a b (Some f)) → Changed r m a b (Some f) (r.opposite f)
  struck_changed absent before = record {
    bounded_before = bounds;
    circleless_before = before;
    bounded = bounded;
    circleless = circleless;
    lower_apart = λ (k, d). before k a (then (ap is_some here) d);
    totals = λ i j below. ap (λ (book : Meaning F). total r.ops book i j) (sym again) ∙ struck_total r (with_line m a b (Some f)) a b bounds before upper lower f here i j below;
    supports_apart = λ i j apart.
        ap (λ (book : Meaning F). support book i j) (sym again)
        ∙ support_apart (with_line m a b (Some f)) a b None i apart bounds before (subst (λ (book : Meaning F). Bounded book) (sym again) bounded) (subst (λ (book : Meaning F). Circleless book) (sym again) circleless) j;
  }
    where
      bounds : Bounded (with_line m a b (Some f))
      bounds = with_line_bounded m a b (Some f) bounded upper lower

      here : (with_line m a b (Some f)).line a b ≡ Some f
      here = this_line m a b (Some f)

      again : with_line (with_line m a b (Some f)) a b None ≡ m
      again = ap (with_line (with_line m a b (Some f)) a b) (sym absent) ∙ relined_again m a b (Some f)

  pub entered_changed : m.line a b ≡ Some f → Changed r m a b None f
  entered_changed present = record {
    bounded_before = bounds;
    circleless_before = before;
    bounded = bounded;
    circleless = circleless;
    lower_apart = apart;
    totals = λ i j below. ap (λ (book : Meaning F). total r.ops book i j) (sym again) ∙ entered_total r (with_line m a b None) a b bounds before upper lower (this_line m a b None) apart f i j below;
    supports_apart = λ i j far.
        ap (λ (book : Meaning F). support book i j) (sym again)
        ∙ support_apart (with_line m a b None) a b (Some f) i far bounds before (subst (λ (book : Meaning F). Bounded book) (sym again) bounded) (subst (λ (book : Meaning F). Circleless book) (sym again) circleless) j;
  }
    where
      bounds : Bounded (with_line m a b None)
      bounds = with_line_bounded m a b None bounded upper lower

      before : Circleless (with_line m a b None)
      before = strike_circleless m a b circleless

      apart : Reaches (with_line m a b None) b a → ⊥
      apart = struck_apart m a b circleless (ap is_some present)

      again : with_line (with_line m a b None) a b (Some f) ≡ m
      again = ap (with_line (with_line m a b None) a b) (sym present) ∙ relined_again m a b None

-- where i does not reach the line, or b does not reach j, the total stays
module _ {F : Type 0} (r : Ring F) (m : Meaning F) (a b : ℕ) (was : Option F) (x : F) (changed : Changed r m a b was x) (i j : ℕ) (below : i < m.size) where
  open r.ops use {zero as o, add as ◌⊕◌, mul as ◌⊗◌}

  infixl 60 ◌⊕◌
  infixl 70 ◌⊗◌
  -- the total before the change
  abbrev T : ℕ → ℕ → F
  T = total r.ops (with_line m a b was)

  totals_apart : (Reaches (with_line m a b was) i a → ⊥) → total r.ops m i j ≡ T i j
  totals_apart apart =
      changed.totals i j below
      ∙ add_none r (T i j) _ (ap (λ u. u ⊗ x ⊗ T b j) (total_no_chain r (with_line m a b was) i a apart) ∙ ap (λ u. u ⊗ T b j) (zero_mul r x) ∙ zero_mul r (T b j))

  totals_beyond : (Reaches (with_line m a b was) b j → ⊥) → total r.ops m i j ≡ T i j
  totals_beyond apart =
      changed.totals i j below ∙ add_none r (T i j) _ (ap (λ u. T i a ⊗ x ⊗ u) (total_no_chain r (with_line m a b was) b j apart) ∙ mul_zero r (T i a ⊗ x))

-- a row of cells that holds the numbers of the book before the change
module _ {F : Type 0} (r : Ring F) (n : ℕ) (cells : List (Cell F)) (a b : ℕ) (was : Option F) (x : F) (changed : Changed r (cells_meaning n cells) a b was x) (i : ℕ) (row : i < n) where
  -- the book after the change, and before
  abbrev m : Meaning F
  m = cells_meaning n cells

  abbrev m₀ : Meaning F
  m₀ = with_line (cells_meaning n cells) a b was

  -- a row that does not reach the line holds the numbers of both books
  pub row_passes : (Reaches m₀ i a → ⊥) → RowAnswered r.ops m₀ n i cells → RowAnswered r.ops m n i cells
  row_passes apart answered = record {
    supported = λ j below. answered.supported j below ∙ sym (changed.supports_apart i j apart);
    totalled = λ j below. answered.totalled j below ∙ sym (totals_apart r m a b was x changed i j row apart);
  }

  pub row_passed : (Reaches m₀ i a → ⊥) → RowAnswered r.ops m n i cells → RowAnswered r.ops m₀ n i cells
  row_passed apart answered = record {
    supported = λ j below. answered.supported j below ∙ changed.supports_apart i j apart;
    totalled = λ j below. answered.totalled j below ∙ totals_apart r m a b was x changed i j row apart;
  }

  module _ (answered : RowAnswered r.ops m₀ n i cells) where
    -- it shows what its block reached before the change
    pub row_shown : (l : ℕ) → l < n → reached i (support_row n cells i) l ≡ reaches m₀ i l
    row_shown l below =
        ap (λ (s : ℕ). eqb i l || ltb 0 s) (answered.supported l below) ∙ support_reached m₀ changed.bounded_before changed.circleless_before i row l

    pub row_reaches : (l : ℕ) → l < n → Decides (reached i (support_row n cells i) l) (Reaches m₀ i l)
    row_reaches l below = Decides-at (reached i (support_row n cells i) l) (reaches m₀ i l) (row_shown l below) (reaches_decides m₀ changed.bounded_before changed.circleless_before i l)

    pub row_own : noted_support n cells i i ≡ 0
    row_own = answered.supported i row ∙ support_own m₀ changed.bounded_before changed.circleless_before i

    counted_before : (j : ℕ) → j < n → noted_support n cells i j ≡ counted m₀ (reached i (support_row n cells i)) j
    unfolding support
    counted_before j below = answered.supported j below ∙ counted_same m₀ (reaches m₀ i) (reached i (support_row n cells i)) (λ l h. sym (row_shown l h)) j

    module _ (upper : a < n) (at : reached i (support_row n cells i) a ≡ true) where
      pub struck_balance : is_some was ≡ true → stands m a b ≡ false
          → (j : ℕ) → j < n → noted_support n cells i j ≡ counted m (reached i (support_row n cells i)) j + one (eqb j b)
      struck_balance stood gone j below =
          counted_before j below
          ∙ count_lined n a b (stands m₀) (stands m) (reached i (support_row n cells i)) upper at (ap is_some (this_line m a b was) ∙ stood) gone (other_stands m a b was) j

      pub entered_balance : is_some was ≡ false → stands m a b ≡ true
          → (j : ℕ) → j < n → counted m (reached i (support_row n cells i)) j ≡ noted_support n cells i j + one (eqb j b)
      entered_balance none line j below =
          count_lined n a b (stands m) (stands m₀) (reached i (support_row n cells i)) upper at line (ap is_some (this_line m a b was) ∙ none) (λ p q e. sym (other_stands m a b was p q e)) j
          ∙ ap (λ (k : ℕ). k + one (eqb j b)) (sym (counted_before j below))

      -- the row's own block is none that the lower block reaches
      pub row_apart : i ≡ b → ⊥
      row_apart same = changed.lower_apart (subst (λ (k : ℕ). Reaches m₀ k a) same ((row_reaches a upper).0 at))

      pub entered_apart : is_some was ≡ false → stands m a b ≡ true → reaches m b i ≡ false
      entered_apart none line =
          false_from_ne_true (reaches m b i) (λ e.
          let (k, d) = reaches_chain m changed.bounded changed.circleless b i e in
          let (l, c) = (row_reaches a upper).0 at in
          let (p, w) = reaches_append (k, d) (l, chain_among m₀ m among c) in
          changed.circleless p a (then line w))
        where
          among : (p q : ℕ) → stands m₀ p q ≡ true → stands m p q ≡ true
          among p q s = elim (with_line_stands m a b was p q s) [ inl (_, _, some) ↦ absurd (both_ways (is_some was) none some) | inr old ↦ old ]

    -- the row once the totals are added up and the support numbers are settled
    module _ (lower : b < n) (below-line : RowAnswered r.ops m₀ n b cells) (mid after : List (Cell F)) (upper : a < n)
        (added : Added r.ops n i b (r.ops.mul (noted_total r.ops n cells i a) x) n cells mid)
        (scratched : Scratched n cells mid) (same_totals : totals after ≡ totals mid) (settled : Settled (cells_meaning n mid) i (support_row n after i)) where
      shown_below : (j : ℕ) → j < n → reached b (support_row n cells b) j ≡ reaches m₀ b j
      shown_below j h = ap (λ (s : ℕ). eqb b j || ltb 0 s) (below-line.supported j h) ∙ support_reached m₀ changed.bounded_before changed.circleless_before b lower j

      pub row_mends : RowAnswered r.ops m n i after
      row_mends = record {
        supported = λ j h. settled_support m changed.bounded changed.circleless i (support_row n after i)
            (subst (λ (book : Meaning F). Settled book i (support_row n after i)) (same_meaning n cells mid scratched.same_lines) settled) j h;
        totalled = λ j h. ap (λ (ts : List F). get_or ts (i * n + j) r.ops.zero) same_totals ∙ added j h ∙ by_reach j h (reaches m₀ b j) refl;
      }
        where
          by_reach : (j : ℕ) → j < n → (t : Bool) → reaches m₀ b j ≡ t
              → cond (ltb j n && reached b (support_row n cells b) j) (with_chains r.ops n cells i b (r.ops.mul (noted_total r.ops n cells i a) x) j) (noted_total r.ops n cells i j) ≡ total r.ops m i j
          by_reach j h true e =
              cond-true _ _ _ (and_from _ _ (lt-ltb j n h) (shown_below j h ∙ e))
              ∙ ap₂ (λ (s t : F). r.ops.add s (r.ops.mul (r.ops.mul t x) (noted_total r.ops n cells b j))) (answered.totalled j h) (answered.totalled a upper)
              ∙ ap (λ (t : F). r.ops.add (total r.ops m₀ i j) (r.ops.mul (r.ops.mul (total r.ops m₀ i a) x) t)) (below-line.totalled j h)
              ∙ sym (changed.totals i j row)
          by_reach j h false e =
              cond-false _ _ _ (and_right _ _ (shown_below j h ∙ e))
              ∙ answered.totalled j h
              ∙ sym (totals_beyond r m a b was x changed i j row (not_from_Decides (reaches m₀ b j) (reaches_decides m₀ changed.bounded_before changed.circleless_before b j) e))

-- the other rows are as they were, so that the change is worked into one row more
module _ {F : Type 0} (r : Operations F) (n a b : ℕ) (was is : Option F) (i : ℕ) (row : i < n) (cells after : List (Cell F)) (working : HalfWorked r n a b was is i cells) (scratched : Scratched n cells after) (room : n * n ≤ length after) where
  pub working_more : RowAnswered r (cells_meaning n cells) n i after
      → ((k j : ℕ) → k < n → j < n → (k ≡ i → ⊥) → noted_support n after k j ≡ noted_support n cells k j)
      → ((k j : ℕ) → k < n → j < n → (k ≡ i → ⊥) → noted_total r n after k j ≡ noted_total r n cells k j)
      → HalfWorked r n a b was is (i + 1) after
  working_more mended supports-same totals-same = record {
    square = record { small = working.square.small; room = room };
    upper = working.upper;
    lower = working.lower;
    line = ap (λ (m : Meaning F). m.line a b) same ∙ working.line;
    circleless_before = subst (λ (m : Meaning F). Circleless (with_line m a b was)) (sym same) working.circleless_before;
    circleless = subst (λ (m : Meaning F). Circleless m) (sym same) working.circleless;
    done = λ k h before. subst (λ (m : Meaning F). RowAnswered r m n k after) (sym same) (elim (cases_eq k i) [
      | inl here ↦ subst (λ (l : ℕ). RowAnswered r (cells_meaning n cells) n l after) (sym here) mended
      | inr there ↦ other_row k h there (working.done k h (omega arith))
    ]);
    left = λ k h behind. subst (λ (m : Meaning F). RowAnswered r (with_line m a b was) n k after) (sym same) (other_row k h (omega arith) (working.left k h (omega arith)));
  }
    where
      same : cells_meaning n after ≡ cells_meaning n cells
      same = same_meaning n cells after scratched.same_lines

      other_row : {m : Meaning F} (k : ℕ) → k < n → (k ≡ i → ⊥) → RowAnswered r m n k cells → RowAnswered r m n k after
      other_row k h there answered = record {
        supported = λ j below. supports-same k j h below there ∙ answered.supported j below;
        totalled = λ j below. totals-same k j h below there ∙ answered.totalled j below;
      }
