-- The work sets of a change: what their loops keep, how a turn keeps it, and that a row with an empty set is settled.
--   Lessened   numbers that differ by one where a test is passed, and the marks of those that are 0 without it
--   Losing, losing_starts, losing_some, losing_turns, losing_falls, losing_ends   blocks that a row loses
--   Gaining, gaining_starts, gaining_turns, gaining_falls, gaining_ends   blocks that a row gains
use Rattle.std.proofs.Common.{◌≡◌, ℕ, ◌+◌, ◌<◌, Bool, true, false, not, ◌&&◌, ◌||◌, eqb, sym, ap, ◌∙◌, inl, inr, arith}
use Rattle.std.proofs.lemmas.Bool.{both_ways, and_parts, and_from, and_right, or_cases, or_right}
use Rattle.std.proofs.lemmas.Bool.Decides.{nat_tests}
use Rattle.books.specs.Graph.{Meaning, stands, count_below}
use Rattle.books.specs.Rows.{one, counted, reached, Settled}
use Rattle.books.proofs.Counts.{count_some}
use Rattle.books.proofs.Supports.{count_turned, counted_turned, counted_same}

-- `high` is one more than `low` at the numbers that pass the test, and those of them where `low` is 0 are newly marked
pub record Lessened (n : ℕ) (p : ℕ → Bool) (low high : ℕ → ℕ) (before after : ℕ → Bool) : Type 0 where
  pub differ : (j : ℕ) → j < n → high j ≡ low j + one (p j)
  pub marked : (j : ℕ) → j < n → after j ≡ (before j || (p j && eqb (low j) 0))

-- the marks without that of l
abbrev pub Cleared : ℕ → ℕ → (ℕ → Bool) → (ℕ → Bool) → Type 0
Cleared n l before after = (j : ℕ) → j < n → after j ≡ (not (eqb j l) && before j)

-- while a row loses blocks: the lines from blocks that are reached or still in the work set are counted
pub record Losing {F : Type 0} (m : Meaning F) (i : ℕ) (s : ℕ → ℕ) (w : ℕ → Bool) : Type 0 where
  pub own : s i ≡ 0
  pub stays : w i ≡ false
  pub gone : (x : ℕ) → x < m.size → w x ≡ true → s x ≡ 0
  pub balance : (j : ℕ) → j < m.size → s j ≡ counted m (λ x. reached i s x || w x) j

-- while a row gains blocks: the lines from blocks that are reached and not in the work set are counted
pub record Gaining {F : Type 0} (m : Meaning F) (c : ℕ → Bool) (i : ℕ) (s : ℕ → ℕ) (w : ℕ → Bool) : Type 0 where
  pub inside : (x : ℕ) → x < m.size → w x ≡ true → c x ≡ true
  pub fresh : (x : ℕ) → x < m.size → w x ≡ true → 0 < s x
  pub balance : (j : ℕ) → j < m.size → s j ≡ counted m (λ x. reached i s x && not (w x)) j

-- a set of blocks that lines do not lead out of
abbrev pub Closed : {F : Type 0} → Meaning F → (ℕ → Bool) → Type 0
Closed m c = (x y : ℕ) → stands m x y ≡ true → c x ≡ true → c y ≡ true

-- the step at the changed line: a number that it takes to 0, or from 0, has its block marked
module _ {F : Type 0} (m : Meaning F) (i b : ℕ) (low high : ℕ → ℕ) (before after : ℕ → Bool) (none : (j : ℕ) → j < m.size → before j ≡ false) (step : Lessened m.size (λ j. eqb j b) low high before after) where
  pub losing_starts : i < m.size → high i ≡ 0 → ((j : ℕ) → j < m.size → high j ≡ counted m (reached i high) j + one (eqb j b)) → Losing m i low after
  losing_starts block own balance = record {
    own = let d = step.differ i block in omega arith;
    stays = let d = step.differ i block in let t = step.marked i block in let f = none i block in grind (arith, nat_tests);
    gone = λ x below at. let t = step.marked x below in let f = none x below in grind (arith, nat_tests);
    balance = λ j below.
        let d = step.differ j below in let e = balance j below in
        let same = counted_same m (reached i high) (λ x. reached i low x || after x) alike j in omega arith;
  }
    where
      alike : (x : ℕ) → x < m.size → reached i high x ≡ (reached i low x || after x)
      alike x below = let d = step.differ x below in let t = step.marked x below in let f = none x below in grind (arith, nat_tests)

  pub gaining_starts : (c : ℕ → Bool) → c b ≡ true → c i ≡ false → ((j : ℕ) → j < m.size → counted m (reached i low) j ≡ low j + one (eqb j b)) → Gaining m c i high after
  gaining_starts c first other balance = record {
    inside = λ x below at. let t = step.marked x below in let f = none x below in ap c (here x t f at) ∙ first;
    fresh = λ x below at. let d = step.differ x below in let t = step.marked x below in let f = none x below in grind (arith, nat_tests);
    balance = λ j below.
        let d = step.differ j below in let e = balance j below in
        let same = counted_same m (reached i low) (λ x. reached i high x && not (after x)) alike j in omega arith;
  }
    where
      here : (x : ℕ) → after x ≡ (before x || (eqb x b && eqb (low x) 0)) → before x ≡ false → after x ≡ true → x ≡ b
      here x t f at = grind (arith, nat_tests)

      apart : i ≡ b → ⊥
      apart same = both_ways (c i) other (ap c same ∙ first)

      alike : (x : ℕ) → x < m.size → reached i low x ≡ (reached i high x && not (after x))
      alike x below = let d = step.differ x below in let t = step.marked x below in let f = none x below in let g = apart in grind (arith, nat_tests)

-- the lines from a block of the work set are still counted
pub losing_some : {F : Type 0} (m : Meaning F) (i : ℕ) (s : ℕ → ℕ) (w : ℕ → Bool) → Losing m i s w
    → (l : ℕ) → l < m.size → w l ≡ true → (j : ℕ) → j < m.size → stands m l j ≡ true → 0 < s j
losing_some m i s w losing l block at j below line =
    rw (losing.balance j below) (count_some m.size _ l block (and_from _ _ line (or_right _ _ at)))

-- a turn: block l is taken out of the work set, and the lines from it out of the counts, or into them
module _ {F : Type 0} (m : Meaning F) (i l : ℕ) (turned : l < m.size) (low high : ℕ → ℕ) (before between after : ℕ → Bool) (cleared : Cleared m.size l before between) (step : Lessened m.size (stands m l) low high between after) (at : before l ≡ true) where
  module _ (losing : Losing m i high before) where
    lost_same : (x : ℕ) → x < m.size → (x ≡ l → ⊥) → (reached i high x || before x) ≡ (reached i low x || after x)
    lost_same x below other =
        let d = step.differ x below in let t = step.marked x below in let f = cleared x below in let g = losing.gone x below in grind (arith, nat_tests)

    lost_here : i < m.size → (reached i low l || after l) ≡ false
    lost_here block =
        let d = step.differ l turned in let t = step.marked l turned in let f = cleared l turned in let g = losing.gone l turned at in
        let h = losing.stays in let k : i ≡ l → ⊥ = λ same. both_ways (before l) (ap before (sym same) ∙ h) at in grind (arith, nat_tests)

    pub losing_turns : i < m.size → Losing m i low after
    losing_turns block = record {
      own = let d = step.differ i block in let o = losing.own in omega arith;
      stays = let d = step.differ i block in let o = losing.own in let t = step.marked i block in let f = cleared i block in let h = losing.stays in grind (arith, nat_tests);
      gone = λ x below now. let d = step.differ x below in let t = step.marked x below in let f = cleared x below in let g = losing.gone x below in grind (arith, nat_tests);
      balance = λ j below.
          let d = step.differ j below in let e = losing.balance j below in
          let c = counted_turned m _ _ l turned (or_right _ _ at) (lost_here block) lost_same j in omega arith;
    }

    -- one block fewer is counted
    pub losing_falls : i < m.size → count_below m.size (λ x. reached i low x || after x) < count_below m.size (λ x. reached i high x || before x)
    losing_falls block =
        let c = count_turned m.size (λ x. reached i high x || before x) (λ x. reached i low x || after x) l turned (lost_here block) lost_same in
        let o : one (reached i high l || before l) ≡ 1 = ap one (or_right _ _ at) in
        omega arith

  module _ (c : ℕ → Bool) (closed : Closed m c) (other : c i ≡ false) (gaining : Gaining m c i low before) where
    gained_same : (x : ℕ) → x < m.size → (x ≡ l → ⊥) → (reached i high x && not (after x)) ≡ (reached i low x && not (before x))
    gained_same x below ne =
        let d = step.differ x below in let t = step.marked x below in let f = cleared x below in let g = gaining.fresh x below in
        let h = leads x in grind (arith, nat_tests)
      where
        leads : (x : ℕ) → stands m l x ≡ true → i ≡ x → ⊥
        leads x line same = both_ways (c i) other (ap c same ∙ closed l x line (gaining.inside l turned at))

    gained_here : (reached i high l && not (after l)) ≡ true
    gained_here =
        let d = step.differ l turned in let t = step.marked l turned in let f = cleared l turned in let g = gaining.fresh l turned at in grind (arith, nat_tests)

    waiting_here : (reached i low l && not (before l)) ≡ false
    waiting_here = and_right _ _ (ap not at)

    pub gaining_turns : Gaining m c i high after
    gaining_turns = record {
      inside = λ x below now. elim (or_cases _ _ (sym (step.marked x below) ∙ now)) [
        | inl was ↦ gaining.inside x below (and_parts _ _ (sym (cleared x below) ∙ was)).1
        | inr new ↦ closed l x (and_parts _ _ new).0 (gaining.inside l turned at)
      ];
      fresh = λ x below now. let d = step.differ x below in let t = step.marked x below in let f = cleared x below in let g = gaining.fresh x below in grind (arith, nat_tests);
      balance = λ j below.
          let d = step.differ j below in let e = gaining.balance j below in
          let k = counted_turned m _ _ l turned gained_here waiting_here gained_same j in omega arith;
    }

    pub gaining_falls : count_below m.size (λ x. not (reached i high x && not (after x))) < count_below m.size (λ x. not (reached i low x && not (before x)))
    gaining_falls =
        let c = count_turned m.size (λ x. not (reached i low x && not (before x))) (λ x. not (reached i high x && not (after x))) l turned (ap not gained_here) (λ x below ne. ap not (sym (gained_same x below ne))) in
        let o : one (not (reached i low l && not (before l))) ≡ 1 = ap (λ (b : Bool). one (not b)) waiting_here in
        omega arith

-- once the work set is empty, the row is settled
module _ {F : Type 0} (m : Meaning F) (i : ℕ) (s : ℕ → ℕ) (w : ℕ → Bool) (over : (x : ℕ) → x < m.size → w x ≡ false) where
  pub losing_ends : Losing m i s w → Settled m i s
  losing_ends losing j below = losing.balance j below ∙ counted_same m _ _ (λ x h. let f = over x h in grind (arith, nat_tests)) j

  pub gaining_ends : (c : ℕ → Bool) → Gaining m c i s w → Settled m i s
  gaining_ends c gaining j below = gaining.balance j below ∙ counted_same m _ _ (λ x h. let f = over x h in grind (arith, nat_tests)) j
