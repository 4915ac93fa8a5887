-- Steps of a loop over the columns of a row: one cell is set anew, and what the loop keeps goes on by one column.
--   pair_set   what stands at a pair after one was set
--   with_support_.., resupported_..   only support numbers of one row change
--   lowered_once, raised_once   one support number steps
--   steps_left, steps_passed, steps_lower, steps_raise   a row steps column by column
--   stepped_.., SteppedUpto, step_more   the same in either direction
--   steps_row, cleared_row   the row on its own
use Rattle.std.proofs.Common.{◌≡◌, ℕ, ◌+◌, ◌-◌, ◌*◌, ◌<◌, ◌≤◌, Bool, true, false, cond, ◌&&◌, ◌||◌, eqb, ltb, List, length, get_or, set, None, sym, refl, ap, ◌∙◌, subst, inl, inr, ⊎_elim, arith}
use Rattle.std.proofs.lemmas.List.{map-set, set-get_or, get_or-set_same, get_or-set_other, get_or-map, length-map, drop-set-lt}
use Rattle.std.proofs.lemmas.Nat.{same_from_place}
use Rattle.std.proofs.lemmas.Bool.{cases_eq, and_from, and_parts, cond-true, cond-false, eq-eqb, ne_eqb, eqb-true}
use Rattle.std.proofs.lemmas.Bool.Decides.{nat_tests}
use Rattle.books.specs.Cells.{blank_cell, cell_line, lines, factors, supports, totals, noted_support, with_support}
use Rattle.books.specs.Rows.{Direction, Steppable, stepped, turned, one, support_row, Stepped, SteppedBy, Resupported}
use Rattle.books.specs.Rows.Direction.{down, up}
use Rattle.books.specs.declared.cell.Cell.{Cell}
use Rattle.books.proofs.Fillings.{scratched_more}
use Rattle.books.proofs.Squares.{place_below}
use Rattle.books.proofs.WorkSets.{Lessened, Cleared}

-- what stands at (k,l) after (i,j) was set
pub pair_set : {X : Type 0} (n : ℕ) (xs : List X) (i j k l : ℕ) (x d : X) → i < n → j < n → l < n → n * n ≤ length xs
    → get_or (set xs (i * n + j) x) (k * n + l) d ≡ cond (eqb k i && eqb l j) x (get_or xs (k * n + l) d)
pair_set n xs i j k l x d row column below room =
    ⊎_elim here elsewhere (cases_eq (k * n + l) (i * n + j))
  where
    here : k * n + l ≡ i * n + j → get_or (set xs (i * n + j) x) (k * n + l) d ≡ cond (eqb k i && eqb l j) x (get_or xs (k * n + l) d)
    here same =
        let (rows, columns) = same_from_place k l i j n below column same in
        ap (λ (p : ℕ). get_or (set xs (i * n + j) x) p d) same
        ∙ get_or-set_same xs (i * n + j) x d (omega (arith, place_below n i j row column))
        ∙ sym (cond-true _ _ _ (and_from _ _ (eq-eqb k i rows) (eq-eqb l j columns)))

    elsewhere : (k * n + l ≡ i * n + j → ⊥) → get_or (set xs (i * n + j) x) (k * n + l) d ≡ cond (eqb k i && eqb l j) x (get_or xs (k * n + l) d)
    elsewhere apart =
        get_or-set_other xs (i * n + j) (k * n + l) x d apart
        ∙ sym (cond-false _ _ _ (not_both (eqb k i && eqb l j) refl))
      where
        not_both : (t : Bool) → (eqb k i && eqb l j) ≡ t → t ≡ false
        not_both true e = let (p, q) = and_parts _ _ e in absurd (apart (ap (λ (r : ℕ). r * n + l) (eqb-true k i p) ∙ ap (λ (c : ℕ). i * n + c) (eqb-true l j q)))
        not_both false e = refl

module _ {F : Type 0} (n : ℕ) where
  pub resupported_none : (i : ℕ) (cells : List (Cell F)) → Resupported n i cells cells
  resupported_none i cells = record {
    scratched = record { same_lines = refl; same_factors = refl; beyond = refl };
    same_totals = refl;
    same_rows = λ k j row column other. refl;
  }

  pub resupported_more : {i : ℕ} {before between after : List (Cell F)} → Resupported n i before between → Resupported n i between after → Resupported n i before after
  resupported_more p q = record {
    scratched = scratched_more p.scratched q.scratched;
    same_totals = q.same_totals ∙ p.same_totals;
    same_rows = λ k j row column other. q.same_rows k j row column other ∙ p.same_rows k j row column other;
  }

module _ {F : Type 0} (n : ℕ) (cells : List (Cell F)) (room : n * n ≤ length cells) (i j : ℕ) (row : i < n) (column : j < n) (zero : F) (x : ℕ) where
  within : i * n + j < length cells
  within = omega (arith, place_below n i j row column)

  pub with_support_at : (k l : ℕ) → l < n → noted_support n (with_support zero cells (i * n + j) x) k l ≡ cond (eqb k i && eqb l j) x (noted_support n cells k l)
  with_support_at k l below =
      ap (λ (ss : List ℕ). get_or ss (k * n + l) 0) (map-set (λ (c : Cell F). c.support) cells (i * n + j) _)
      ∙ pair_set n (supports cells) i j k l x 0 row column below (omega (arith, length-map cells (λ (c : Cell F). c.support)))

  pub with_support_resupported : Resupported n i cells (with_support zero cells (i * n + j) x)
  with_support_resupported =
      let p = i * n + j in
      record {
        scratched = record {
          same_lines = map-set cell_line cells p _ ∙ ap (set (lines cells) p) (sym (get_or-map cell_line cells p (blank_cell zero) None within)) ∙ set-get_or (lines cells) p None;
          same_factors = map-set (λ (c : Cell F). c.factor) cells p _ ∙ ap (set (factors cells) p) (sym (get_or-map (λ (c : Cell F). c.factor) cells p (blank_cell zero) zero within)) ∙ set-get_or (factors cells) p zero;
          beyond = drop-set-lt (n * n) cells p _ (place_below n i j row column);
        };
        same_totals = map-set (λ (c : Cell F). c.total) cells p _ ∙ ap (set (totals cells) p) (sym (get_or-map (λ (c : Cell F). c.total) cells p (blank_cell zero) zero within)) ∙ set-get_or (totals cells) p zero;
        same_rows = λ k l upper lower other. with_support_at k l lower ∙ cond-false _ _ _ (and_none (eqb k i) (eqb l j) (ne_eqb k i other));
      }
    where
      and_none : (s t : Bool) → s ≡ false → (s && t) ≡ false
      and_none s t e = ap (λ (b : Bool). b && t) e

-- the mark of a block that steps from 0, or to it
step_marked : (n j : ℕ) (marks : List Bool) (t : Bool) → n ≤ length marks → (l : ℕ) → l < n → j < n
    → get_or (cond t (set marks j true) marks) l false ≡ (get_or marks l false || (eqb l j && t))
step_marked n j marks true room l below column = elim (cases_eq l j) [
  | inl here ↦ ap (λ (p : ℕ). get_or (set marks j true) p false) here ∙ get_or-set_same marks j true false (omega arith) ∙ sym (or_yes (get_or marks l false) (eqb l j) (eq-eqb l j here))
  | inr there ↦ get_or-set_other marks j l true false there ∙ sym (or_no (get_or marks l false) (eqb l j) (ne_eqb l j there))
]
  where
    or_yes : (x y : Bool) → y ≡ true → (x || (y && true)) ≡ true
    or_yes true y e = refl
    or_yes false true e = refl
    or_yes false false e = e

    or_no : (x y : Bool) → y ≡ false → (x || (y && true)) ≡ x
    or_no true y e = refl
    or_no false true e = e
    or_no false false e = refl
step_marked n j marks false room l below column = sym (or_none (get_or marks l false) (eqb l j))
  where
    or_none : (x y : Bool) → (x || (y && false)) ≡ x
    or_none true y = refl
    or_none false true = refl
    or_none false false = refl

-- one support number of row i steps, down or up
module _ {F : Type 0} (n : ℕ) (cells : List (Cell F)) (room : n * n ≤ length cells) (i j : ℕ) (row : i < n) (column : j < n) (zero : F) (marks : List Bool) (places : n ≤ length marks) (next : List (Cell F)) (after : List Bool) where
  set_at : (x : ℕ) → next ≡ with_support zero cells (i * n + j) x → (k l : ℕ) → l < n → noted_support n next k l ≡ cond (eqb k i && eqb l j) x (noted_support n cells k l)
  set_at x now k l below = ap (λ (cs : List (Cell F)). noted_support n cs k l) now ∙ with_support_at n cells room i j row column zero x k l below

  pub set_rest : (x : ℕ) → next ≡ with_support zero cells (i * n + j) x → Resupported n i cells next
  set_rest x now = let Rest : List (Cell F) → Type 0 = Resupported n i cells in subst Rest (sym now) (with_support_resupported n cells room i j row column zero x)

  marked_at : (t : Bool) → after ≡ cond t (set marks j true) marks → (l : ℕ) → l < n → get_or after l false ≡ (get_or marks l false || (eqb l j && t))
  marked_at t now l below = ap (λ (bs : List Bool). get_or bs l false) now ∙ step_marked n j marks t places l below column

  pub lowered_once : 0 < noted_support n cells i j
      → next ≡ with_support zero cells (i * n + j) (noted_support n cells i j - 1) → after ≡ cond (eqb (noted_support n cells i j) 1) (set marks j true) marks
      → Stepped n i (λ k. eqb k j) next cells marks after
  lowered_once some lowers marking = record {
    differ = λ k l upper lower. let e = set_at _ lowers k l lower in grind (arith, nat_tests);
    marked = λ l lower. let e = set_at _ lowers i l lower in marked_at _ marking l lower ∙ ap (λ (b : Bool). get_or marks l false || b) (grind (arith, nat_tests));
  }

  pub raised_once : next ≡ with_support zero cells (i * n + j) (noted_support n cells i j + 1) → after ≡ cond (eqb (noted_support n cells i j) 0) (set marks j true) marks
      → Stepped n i (λ k. eqb k j) cells next marks after
  raised_once raises marking = record {
    differ = λ k l upper lower. let e = set_at _ raises k l lower in grind (arith, nat_tests);
    marked = λ l lower. marked_at _ marking l lower ∙ ap (λ (b : Bool). get_or marks l false || b) (here l);
  }
    where
      here : (l : ℕ) → (eqb l j && eqb (noted_support n cells i j) 0) ≡ (eqb l j && eqb (noted_support n cells i l) 0)
      here l = elim (cases_eq l j) [
        | inl same ↦ ap (λ (k : ℕ). eqb l j && eqb (noted_support n cells i k) 0) (sym same)
        | inr other ↦ let e = ne_eqb l j other in grind (arith, nat_tests)
      ]

-- the test, for the columns below j only
abbrev pub upto : (ℕ → Bool) → ℕ → ℕ → Bool
upto p j k = ltb k j && p k

module _ {F : Type 0} (n i : ℕ) (row : i < n) (p : ℕ → Bool) where
  module _ (j : ℕ) {low high : List (Cell F)} {before after : List Bool} (steps : Stepped n i (upto p j) low high before after) where
    -- a column that is still to come is as it was
    pub steps_left : j < n → noted_support n high i j ≡ noted_support n low i j
    steps_left column = let d = steps.differ i j row column in grind (arith, nat_tests)

    pub steps_passed : p j ≡ false → Stepped n i (upto p (j + 1)) low high before after
    steps_passed none = record {
      differ = λ k l upper lower. steps.differ k l upper lower ∙ ap (λ (b : Bool). noted_support n low k l + one (eqb k i && b)) (alike l);
      marked = λ l lower. steps.marked l lower ∙ ap (λ (b : Bool). get_or before l false || (b && eqb (noted_support n low i l) 0)) (alike l);
    }
      where
        alike : (l : ℕ) → upto p j l ≡ upto p (j + 1) l
        alike l = elim (cases_eq l j) [
          | inl here ↦ let e : p l ≡ false = ap p here ∙ none in grind (arith, nat_tests)
          | inr there ↦ grind (arith, nat_tests)
        ]

    pub steps_lower : p j ≡ true → {next : List (Cell F)} {marks : List Bool} → Stepped n i (λ k. eqb k j) next low after marks → Stepped n i (upto p (j + 1)) next high before marks
    steps_lower passes {next = next} step = record {
      differ = λ k l upper lower.
          let d = steps.differ k l upper lower in let e = step.differ k l upper lower in let q = here l in grind (arith, nat_tests);
      marked = λ l lower.
          let d = steps.marked l lower in let e = step.marked l lower in let f = steps.differ i l row lower in let g = step.differ i l row lower in let q = here l in grind (arith, nat_tests);
    }
      where
        here : (l : ℕ) → l ≡ j → p l ≡ true
        here l same = ap p same ∙ passes

    pub steps_raise : p j ≡ true → {next : List (Cell F)} {marks : List Bool} → Stepped n i (λ k. eqb k j) high next after marks → Stepped n i (upto p (j + 1)) low next before marks
    steps_raise passes {next = next} step = record {
      differ = λ k l upper lower.
          let d = steps.differ k l upper lower in let e = step.differ k l upper lower in let q = here l in grind (arith, nat_tests);
      marked = λ l lower.
          let d = steps.marked l lower in let e = step.marked l lower in let f = steps.differ i l row lower in let g = step.differ i l row lower in let q = here l in grind (arith, nat_tests);
    }
      where
        here : (l : ℕ) → l ≡ j → p l ≡ true
        here l same = ap p same ∙ passes

  pub steps_row : {low high : List (Cell F)} {before after : List Bool} → Stepped n i p low high before after
      → Lessened n p (support_row n low i) (support_row n high i) (λ k. get_or before k false) (λ k. get_or after k false)
  steps_row steps = record { differ = λ j below. let d = steps.differ i j row below in grind (arith, nat_tests); marked = steps.marked }

pub cleared_row : (n l : ℕ) (marks : List Bool) → n ≤ length marks → l < n → Cleared n l (λ k. get_or marks k false) (λ k. get_or (set marks l false) k false)
cleared_row n l marks room block j below = elim (cases_eq j l) [
  | inl here ↦ ap (λ (k : ℕ). get_or (set marks l false) k false) here ∙ get_or-set_same marks l false false (omega arith) ∙ grind (arith, nat_tests)
  | inr there ↦ get_or-set_other marks l j false false there ∙ grind (arith, nat_tests)
]

-- one support number of row i steps, in either direction
module _ {F : Type 0} (n : ℕ) (cells : List (Cell F)) (room : n * n ≤ length cells) (i j : ℕ) (row : i < n) (column : j < n) (zero : F) (marks : List Bool) (places : n ≤ length marks) (next : List (Cell F)) (after : List Bool) where
  pub stepped_once : (d : Direction) → Steppable d (noted_support n cells i j)
      → next ≡ with_support zero cells (i * n + j) (stepped d (noted_support n cells i j)) → after ≡ cond (turned d (noted_support n cells i j)) (set marks j true) marks
      → SteppedBy d n i (λ k. eqb k j) cells next marks after
  stepped_once down some steps turns = lowered_once n cells room i j row column zero marks places next after some steps turns
  stepped_once up few steps turns = raised_once n cells room i j row column zero marks places next after steps turns

module _ {F : Type 0} (n i : ℕ) (row : i < n) (p : ℕ → Bool) where
  module _ (start cells : List (Cell F)) (before after : List Bool) where
    module _ (j : ℕ) where
      pub stepped_left : (d : Direction) → SteppedBy d n i (upto p j) start cells before after → j < n → noted_support n cells i j ≡ noted_support n start i j
      stepped_left down steps column = sym (steps_left n i row p j steps column)
      stepped_left up steps column = steps_left n i row p j steps column

      pub stepped_passed : (d : Direction) → SteppedBy d n i (upto p j) start cells before after → p j ≡ false → SteppedBy d n i (upto p (j + 1)) start cells before after
      stepped_passed down steps none = steps_passed n i row p j steps none
      stepped_passed up steps none = steps_passed n i row p j steps none

      pub stepped_further : (d : Direction) (next : List (Cell F)) (marks : List Bool) → SteppedBy d n i (upto p j) start cells before after → p j ≡ true
          → SteppedBy d n i (λ k. eqb k j) cells next after marks → SteppedBy d n i (upto p (j + 1)) start next before marks
      stepped_further down next marks steps passes step = steps_lower n i row p j steps passes step
      stepped_further up next marks steps passes step = steps_raise n i row p j steps passes step

-- what a loop over the lines from a block keeps: the columns below j have stepped, and nothing else has changed
abbrev pub SteppedUpto : {F : Type 0} → Direction → ℕ → ℕ → (ℕ → Bool) → ℕ → List (Cell F) → List Bool → List (Cell F) → List Bool → Type 0
SteppedUpto d n i p j start before cells after = SteppedBy d n i (upto p j) start cells before after × Resupported n i start cells

module _ {F : Type 0} (d : Direction) (n i : ℕ) (row : i < n) (p : ℕ → Bool) (j : ℕ) (column : j < n) (zero : F) (start cells next : List (Cell F)) (before marks after : List Bool) (room : n * n ≤ length cells) (places : n ≤ length marks) where
  pub step_more : p j ≡ true → Steppable d (noted_support n cells i j) → SteppedUpto d n i p j start before cells marks
      → next ≡ with_support zero cells (i * n + j) (stepped d (noted_support n cells i j)) → after ≡ cond (turned d (noted_support n cells i j)) (set marks j true) marks
      → SteppedUpto d n i p (j + 1) start before next after
  step_more passes can (steps, rest) steps_to turns = (
    stepped_further n i row p start cells before marks j d next after steps passes (stepped_once n cells room i j row column zero marks places next after d can steps_to turns),
    resupported_more n rest (set_rest n cells room i j row column zero marks places next after _ steps_to),
  )
