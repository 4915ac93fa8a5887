-- The cells of a kept book: what its condition says field by field, and how a change keeps it.
--   kept_supported, kept_totalled, kept_plain   from the condition to the fields
--   kept_from   and back
--   relined_works, worked_kept   the change of one line, before and after it is worked into the rows
--   kept_reaches, kept_needs   what a support number says
use Rattle.std.proofs.Common.{◌≡◌, ℕ, ◌+◌, ◌*◌, ◌<◌, ◌≤◌, Bool, true, false, cond, ◌||◌, eqb, ltb, List, map, length, get_or, drop, set, is_some, Some, None, Option, sym, refl, ap, ◌∙◌, subst, arith}
use Rattle.std.proofs.lemmas.List.{map-set, set-get_or, get_or-map, length-set, drop-set-lt}
use Rattle.std.proofs.lemmas.Bool.{cond-true, cond-false}
use Rattle.factors.specs.Ring.{Operations}
use Rattle.books.specs.Graph.{Meaning, Circleless, with_line, stands, reaches, support, needed, total}
use Rattle.books.specs.Cells.{Square, PlainSound, Scratched, blank_cell, cell_line, factor_or, lines, factors, noted_support, cells_meaning, cells_bounded, with_cell_line, relined}
use Rattle.books.specs.Walks.{noted_total}
use Rattle.books.specs.Kept.{kept_cell, KeptSound}
use Rattle.books.specs.Rows.{RowAnswered, Supported, Totalled, HalfWorked, support_row, reached}
use Rattle.books.specs.declared.cell.Cell.{Cell}
use Rattle.books.proofs.Chains.{relined_again, needed_is_support_one}
use Rattle.books.proofs.ChangedRows.{this_line}
use Rattle.books.proofs.Changes.{relined_meaning, relined_sound}
use Rattle.books.proofs.Fillings.{scratched_sound}
use Rattle.books.proofs.Squares.{place_below, place_within, pair_of, line_noted, same_meaning}
use Rattle.books.proofs.Supports.{support_reached}

-- what a cell says of its line
line_stands : {F : Type 0} (c : Cell F) → is_some (cell_line c) ≡ c.stands
line_stands c = at c.stands c.factor
  where
    at : {X : Type 0} (t : Bool) (f : X) → is_some (cond t (Some f) None) ≡ t
    at true f = refl
    at false f = refl

module _ {F : Type 0} (r : Operations F) (n : ℕ) (cells : List (Cell F)) where
  -- the cell of the pair (a,b), and a field of it
  abbrev cell_at : ℕ → ℕ → Cell F
  cell_at a b = get_or cells (a * n + b) (blank_cell r.zero)

  module _ (square : Square n cells) (a b : ℕ) (upper : a < n) (lower : b < n) where
    field_at : {X : Type 0} (field : Cell F → X) (d : X) → get_or (map field cells) (a * n + b) d ≡ field (cell_at a b)
    field_at field d = get_or-map field cells (a * n + b) (blank_cell r.zero) d (place_within n cells square a b upper lower)

    line_at : (cells_meaning n cells).line a b ≡ cell_line (cell_at a b)
    line_at = line_noted n cells square a b upper lower ∙ field_at cell_line None

  module _ (sound : KeptSound r n cells) where
    pub kept_supported : (a b : ℕ) → a < n → b < n → noted_support n cells a b ≡ support (cells_meaning n cells) a b
    kept_supported a b upper lower = field_at sound.square a b upper lower (λ c. c.support) 0 ∙ ap (λ (c : Cell F). c.support) (sound.cells_kept a b upper lower)

    pub kept_totalled : (a b : ℕ) → a < n → b < n → noted_total r n cells a b ≡ total r (cells_meaning n cells) a b
    kept_totalled a b upper lower = field_at sound.square a b upper lower (λ c. c.total) r.zero ∙ ap (λ (c : Cell F). c.total) (sound.cells_kept a b upper lower)

    pub kept_plain : PlainSound r.zero n cells
    kept_plain = record { square = sound.square; vacant = vacant; circleless = sound.circleless }
      where
        at : (a b : ℕ) → a < n → b < n → get_or (lines cells) (a * n + b) None ≡ None → get_or (factors cells) (a * n + b) r.zero ≡ r.zero
        at a b upper lower none =
            field_at sound.square a b upper lower (λ c. c.factor) r.zero
            ∙ ap (λ (c : Cell F). c.factor) (sound.cells_kept a b upper lower)
            ∙ ap (factor_or r.zero) (line_noted n cells sound.square a b upper lower ∙ none)

        vacant : (k : ℕ) → k < n * n → get_or (lines cells) k None ≡ None → get_or (factors cells) k r.zero ≡ r.zero
        vacant k below =
            let (a, b, upper, lower, same) = pair_of n k below in
            subst (λ (p : ℕ). get_or (lines cells) p None ≡ None → get_or (factors cells) p r.zero ≡ r.zero) same (at a b upper lower)

  pub kept_from : PlainSound r.zero n cells → Supported n n cells → Totalled r n n cells → KeptSound r n cells
  kept_from plain supported totalled = record { square = plain.square; circleless = plain.circleless; cells_kept = at }
    where
      at : (a b : ℕ) → a < n → b < n → cell_at a b ≡ kept_cell r (cells_meaning n cells) a b
      at a b upper lower = λ t. record { total = total_is t; factor = factor_is t; support = support_is t; stands = stands_is t }
        where
          total_is : (cell_at a b).total ≡ total r (cells_meaning n cells) a b
          total_is = sym (field_at plain.square a b upper lower (λ c. c.total) r.zero) ∙ totalled a b upper lower upper

          support_is : (cell_at a b).support ≡ support (cells_meaning n cells) a b
          support_is = sym (field_at plain.square a b upper lower (λ c. c.support) 0) ∙ supported a b upper lower upper

          stands_is : (cell_at a b).stands ≡ stands (cells_meaning n cells) a b
          stands_is = sym (line_stands (cell_at a b)) ∙ ap is_some (sym (line_at plain.square a b upper lower))

          factor_is : (cell_at a b).factor ≡ factor_or r.zero ((cells_meaning n cells).line a b)
          factor_is = by_line (cell_at a b).stands refl ∙ ap (factor_or r.zero) (sym (line_at plain.square a b upper lower))
            where
              by_line : (t : Bool) → (cell_at a b).stands ≡ t → (cell_at a b).factor ≡ factor_or r.zero (cell_line (cell_at a b))
              by_line true e = sym (ap (factor_or r.zero) (cond-true _ _ _ e))
              by_line false e =
                  sym (field_at plain.square a b upper lower (λ c. c.factor) r.zero)
                  ∙ plain.vacant (a * n + b) (place_below n a b upper lower) (field_at plain.square a b upper lower cell_line None ∙ cond-false _ _ _ e)
                  ∙ sym (ap (factor_or r.zero) (cond-false _ _ _ e))

-- one line is set anew, and its pair and the other numbers are left
module _ {F : Type 0} (r : Operations F) (n : ℕ) (cells : List (Cell F)) (sound : KeptSound r n cells) (a b : ℕ) (upper : a < n) (lower : b < n) (o : Option F) where
  -- a field that a line is no part of
  relined_field : {X : Type 0} (field : Cell F → X) (d : X) → ((c : Cell F) (l : Option F) → field (with_cell_line r.zero c l) ≡ field c)
      → map field (relined r.zero cells (a * n + b) o) ≡ map field cells
  relined_field field d apart =
      let k = a * n + b in
      map-set field cells k _
      ∙ ap (set (map field cells) k) (apart _ o ∙ sym (get_or-map field cells k (blank_cell r.zero) d (place_within n cells sound.square a b upper lower)))
      ∙ set-get_or (map field cells) k d

  pub relined_works : Circleless (with_line (cells_meaning n cells) a b o) → HalfWorked r n a b ((cells_meaning n cells).line a b) o 0 (relined r.zero cells (a * n + b) o)
  relined_works circleless = record {
    square = record { small = sound.square.small; room = simp length-set sound.square.room };
    upper = upper;
    lower = lower;
    line = ap (λ (m : Meaning F). m.line a b) new ∙ this_line (cells_meaning n cells) a b o;
    circleless_before = subst (λ (m : Meaning F). Circleless m) (sym old) sound.circleless;
    circleless = subst (λ (m : Meaning F). Circleless m) (sym new) circleless;
    done = λ i row before. absurd (omega arith);
    left = λ i row behind. subst (λ (m : Meaning F). RowAnswered r m n i (relined r.zero cells (a * n + b) o)) (sym old) (record {
      supported = λ j column. ap (λ (ss : List ℕ). get_or ss (i * n + j) 0) (relined_field (λ c. c.support) 0 same_support) ∙ kept_supported r n cells sound i j row column;
      totalled = λ j column. ap (λ (ts : List F). get_or ts (i * n + j) r.zero) (relined_field (λ c. c.total) r.zero same_total) ∙ kept_totalled r n cells sound i j row column;
    });
  }
    where
      new : cells_meaning n (relined r.zero cells (a * n + b) o) ≡ with_line (cells_meaning n cells) a b o
      new = relined_meaning r.zero n cells sound.square.room a b upper lower o

      old : with_line (cells_meaning n (relined r.zero cells (a * n + b) o)) a b ((cells_meaning n cells).line a b) ≡ cells_meaning n cells
      old = ap (λ (m : Meaning F). with_line m a b ((cells_meaning n cells).line a b)) new ∙ relined_again (cells_meaning n cells) a b o

      same_support : (c : Cell F) (l : Option F) → (with_cell_line r.zero c l).support ≡ c.support
      same_support c (Some f) = refl
      same_support c None = refl

      same_total : (c : Cell F) (l : Option F) → (with_cell_line r.zero c l).total ≡ c.total
      same_total c (Some f) = refl
      same_total c None = refl

  -- once it is worked into every row, the cells are those of the new lines
  module _ (circleless : Circleless (with_line (cells_meaning n cells) a b o)) (next after : List (Cell F)) (lined : next ≡ relined r.zero cells (a * n + b) o) (scratched : Scratched n next after) (room : n * n ≤ length after) where
    pub worked_meaning : cells_meaning n after ≡ with_line (cells_meaning n cells) a b o
    worked_meaning =
        same_meaning n next after scratched.same_lines ∙ ap (cells_meaning n) lined ∙ relined_meaning r.zero n cells sound.square.room a b upper lower o

    pub worked_beyond : drop (n * n) after ≡ drop (n * n) cells
    worked_beyond = scratched.beyond ∙ ap (drop (n * n)) lined ∙ drop-set-lt (n * n) cells (a * n + b) _ (place_below n a b upper lower)

    pub worked_kept : Supported n n after → Totalled r n n after → KeptSound r n after
    worked_kept =
        let Plain : List (Cell F) → Type 0 = PlainSound r.zero n in
        kept_from r n after (scratched_sound r.zero n next after room scratched (subst Plain (sym lined) (relined_sound r.zero n cells sound.square.room a b upper lower o (kept_plain r n cells sound) circleless)))

-- what a support number says
module _ {F : Type 0} (r : Operations F) (n : ℕ) (cells : List (Cell F)) (sound : KeptSound r n cells) (a b : ℕ) (upper : a < n) (lower : b < n) where
  pub kept_reaches : reached a (support_row n cells a) b ≡ reaches (cells_meaning n cells) a b
  kept_reaches =
      ap (λ (s : ℕ). eqb a b || ltb 0 s) (kept_supported r n cells sound a b upper lower)
      ∙ support_reached (cells_meaning n cells) (cells_bounded n cells) sound.circleless a upper b

  pub kept_needs : stands (cells_meaning n cells) a b ≡ true → needed (cells_meaning n cells) a b ≡ eqb (noted_support n cells a b) 1
  kept_needs line =
      needed_is_support_one (cells_meaning n cells) (cells_bounded n cells) sound.circleless a b upper line
      ∙ ap (λ (s : ℕ). eqb s 1) (sym (kept_supported r n cells sound a b upper lower))
