-- A change of one line in the cells is that change of the book, and keeps the condition of a plain book.
use Rattle.std.proofs.Common.{◌≡◌, ℕ, ◌+◌, ◌*◌, ◌<◌, ◌≤◌, Bool, true, false, cond, ◌&&◌, eqb, ltb, List, map, length, get_or, set, Some, None, Option, sym, refl, ap, ◌∙◌, subst, ap₂, ⊎_elim, arith}
use mathlib.Core.Path.{fun_ext}
use Rattle.std.proofs.lemmas.List.{map-set, length-set, length-map, get_or-set_same, get_or-set_other}
use Rattle.std.proofs.lemmas.Nat.{same_from_place}
use Rattle.std.proofs.lemmas.Bool.{and_parts, and_from, cond-true, cond-false, cases_eq, eqb-true, eq-eqb, ltb-true, false≢true}
use Rattle.books.specs.Graph.{Meaning, Circleless, Free, with_line}
use Rattle.books.specs.Cells.{PlainSound, blank_cell, cell_line, factor_or, lines, factors, lines_meaning, cells_meaning, cells_bounded, with_cell_line, relined}
use Rattle.books.specs.declared.cell.Cell.{Cell}
use Rattle.books.proofs.Chains.{strike_circleless, enter_circleless}
use Rattle.books.proofs.Squares.{inside, place_below}

-- the line of the pair (i,j) among the noted ones
abbrev placed : {F : Type 0} → ℕ → List (Option F) → ℕ → ℕ → Option F
placed n ls i j = (lines_meaning n ls).line i j

line_set : {F : Type 0} (zero : F) (c : Cell F) (o : Option F) → cell_line (with_cell_line zero c o) ≡ o
line_set zero c (Some f) = refl
line_set zero c None = refl

factor_set : {F : Type 0} (zero : F) (c : Cell F) (o : Option F) → (with_cell_line zero c o).factor ≡ factor_or zero o
factor_set zero c (Some f) = refl
factor_set zero c None = refl

-- a line that may be set closes no circle
pub free_circleless : {F : Type 0} (n : ℕ) (cells : List (Cell F)) (a b : ℕ) (o : Option F) → Circleless (cells_meaning n cells)
    → Free (cells_meaning n cells) a b o → Circleless (with_line (cells_meaning n cells) a b o)
free_circleless n cells a b (Some f) circleless apart = enter_circleless (cells_meaning n cells) a b (Some f) (cells_bounded n cells) circleless apart
free_circleless n cells a b None circleless free = strike_circleless (cells_meaning n cells) a b circleless

module _ {F : Type 0} (zero : F) (n : ℕ) (cells : List (Cell F)) (room : n * n ≤ length cells) (a b : ℕ) (upper : a < n) (lower : b < n) (o : Option F) where
  relined_lines : lines (relined zero cells (a * n + b) o) ≡ set (lines cells) (a * n + b) o
  relined_lines = map-set cell_line cells (a * n + b) _ ∙ ap (set (lines cells) (a * n + b)) (line_set zero (get_or cells (a * n + b) (blank_cell zero)) o)

  relined_factors : factors (relined zero cells (a * n + b) o) ≡ set (factors cells) (a * n + b) (factor_or zero o)
  relined_factors = map-set (λ (c : Cell F). c.factor) cells (a * n + b) _ ∙ ap (set (factors cells) (a * n + b)) (factor_set zero (get_or cells (a * n + b) (blank_cell zero)) o)

  within : {X : Type 0} (field : Cell F → X) → a * n + b < length (map field cells)
  within field = omega (arith, place_below n a b upper lower, length-map cells field)

  pub relined_meaning : cells_meaning n (relined zero cells (a * n + b) o) ≡ with_line (cells_meaning n cells) a b o
  relined_meaning =
      let changed = fun_ext (λ i. fun_ext (λ j. at i j (eqb i a && eqb j b) refl (ltb i n && ltb j n) refl)) in
      λ t. record { size = n; line = changed t }
    where
      here : (i j : ℕ) → i ≡ a → j ≡ b → placed n (set (lines cells) (a * n + b) o) i j ≡ o
      here i j upper_is lower-is =
          ap₂ (λ (k l : ℕ). placed n (set (lines cells) (a * n + b) o) k l) upper_is lower-is
          ∙ cond-true _ _ _ (inside n a b upper lower)
          ∙ get_or-set_same (lines cells) (a * n + b) o None (within cell_line)

      at : (i j : ℕ) (this : Bool) → (eqb i a && eqb j b) ≡ this → (blocks : Bool) → (ltb i n && ltb j n) ≡ blocks
          → placed n (lines (relined zero cells (a * n + b) o)) i j ≡ cond (eqb i a && eqb j b) o (placed n (lines cells) i j)
      at i j true same blocks ranged =
          let (upper_is, lower-is) = and_parts (eqb i a) (eqb j b) same in
          ap (λ ls. placed n ls i j) relined_lines ∙ here i j (eqb-true i a upper_is) (eqb-true j b lower-is) ∙ sym (cond-true _ _ _ same)
      at i j false other false ranged = cond-false _ _ _ ranged ∙ sym (cond-false _ _ _ ranged) ∙ sym (cond-false _ _ _ other)
      at i j false other true ranged =
          let (_, below) = and_parts (ltb i n) (ltb j n) ranged in
          let apart : i * n + j ≡ a * n + b → ⊥ = λ same.
          let (upper_is, lower-is) = same_from_place i j a b n (ltb-true j n below) lower same in
          false≢true (sym other ∙ and_from _ _ (eq-eqb i a upper_is) (eq-eqb j b lower-is)) in
          ap (λ ls. placed n ls i j) relined_lines
          ∙ ap (λ l. cond (ltb i n && ltb j n) l None) (get_or-set_other (lines cells) (a * n + b) (i * n + j) o None apart)
          ∙ sym (cond-false _ _ _ other)

  module _ (sound : PlainSound zero n cells) where
    vacant_kept : (k : ℕ) → k < n * n → get_or (lines (relined zero cells (a * n + b) o)) k None ≡ None → get_or (factors (relined zero cells (a * n + b) o)) k zero ≡ zero
    vacant_kept k below none =
        ap (λ fs. get_or fs k zero) relined_factors
        ∙ ⊎_elim here elsewhere (cases_eq k (a * n + b))
      where
        noted : get_or (set (lines cells) (a * n + b) o) k None ≡ None
        noted = ap (λ ls. get_or ls k None) (sym relined_lines) ∙ none

        here : k ≡ a * n + b → get_or (set (factors cells) (a * n + b) (factor_or zero o)) k zero ≡ zero
        here same =
            ap (λ (i : ℕ). get_or (set (factors cells) (a * n + b) (factor_or zero o)) i zero) same
            ∙ get_or-set_same (factors cells) (a * n + b) (factor_or zero o) zero (within (λ c. c.factor))
            ∙ ap (factor_or zero) (sym (get_or-set_same (lines cells) (a * n + b) o None (within cell_line)) ∙ ap (λ (i : ℕ). get_or (set (lines cells) (a * n + b) o) i None) (sym same) ∙ noted)

        elsewhere : (k ≡ a * n + b → ⊥) → get_or (set (factors cells) (a * n + b) (factor_or zero o)) k zero ≡ zero
        elsewhere apart =
            get_or-set_other (factors cells) (a * n + b) k (factor_or zero o) zero apart
            ∙ sound.vacant k below (sym (get_or-set_other (lines cells) (a * n + b) k o None apart) ∙ noted)

    pub relined_sound : Circleless (with_line (cells_meaning n cells) a b o) → PlainSound zero n (relined zero cells (a * n + b) o)
    relined_sound circleless = record {
      square = record { small = sound.square.small; room = simp length-set room };
      vacant = vacant_kept;
      circleless = subst (λ (m : Meaning F). Circleless m) (sym relined_meaning) circleless;
    }

    -- to set a line that may be set keeps the condition
    pub change_sound : (next : List (Cell F)) → next ≡ relined zero cells (a * n + b) o → Free (cells_meaning n cells) a b o → PlainSound zero n next
    change_sound next lined free =
        let Plain : List (Cell F) → Type 0 = PlainSound zero n in
        subst Plain (sym lined) (relined_sound (free_circleless n cells a b o sound.circleless free))
