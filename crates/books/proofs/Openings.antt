-- A new book: its cells are blank, so that it has no lines.
use Rattle.std.proofs.Common.{◌≡◌, ℕ, ◌+◌, ◌*◌, ◌<◌, ◌≤◌, Bool, true, false, cond, ◌&&◌, ltb, List, [], ◌∷◌, map, length, get_or, drop, replicate, None, sym, refl, ap, ◌∙◌, subst, arith}
use mathlib.Core.Path.{fun_ext}
use Rattle.std.proofs.lemmas.List.{length-replicate, length-append, length-drop, get_or_append_left, get_or-map, get_or-replicate}
use Rattle.std.proofs.lemmas.Bool.{and_parts, ltb-true}
use Rattle.std.specs.List.{FoldsTo}
use Rattle.books.specs.Graph.{Meaning, Circleless, no_lines}
use Rattle.books.specs.Cells.{Square, PlainSound, blank_cell, cell_line, lines, cells_meaning, opened_cells}
use Rattle.books.specs.declared.cell.Cell.{Cell}
use Rattle.books.proofs.Chains.{no_lines_circleless}
use Rattle.books.proofs.Squares.{place_below}

module _ {F : Type 0} (zero : F) (n : ℕ) (cells : List (Cell F)) (square : Square n cells) where
  -- a cell of the square is blank
  pub opened_at : {X : Type 0} (field : Cell F → X) (k : ℕ) (d : X) → k < n * n → get_or (map field (opened_cells zero n cells)) k d ≡ field (blank_cell zero)
  opened_at field k d below =
      let blanks = length-replicate (n * n) (blank_cell zero) in
      let room : k < length (opened_cells zero n cells) = simp length-append (omega arith) in
      get_or-map field (opened_cells zero n cells) k (blank_cell zero) d room
      ∙ ap field (get_or_append_left (replicate (n * n) (blank_cell zero)) (drop (n * n) cells) (blank_cell zero) k (omega arith) ∙ get_or-replicate (n * n) k (blank_cell zero) (blank_cell zero) below)

  pub opened_meaning : cells_meaning n (opened_cells zero n cells) ≡ no_lines n
  opened_meaning = let none = fun_ext (λ a. fun_ext (λ b. at a b (ltb a n && ltb b n) refl)) in λ i. record { size = n; line = none i }
    where
      at : (a b : ℕ) (t : Bool) → (ltb a n && ltb b n) ≡ t → cond (ltb a n && ltb b n) (get_or (lines (opened_cells zero n cells)) (a * n + b) None) None ≡ None
      at a b true inside =
          let (upper, lower) = and_parts (ltb a n) (ltb b n) inside in
          rw inside (opened_at cell_line (a * n + b) None (place_below n a b (ltb-true a n upper) (ltb-true b n lower)))
      at a b false outside = rw outside

  pub opened_room : n * n ≤ length (opened_cells zero n cells)
  opened_room = let room = square.room in simp (length-append, length-replicate, length-drop) (omega arith)

  pub opened_sound : PlainSound zero n (opened_cells zero n cells)
  opened_sound = record {
    square = record { small = square.small; room = opened_room };
    vacant = λ k below none. opened_at (λ c. c.factor) k zero below;
    circleless = subst (λ (m : Meaning F). Circleless m) (sym opened_meaning) (no_lines_circleless F n);
  }

  -- blank cells have no lines, and are the cells of a plain book
  pub blank_meaning : cells ≡ opened_cells zero n cells → cells_meaning n cells ≡ no_lines n
  blank_meaning blank = ap (cells_meaning n) blank ∙ opened_meaning

  pub blank_sound : cells ≡ opened_cells zero n cells → PlainSound zero n cells
  blank_sound blank = let Plain : List (Cell F) → Type 0 = PlainSound zero n in subst Plain (sym blank) opened_sound

-- a list of what is made alike as long as nothing else changes
pub made_alike : {P X : Type 0} (R : P → X → P → Type 0) (b : X) (first : P) → ((x : X) (q : P) → R first x q → (x ≡ b) × (q ≡ first))
    → (xs : List X) (p q : P) → p ≡ first → FoldsTo R p xs q → xs ≡ replicate (length xs) b
made_alike R b first each [] p q same made = refl
made_alike {P = P} R b first each (x ∷ xs) p q same (j, one, made) =
    let (here, stays) = each x j (subst (λ (s : P). R s x j) same one) in λ i. here i ∷ made_alike R b first each xs j q stays made i
