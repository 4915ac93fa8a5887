-- Chains over a changed line are added to the totals of a row, column by column.
--   retotalled_more   only totals of one row change
--   added_more   what the loop keeps
use Rattle.std.proofs.Common.{◌≡◌, ℕ, ◌+◌, ◌*◌, ◌<◌, ◌≤◌, Bool, true, false, cond, ◌&&◌, eqb, ltb, ◌⊎◌, List, length, get_or, set, sym, refl, ap, ◌∙◌, subst, ap₂, inl, inr, arith}
use Rattle.std.proofs.lemmas.List.{map-set, set-get_or, get_or-map, length-map}
use Rattle.std.proofs.lemmas.Bool.{cases_eq, cases_Bool, and_from, and_left, and_right, cond-true, cond-false, eq-eqb, ne_eqb, lt-ltb, le-ltb}
use Rattle.std.proofs.lemmas.Bool.Decides.{nat_tests}
use Rattle.factors.specs.Ring.{Operations}
use Rattle.books.specs.Cells.{blank_cell, supports, totals, with_total}
use Rattle.books.specs.Walks.{noted_total}
use Rattle.books.specs.Rows.{support_row, reached, Retotalled, with_chains, Added}
use Rattle.books.specs.declared.cell.Cell.{Cell}
use Rattle.books.proofs.Fillings.{scratched_more, with_total_scratched, with_total_totals}
use Rattle.books.proofs.Squares.{place_below}
use Rattle.books.proofs.Steps.{pair_set}

module _ {F : Type 0} (r : Operations F) (n : ℕ) where
  retotalled_more : {i : ℕ} {before between after : List (Cell F)} → Retotalled r n i before between → Retotalled r n i between after → Retotalled r n i before after
  retotalled_more p q = record {
    scratched = scratched_more p.scratched q.scratched;
    same_supports = q.same_supports ∙ p.same_supports;
    same_rows = λ k j row column other. q.same_rows k j row column other ∙ p.same_rows k j row column other;
  }

module _ {F : Type 0} (r : Operations F) (n : ℕ) (cells : List (Cell F)) (room : n * n ≤ length cells) (i j : ℕ) (row : i < n) (column : j < n) (x : F) where
  pub with_total_at : (k l : ℕ) → l < n → noted_total r n (with_total r.zero cells (i * n + j) x) k l ≡ cond (eqb k i && eqb l j) x (noted_total r n cells k l)
  with_total_at k l below =
      ap (λ (ts : List F). get_or ts (k * n + l) r.zero) (with_total_totals n cells room i j row column r.zero x)
      ∙ pair_set n (totals cells) i j k l x r.zero row column below (omega (arith, length-map cells (λ (c : Cell F). c.total)))

  pub with_total_retotalled : Retotalled r n i cells (with_total r.zero cells (i * n + j) x)
  with_total_retotalled =
      let p = i * n + j in
      let within : p < length cells = omega (arith, place_below n i j row column) in
      record {
        scratched = with_total_scratched n cells room i j row column r.zero x;
        same_supports = map-set (λ (c : Cell F). c.support) cells p _ ∙ ap (set (supports cells) p) (sym (get_or-map (λ (c : Cell F). c.support) cells p (blank_cell r.zero) 0 within)) ∙ set-get_or (supports cells) p 0;
        same_rows = λ k l upper lower other. with_total_at k l lower ∙ cond-false _ _ _ (and_left _ _ (ne_eqb k i other));
      }

module _ {F : Type 0} (r : Operations F) (n i b : ℕ) (ahead : F) where
  -- what stands in a column once the chains are added, or before
  abbrev due : List (Cell F) → Bool → ℕ → F
  due start t l = cond t (with_chains r n start i b ahead l) (noted_total r n start i l)

  module _ (row : i < n) (lower : b < n) (apart : i ≡ b → ⊥) (j : ℕ) (column : j < n) (start cells next : List (Cell F)) (room : n * n ≤ length cells) (added : Added r n i b ahead j start cells) (rest : Retotalled r n i start cells) where
    here : noted_total r n cells i j ≡ noted_total r n start i j
    here = added j column ∙ cond-false _ _ _ (and_left _ _ (le-ltb j j (omega arith)))

    there : noted_total r n cells b j ≡ noted_total r n start b j
    there = rest.same_rows b j lower column (λ same. apart (sym same))

    shown : reached b (support_row n cells b) j ≡ reached b (support_row n start b) j
    shown = ap (λ (ss : List ℕ). reached b (λ l. get_or ss (b * n + l) 0) j) rest.same_supports

    other_columns : (l : ℕ) → (l ≡ j → ⊥) → (ltb l j && reached b (support_row n start b) l) ≡ (ltb l (j + 1) && reached b (support_row n start b) l)
    other_columns l ne = ap (λ (t : Bool). t && reached b (support_row n start b) l) (grind (arith, nat_tests))

    pub added_more : (reached b (support_row n cells b) j ≡ true → next ≡ with_total r.zero cells (i * n + j) (with_chains r n cells i b ahead j))
        → (reached b (support_row n cells b) j ≡ false → next ≡ cells)
        → Added r n i b ahead (j + 1) start next × Retotalled r n i start next
    added_more adds leaves = elim (cases_Bool (reached b (support_row n cells b) j)) [
      | inl e ↦
          let Next : List (Cell F) → Type 0 = λ after. Added r n i b ahead (j + 1) start after × Retotalled r n i start after in
          subst Next (sym (adds e)) (written e, retotalled_more r n rest (with_total_retotalled r n cells room i j row column _))
      | inr e ↦
          let Next : List (Cell F) → Type 0 = λ after. Added r n i b ahead (j + 1) start after × Retotalled r n i start after in
          subst Next (sym (leaves e)) (passed e, rest)
    ]
      where
        written : reached b (support_row n cells b) j ≡ true
            → Added r n i b ahead (j + 1) start (with_total r.zero cells (i * n + j) (with_chains r n cells i b ahead j))
        written e l below = with_total_at r n cells room i j row column _ i l below ∙ at (cases_eq l j)
          where
            at : (l ≡ j) ⊎ (l ≡ j → ⊥)
                → cond (eqb i i && eqb l j) (with_chains r n cells i b ahead j) (noted_total r n cells i l)
                ≡ due start (ltb l (j + 1) && reached b (support_row n start b) l) l
            at (inl same) =
                cond-true _ _ _ (and_from _ _ (eq-eqb i i refl) (eq-eqb l j same))
                ∙ ap₂ (λ (x y : F). r.add x (r.mul ahead y)) here there
                ∙ sym (cond-true _ _ _ (and_from _ _ (lt-ltb j (j + 1) (omega arith)) (sym shown ∙ e)))
                ∙ ap (λ (k : ℕ). due start (ltb k (j + 1) && reached b (support_row n start b) k) k) (sym same)
            at (inr ne) =
                cond-false _ _ _ (and_right _ _ (ne_eqb l j ne)) ∙ added l below ∙ ap (λ (t : Bool). due start t l) (other_columns l ne)

        passed : reached b (support_row n cells b) j ≡ false → Added r n i b ahead (j + 1) start cells
        passed e l below = added l below ∙ ap (λ (t : Bool). due start t l) (at (cases_eq l j))
          where
            at : (l ≡ j) ⊎ (l ≡ j → ⊥) → (ltb l j && reached b (support_row n start b) l) ≡ (ltb l (j + 1) && reached b (support_row n start b) l)
            at (inl same) =
                let none = ap (reached b (support_row n start b)) same ∙ sym shown ∙ e in
                and_right _ _ none ∙ sym (and_right _ _ none)
            at (inr ne) = other_columns l ne
