-- The working space of a plain book fills with W(k,c,b), row after row, and the column of a block then adds up to its total.
use Rattle.std.proofs.Common.{◌≡◌, ℕ, suc, ◌+◌, ◌-◌, ◌*◌, ◌<◌, ◌≤◌, cond, eqb, List, length, get_or, set, None, sym, ap, ◌∙◌, subst, ap₂, ⊎_elim, suc-mul, add-one, arith}
use Rattle.std.proofs.lemmas.List.{map-set, set-get_or, get_or-set_same, get_or-set_other, get_or-map, length-map, drop-set-lt}
use Rattle.std.proofs.lemmas.Bool.{cases_eq}
use Rattle.std.proofs.lemmas.Nat.{same_from_place}
use Rattle.factors.specs.Ring.{Operations, Ring}
use Rattle.books.specs.Graph.{Meaning, Circleless, sum_below, along, walks, total}
use Rattle.books.specs.Cells.{PlainSound, Scratched, blank_cell, cell_line, lines, factors, totals, cells_meaning, with_total}
use Rattle.books.specs.Walks.{Filled, row_sum, noted_total}
use Rattle.books.specs.declared.cell.Cell.{Cell}
use Rattle.books.proofs.Squares.{place_below, same_meaning}
use Rattle.books.proofs.Sums.{sum_same}

module _ {F : Type 0} (r : Operations F) where
  pub sum_more : (n : ℕ) (f : ℕ → F) → sum_below r (n + 1) f ≡ r.add (sum_below r n f) (f n)
  sum_more n f = ap (λ (k : ℕ). sum_below r k f) (add-one n)

  pub walks_none : (m : Meaning F) (k a b : ℕ) → k ≤ 0 → cond (eqb a b) r.one r.zero ≡ walks r m k a b
  unfolding walks
  walks_none m k a b none = let zeroth : 0 ≡ k = omega arith in ap (λ (j : ℕ). walks r m j a b) zeroth

pub scratched_more : {F : Type 0} {n : ℕ} {before between after : List (Cell F)} → Scratched n before between → Scratched n between after → Scratched n before after
scratched_more p q = record {
  same_lines = q.same_lines ∙ p.same_lines;
  same_factors = q.same_factors ∙ p.same_factors;
  beyond = q.beyond ∙ p.beyond;
}

-- a sound book stays sound
pub scratched_sound : {F : Type 0} (zero : F) (n : ℕ) (before after : List (Cell F)) → n * n ≤ length after → Scratched n before after → PlainSound zero n before → PlainSound zero n after
scratched_sound {F} zero n before after room scratched sound = record {
  square = record { small = sound.square.small; room = room };
  vacant = λ k below none.
      ap (λ (fs : List F). get_or fs k zero) scratched.same_factors
      ∙ sound.vacant k below (ap (λ ls. get_or ls k None) (sym scratched.same_lines) ∙ none);
  circleless = subst (λ (m : Meaning F). Circleless m) (sym (same_meaning n before after scratched.same_lines)) sound.circleless;
}

module _ {F : Type 0} (n : ℕ) (cells : List (Cell F)) (room : n * n ≤ length cells) (a b : ℕ) (upper : a < n) (lower : b < n) (zero x : F) where
  within : a * n + b < length cells
  within = omega (arith, place_below n a b upper lower)

  pub with_total_scratched : Scratched n cells (with_total zero cells (a * n + b) x)
  with_total_scratched =
      let k = a * n + b in
      record {
        same_lines = map-set cell_line cells k _ ∙ ap (set (lines cells) k) (sym (get_or-map cell_line cells k (blank_cell zero) None within)) ∙ set-get_or (lines cells) k None;
        same_factors = map-set (λ (c : Cell F). c.factor) cells k _ ∙ ap (set (factors cells) k) (sym (get_or-map (λ (c : Cell F). c.factor) cells k (blank_cell zero) zero within)) ∙ set-get_or (factors cells) k zero;
        beyond = drop-set-lt (n * n) cells k _ (place_below n a b upper lower);
      }

  pub with_total_totals : totals (with_total zero cells (a * n + b) x) ≡ set (totals cells) (a * n + b) x
  with_total_totals = map-set (λ (c : Cell F). c.total) cells (a * n + b) _

module _ {F : Type 0} (ring : Ring F) (n : ℕ) (b : ℕ) where
  -- the next row is the sum along lines of the row before
  pub filled_walks : (cells : List (Cell F)) (k a : ℕ) → 0 < k → Filled ring.ops (cells_meaning n cells) b (k * n) cells
      → row_sum ring.ops n cells (k - 1) a n ≡ walks ring.ops (cells_meaning n cells) k a b
  unfolding walks
  filled_walks cells k a some filled =
      sum_same ring n _ _ (λ c below. ap (along ring.ops ((cells_meaning n cells).line a c)) (filled (k - 1) c below (before c below)))
      ∙ ap (λ (j : ℕ). walks ring.ops (cells_meaning n cells) j a b) next
    where
      next : suc (k - 1) ≡ k
      next = omega arith

      before : (c : ℕ) → c < n → (k - 1) * n + c < k * n
      before c below = let row : k * n ≡ (k - 1) * n + n = ap (λ (j : ℕ). j * n) (sym next) ∙ suc-mul (k - 1) n in omega arith

  -- one place more is filled
  pub filled_more : (start cells next : List (Cell F)) (k a : ℕ) (x : F) → n * n ≤ length cells → k < n → a < n
      → x ≡ walks ring.ops (cells_meaning n cells) k a b → next ≡ with_total ring.ops.zero cells (k * n + a) x
      → Scratched n start cells × Filled ring.ops (cells_meaning n start) b (k * n + a) cells
      → Scratched n start next × Filled ring.ops (cells_meaning n start) b (k * n + (a + 1)) next
  filled_more start cells next k a x room row block worth set_there (scratched, filled) =
      let Next : List (Cell F) → Type 0 = λ cs. Scratched n start cs × Filled ring.ops (cells_meaning n start) b (k * n + (a + 1)) cs in
      subst Next (sym set_there) (scratched_more scratched (with_total_scratched n cells room k a row block ring.ops.zero x), at)
    where
      at : Filled ring.ops (cells_meaning n start) b (k * n + (a + 1)) (with_total ring.ops.zero cells (k * n + a) x)
      at i c below reached =
          ap (λ (ts : List F). get_or ts (i * n + c) ring.ops.zero) (with_total_totals n cells room k a row block ring.ops.zero x)
          ∙ ⊎_elim here elsewhere (cases_eq (i * n + c) (k * n + a))
        where
          here : i * n + c ≡ k * n + a → get_or (set (totals cells) (k * n + a) x) (i * n + c) ring.ops.zero ≡ walks ring.ops (cells_meaning n start) i c b
          here same =
              let (rows, blocks) = same_from_place i c k a n below block same in
              ap (λ (p : ℕ). get_or (set (totals cells) (k * n + a) x) p ring.ops.zero) same
              ∙ get_or-set_same (totals cells) (k * n + a) x ring.ops.zero (omega (arith, place_below n k a row block, length-map cells (λ (c : Cell F). c.total)))
              ∙ worth
              ∙ ap (λ (m : Meaning F). walks ring.ops m k a b) (same_meaning n start cells scratched.same_lines)
              ∙ ap₂ (λ (j d : ℕ). walks ring.ops (cells_meaning n start) j d b) (sym rows) (sym blocks)

          elsewhere : (i * n + c ≡ k * n + a → ⊥) → get_or (set (totals cells) (k * n + a) x) (i * n + c) ring.ops.zero ≡ walks ring.ops (cells_meaning n start) i c b
          elsewhere apart =
              get_or-set_other (totals cells) (k * n + a) (i * n + c) x ring.ops.zero apart ∙ filled i c below (omega arith)

  -- once every row is filled, what stands in the column of a adds up to the total
  pub filled_total : (start cells : List (Cell F)) (a : ℕ) → a < n → Filled ring.ops (cells_meaning n start) b (n * n) cells
      → sum_below ring.ops n (λ k. noted_total ring.ops n cells k a) ≡ total ring.ops (cells_meaning n start) a b
  unfolding total
  filled_total start cells a block filled =
      sum_same ring n _ _ (λ k below. filled k a block (place_below n k a below block))
