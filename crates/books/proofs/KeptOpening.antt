-- A new kept book: blank cells with ones from each block to itself hold what the definitions give without lines.
--   ones_more   the loop that sets the ones
--   opened_kept_meaning, opened_kept   the lines and the condition of a new kept book
use Rattle.std.proofs.Common.{◌≡◌, ℕ, ◌+◌, ◌*◌, ◌<◌, ◌≤◌, Bool, true, false, cond, ◌&&◌, eqb, ltb, List, length, get_or, sym, refl, ap, ◌∙◌, subst, ap₂, arith}
use Rattle.std.proofs.lemmas.Bool.{false≢true, lt-ltb}
use Rattle.std.proofs.lemmas.Bool.Decides.{nat_tests}
use Rattle.factors.specs.Ring.{Operations, Ring}
use Rattle.books.specs.Graph.{Meaning, no_lines, support, total}
use Rattle.books.specs.Cells.{Square, Scratched, supports, noted_support, cells_meaning, with_total, opened_cells}
use Rattle.books.specs.Walks.{noted_total}
use Rattle.books.specs.Kept.{OnesUpto, KeptSound}
use Rattle.books.specs.declared.cell.Cell.{Cell}
use Rattle.books.proofs.AddedChains.{with_total_at, with_total_retotalled}
use Rattle.books.proofs.Chains.{no_lines_circleless}
use Rattle.books.proofs.Counts.{count_none}
use Rattle.books.proofs.Fillings.{scratched_more, scratched_sound}
use Rattle.books.proofs.KeptCells.{kept_from}
use Rattle.books.proofs.Openings.{opened_at, blank_meaning, blank_sound}
use Rattle.books.proofs.Squares.{place_below, same_meaning}
use Rattle.books.proofs.Sums.{add_none, sum_zeros}
use Rattle.books.proofs.Totals.{total_from_lines}

module _ {F : Type 0} (r : Operations F) (n : ℕ) where
  pub ones_more : (i : ℕ) → i < n → (start cells next : List (Cell F)) (x : F) → x ≡ r.one → n * n ≤ length cells → next ≡ with_total r.zero cells (i * n + i) x
      → OnesUpto r n i start cells × Scratched n start cells × (supports cells ≡ supports start)
      → OnesUpto r n (i + 1) start next × Scratched n start next × (supports next ≡ supports start)
  ones_more i block start cells next x worth room set (ones, scratched, same) =
      let Next : List (Cell F) → Type 0 = λ cs. OnesUpto r n (i + 1) start cs × Scratched n start cs × (supports cs ≡ supports start) in
      let rest = with_total_retotalled r n cells room i i block block x in
      subst Next (sym set) (at, scratched_more scratched rest.scratched, rest.same_supports ∙ same)
    where
      at : OnesUpto r n (i + 1) start (with_total r.zero cells (i * n + i) x)
      at a b upper lower =
          with_total_at r n cells room i i block block x a b lower
          ∙ ap₂ (λ (y z : F). cond (eqb a i && eqb b i) y z) worth (ones a b upper lower)
          ∙ by_test
        where
          by_test : cond (eqb a i && eqb b i) r.one (cond (eqb a b && ltb a i) r.one (noted_total r n start a b)) ≡ cond (eqb a b && ltb a (i + 1)) r.one (noted_total r n start a b)
          by_test = grind (arith, nat_tests)

-- without lines nothing is counted, and only the empty chain adds to a total
blank_support : (F : Type 0) (n a b : ℕ) → support (no_lines {F = F} n) a b ≡ 0
unfolding support
blank_support F n a b = count_none n _ (λ l below. refl)

blank_total : {F : Type 0} (r : Ring F) (n a b : ℕ) → a < n → total r.ops (no_lines n) a b ≡ cond (eqb a b) r.ops.one r.ops.zero
blank_total {F} r n a b block =
    total_from_lines r (no_lines n) (λ c d never. absurd (false≢true never)) (no_lines_circleless F n) a b block ∙ add_none r _ _ (sum_zeros r n _ (λ c below. refl))

-- blank cells with ones from each block to itself
module _ {F : Type 0} (r : Ring F) (n : ℕ) (cells : List (Cell F)) (square : Square n cells) (after : List (Cell F)) (blank : cells ≡ opened_cells r.ops.zero n cells) (ones : OnesUpto r.ops n n cells after) (scratched : Scratched n cells after) (same : supports after ≡ supports cells) (room : n * n ≤ length after) where
  pub opened_kept_meaning : cells_meaning n after ≡ no_lines n
  opened_kept_meaning = same_meaning n cells after scratched.same_lines ∙ blank_meaning r.ops.zero n cells square blank

  pub opened_kept : KeptSound r.ops n after
  opened_kept =
      kept_from r.ops n after (scratched_sound r.ops.zero n cells after room scratched (blank_sound r.ops.zero n cells square blank))
      (λ a b upper lower all.
      ap (λ (ss : List ℕ). get_or ss (a * n + b) 0) same
      ∙ ap (λ (cs : List (Cell F)). noted_support n cs a b) blank
      ∙ opened_at r.ops.zero n cells square (λ c. c.support) (a * n + b) 0 (place_below n a b upper lower)
      ∙ sym (blank_support F n a b)
      ∙ ap (λ (m : Meaning F). support m a b) (sym opened_kept_meaning))
      (λ a b upper lower all.
      ones a b upper lower
      ∙ ap₂ (λ (t : Bool) (y : F). cond t r.ops.one y) (both (eqb a b) (ltb a n) (lt-ltb a n upper))
      (ap (λ (cs : List (Cell F)). noted_total r.ops n cs a b) blank ∙ opened_at r.ops.zero n cells square (λ c. c.total) (a * n + b) r.ops.zero (place_below n a b upper lower))
      ∙ sym (blank_total r n a b upper)
      ∙ ap (λ (m : Meaning F). total r.ops m a b) (sym opened_kept_meaning))
    where
      both : (s t : Bool) → t ≡ true → (s && t) ≡ s
      both true t e = e
      both false t e = refl
