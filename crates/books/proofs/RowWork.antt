-- A change of one line worked into one row more of the cells.
--   done_supported, done_totalled   what the rows so far hold
--   struck_work, entered_work   the change
--   work_apart, work_own, work_circleless, struck_work_balance, entered_work_balance, entered_work_apart   what the row starts from
--   work_mends, work_passes   the row reaches the line, or not
--   work_changed, work_turnable   the change, and what the row starts from, in either direction
use Rattle.std.proofs.Common.{◌≡◌, ℕ, ◌+◌, ◌*◌, ◌<◌, ◌≤◌, true, false, eqb, List, length, get_or, is_some, Some, None, Option, sym, refl, ap, ◌∙◌, subst, subst₂, inl, inr, arith}
use Rattle.std.proofs.lemmas.Bool.{cases_lt}
use Rattle.std.proofs.lemmas.Bool.Decides.{not_from_Decides}
use Rattle.factors.specs.Ring.{Operations, Ring}
use Rattle.books.specs.Graph.{Meaning, with_line, stands, Circleless, reaches}
use Rattle.books.specs.Cells.{noted_support, cells_meaning, cells_bounded}
use Rattle.books.specs.Walks.{noted_total}
use Rattle.books.specs.Rows.{one, counted, support_row, reached, Settled, Added, Resupported, Retotalled, Direction, line_before, line_after, line_added, Turnable, RowAnswered, Supported, Totalled, HalfWorked}
use Rattle.books.specs.Rows.Direction.{down, up}
use Rattle.books.specs.declared.cell.Cell.{Cell}
use Rattle.books.proofs.ChangedRows.{Changed, struck_changed, entered_changed, row_passes, row_passed, row_reaches, row_own, row_apart, struck_balance, entered_balance, entered_apart, row_mends, working_more}
use Rattle.books.proofs.Fillings.{scratched_more}
use Rattle.books.proofs.Squares.{same_meaning}
use Rattle.books.proofs.Steps.{resupported_none}

module _ {F : Type 0} (r : Operations F) (n a b : ℕ) (was is : Option F) (p : ℕ) (cells : List (Cell F)) (work : HalfWorked r n a b was is p cells) where
  pub done_supported : Supported n p cells
  done_supported i j row column before = (work.done i row before).supported j column

  pub done_totalled : Totalled r n p cells
  done_totalled i j row column before = (work.done i row before).totalled j column

-- the change that is worked in
module _ {F : Type 0} (r : Ring F) (n : ℕ) (cells : List (Cell F)) (a b : ℕ) (f : F) (p : ℕ) where
  pub struck_work : HalfWorked r.ops n a b (Some f) None p cells → Changed r (cells_meaning n cells) a b (Some f) (r.opposite f)
  struck_work work =
      struck_changed r (cells_meaning n cells) a b (cells_bounded n cells) work.circleless work.upper work.lower f work.line work.circleless_before

  pub entered_work : HalfWorked r.ops n a b None (Some f) p cells → Changed r (cells_meaning n cells) a b None f
  entered_work work =
      entered_changed r (cells_meaning n cells) a b (cells_bounded n cells) work.circleless work.upper work.lower f work.line

module _ {F : Type 0} (r : Ring F) (n : ℕ) (cells : List (Cell F)) (a b : ℕ) (was is : Option F) (x : F) (changed : Changed r (cells_meaning n cells) a b was x) (i : ℕ) (row : i < n) (work : HalfWorked r.ops n a b was is i cells) where
  own_row : RowAnswered r.ops (with_line (cells_meaning n cells) a b was) n i cells
  own_row = work.left i row (omega arith)

  -- the row of the lower block holds the numbers from before the change, whether it is worked into or not
  lower_row : RowAnswered r.ops (with_line (cells_meaning n cells) a b was) n b cells
  lower_row = elim (cases_lt b i) [
    | inl before ↦ row_passed r n cells a b was x changed b work.lower changed.lower_apart (work.done b work.lower before)
    | inr behind ↦ work.left b work.lower behind
  ]

  pub work_passes : reached i (support_row n cells i) a ≡ false → HalfWorked r.ops n a b was is (i + 1) cells
  work_passes none =
      working_more r.ops n a b was is i row cells cells work (resupported_none n i cells).scratched work.square.room
      (row_passes r n cells a b was x changed i row (not_from_Decides (reached i (support_row n cells i) a) (row_reaches r n cells a b was x changed i row own_row a work.upper) none) own_row)
      (resupported_none n i cells).same_rows (λ k j upper lower other. refl)

  module _ (at : reached i (support_row n cells i) a ≡ true) where
    pub work_apart : i ≡ b → ⊥
    work_apart = row_apart r n cells a b was x changed i row own_row work.upper at

    -- once the totals are added up, the support numbers are still those of the row
    module _ (mid : List (Cell F)) (rest : Retotalled r.ops n i cells mid) where
      same : cells_meaning n mid ≡ cells_meaning n cells
      same = same_meaning n cells mid rest.scratched.same_lines

      pub work_own : noted_support n mid i i ≡ 0
      work_own = ap (λ (ss : List ℕ). get_or ss (i * n + i) 0) rest.same_supports ∙ row_own r n cells a b was x changed i row own_row

      pub work_circleless : Circleless (cells_meaning n mid)
      work_circleless = subst (λ (m : Meaning F). Circleless m) (sym same) changed.circleless

      pub struck_work_balance : is_some was ≡ true → is_some is ≡ false
          → (j : ℕ) → j < n → noted_support n mid i j ≡ counted (cells_meaning n mid) (reached i (support_row n mid i)) j + one (eqb j b)
      struck_work_balance stood gone =
          let Balance : Meaning F → List ℕ → Type 0 = λ m ss. (j : ℕ) → j < n → get_or ss (i * n + j) 0 ≡ counted m (reached i (λ l. get_or ss (i * n + l) 0)) j + one (eqb j b) in
          subst₂ Balance (sym same) (sym rest.same_supports) (struck_balance r n cells a b was x changed i row own_row work.upper at stood (ap is_some work.line ∙ gone))

      pub entered_work_balance : is_some was ≡ false → is_some is ≡ true
          → (j : ℕ) → j < n → counted (cells_meaning n mid) (reached i (support_row n mid i)) j ≡ noted_support n mid i j + one (eqb j b)
      entered_work_balance none stands =
          let Balance : Meaning F → List ℕ → Type 0 = λ m ss. (j : ℕ) → j < n → counted m (reached i (λ l. get_or ss (i * n + l) 0)) j ≡ get_or ss (i * n + j) 0 + one (eqb j b) in
          subst₂ Balance (sym same) (sym rest.same_supports) (entered_balance r n cells a b was x changed i row own_row work.upper at none (ap is_some work.line ∙ stands))

      pub entered_work_apart : is_some was ≡ false → is_some is ≡ true → reaches (cells_meaning n mid) b i ≡ false
      entered_work_apart none stands =
          ap (λ (m : Meaning F). reaches m b i) same ∙ entered_apart r n cells a b was x changed i row own_row work.upper at none (ap is_some work.line ∙ stands)

      pub work_mends : (after : List (Cell F)) → n * n ≤ length after
          → Added r.ops n i b (r.ops.mul (noted_total r.ops n cells i a) x) n cells mid
          → Resupported n i mid after → Settled (cells_meaning n mid) i (support_row n after i)
          → HalfWorked r.ops n a b was is (i + 1) after
      work_mends after room added settles settled =
          working_more r.ops n a b was is i row cells after work (scratched_more rest.scratched settles.scratched) room
          (row_mends r n cells a b was x changed i row own_row work.lower lower_row mid after work.upper added rest.scratched settles.same_totals settled)
          (λ k j upper lower other. settles.same_rows k j upper lower other ∙ ap (λ (ss : List ℕ). get_or ss (k * n + j) 0) rest.same_supports)
          (λ k j upper lower other. ap (λ (ts : List F). get_or ts (k * n + j) r.ops.zero) settles.same_totals ∙ rest.same_rows k j upper lower other)

-- the same in either direction
module _ {F : Type 0} (r : Ring F) (n : ℕ) (cells : List (Cell F)) (a b : ℕ) (f : F) where
  pub work_changed : (d : Direction) (p : ℕ) → HalfWorked r.ops n a b (line_before d f) (line_after d f) p cells
      → Changed r (cells_meaning n cells) a b (line_before d f) (line_added r d f)
  work_changed down p work = struck_work r n cells a b f p work
  work_changed up p work = entered_work r n cells a b f p work

  pub work_turnable : (d : Direction) (i : ℕ) (row : i < n) (work : HalfWorked r.ops n a b (line_before d f) (line_after d f) i cells)
      → reached i (support_row n cells i) a ≡ true → (mid : List (Cell F)) → Retotalled r.ops n i cells mid → Turnable d n i b mid
  work_turnable down i row work at mid rest = record {
    own = work_own r n cells a b (Some f) None (r.opposite f) (work_changed down i work) i row work at mid rest;
    balance = struck_work_balance r n cells a b (Some f) None (r.opposite f) (work_changed down i work) i row work at mid rest refl refl;
  }
  work_turnable up i row work at mid rest = record {
    circleless = work_circleless r n cells a b None (Some f) f (work_changed up i work) i row work at mid rest;
    apart = entered_work_apart r n cells a b None (Some f) f (work_changed up i work) i row work at mid rest refl refl;
    balance = entered_work_balance r n cells a b None (Some f) f (work_changed up i work) i row work at mid rest refl refl;
  }
