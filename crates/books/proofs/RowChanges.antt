-- The work set of a row, said of the cells: what its loop keeps, how it starts, turns and ends.
--   RowLosing, row_loses_..    blocks that a row loses
--   RowGaining, row_gains_..   blocks that a row gains
--   RowTurning, unturned, first_steppable, turning_..   either
use Rattle.std.proofs.Common.{◌≡◌, ℕ, ◌+◌, ◌<◌, ◌≤◌, Bool, true, false, not, ◌&&◌, ◌||◌, eqb, List, length, get_or, set, replicate, sym, refl, ap, ◌∙◌, subst, arith}
use Rattle.std.proofs.lemmas.List.{length-set, get_or-replicate}
use Rattle.std.proofs.lemmas.Bool.{eq-eqb}
use Rattle.books.specs.Graph.{Meaning, Bounded, Circleless, stands, count_below, reaches}
use Rattle.books.specs.Cells.{cells_meaning, cells_bounded, noted_support}
use Rattle.books.specs.Rows.{Direction, Steppable, one, counted, support_row, reached, Settled, Stepped, SteppedBy, Turnable, Resupported}
use Rattle.books.specs.Rows.Direction.{down, up}
use Rattle.books.specs.Graph.Chain.{empty}
use Rattle.books.specs.declared.cell.Cell.{Cell}
use Rattle.books.proofs.Chains.{reaches_chain, chain_reaches, chain_onward}
use Rattle.books.proofs.Counts.{count_at_most}
use Rattle.books.proofs.Squares.{same_meaning}
use Rattle.books.proofs.Steps.{resupported_none, resupported_more, steps_row, cleared_row}
use Rattle.books.proofs.WorkSets.{Lessened, Losing, Gaining, Closed, losing_starts, losing_some, losing_turns, losing_falls, losing_ends, gaining_starts, gaining_turns, gaining_falls, gaining_ends}

-- the marks of a list, as a test
abbrev pub marked : List Bool → ℕ → Bool
marked marks = λ x. get_or marks x false

-- the loop works on the lines that stood as it began, and changes support numbers of row i only
pub record RowLosing {F : Type 0} (n i : ℕ) (start cells : List (Cell F)) (lost : List Bool) : Type 0 where
  pub places : length lost ≡ 64
  pub rest : Resupported n i start cells
  pub losing : Losing (cells_meaning n start) i (support_row n cells i) (marked lost)

pub record RowGaining {F : Type 0} (n i b : ℕ) (start cells : List (Cell F)) (gained : List Bool) : Type 0 where
  pub places : length gained ≡ 64
  pub rest : Resupported n i start cells
  pub circleless : Circleless (cells_meaning n start)
  pub apart : reaches (cells_meaning n start) b i ≡ false
  pub gaining : Gaining (cells_meaning n start) (reaches (cells_meaning n start) b) i (support_row n cells i) (marked gained)

-- what a block reaches is closed under lines
pub reached_closed : {F : Type 0} (m : Meaning F) → Bounded m → Circleless m → (b : ℕ) → Closed m (reaches m b)
reached_closed m bounded circleless b x y line at =
    let (k, d) = reaches_chain m bounded circleless b x at in chain_reaches m bounded circleless (chain_onward d line)

-- a list of unmarked places
none_marked : (n : ℕ) (marks : List Bool) → n ≤ 64 → marks ≡ replicate 64 false → (j : ℕ) → j < n → get_or marks j false ≡ false
none_marked n marks small none j below = ap (λ (bs : List Bool). get_or bs j false) none ∙ get_or-replicate 64 j false false (omega arith)

module _ {F : Type 0} (n i b : ℕ) (small : n ≤ 64) (row : i < n) (cells start : List (Cell F)) (marks after : List Bool) (none : marks ≡ replicate 64 false) (kept : length after ≡ length marks) (rest : Resupported n i cells start) where
  pub row_loses_starts : Stepped n i (λ j. eqb j b) start cells marks after
      → noted_support n cells i i ≡ 0
      → ((j : ℕ) → j < n → noted_support n cells i j ≡ counted (cells_meaning n cells) (reached i (support_row n cells i)) j + one (eqb j b))
      → RowLosing n i start start after
  row_loses_starts step own balance = record {
    places = kept ∙ ap length none;
    rest = resupported_none n i start;
    losing = subst (λ (m : Meaning F). Losing m i (support_row n start i) (marked after)) (sym (same_meaning n cells start rest.scratched.same_lines))
        (losing_starts (cells_meaning n cells) i b (support_row n start i) (support_row n cells i) (marked marks) (marked after) (none_marked n marks small none) (steps_row n i row (λ j. eqb j b) step) row own balance);
  }

  pub row_gains_starts : Stepped n i (λ j. eqb j b) cells start marks after → Circleless (cells_meaning n cells) → reaches (cells_meaning n cells) b i ≡ false
      → ((j : ℕ) → j < n → counted (cells_meaning n cells) (reached i (support_row n cells i)) j ≡ noted_support n cells i j + one (eqb j b))
      → RowGaining n i b start start after
  row_gains_starts step circleless apart balance = record {
    places = kept ∙ ap length none;
    rest = resupported_none n i start;
    circleless = subst (λ (m : Meaning F). Circleless m) (sym (same_meaning n cells start rest.scratched.same_lines)) circleless;
    apart = ap (λ (m : Meaning F). reaches m b i) (same_meaning n cells start rest.scratched.same_lines) ∙ apart;
    gaining = subst (λ (m : Meaning F). Gaining m (reaches m b) i (support_row n start i) (marked after)) (sym (same_meaning n cells start rest.scratched.same_lines))
        (gaining_starts (cells_meaning n cells) i b (support_row n cells i) (support_row n start i) (marked marks) (marked after) (none_marked n marks small none) (steps_row n i row (λ j. eqb j b) step)
        (reaches (cells_meaning n cells) b) (chain_reaches (cells_meaning n cells) (cells_bounded n cells) circleless empty) apart balance);
  }

module _ {F : Type 0} (n i : ℕ) (small : n ≤ 64) (row : i < n) (start cells next : List (Cell F)) (marks after : List Bool) (l : ℕ) (block : l < n) (at : get_or marks l false ≡ true) (kept : length after ≡ length (set marks l false)) (more : Resupported n i cells next) where
  module _ (inv : RowLosing n i start cells marks) (step : Stepped n i (stands (cells_meaning n cells) l) next cells (set marks l false) after) where
    lost_step : Lessened n (stands (cells_meaning n start) l) (support_row n next i) (support_row n cells i) (marked (set marks l false)) (marked after)
    lost_step =
        subst (λ (m : Meaning F). Lessened n (stands m l) (support_row n next i) (support_row n cells i) (marked (set marks l false)) (marked after)) (same_meaning n start cells inv.rest.scratched.same_lines)
        (steps_row n i row (stands (cells_meaning n cells) l) step)

    pub row_loses_turns : RowLosing n i start next after
    row_loses_turns = record {
      places = kept ∙ length-set marks l false ∙ inv.places;
      rest = resupported_more n inv.rest more;
      losing = losing_turns (cells_meaning n start) i l block (support_row n next i) (support_row n cells i) (marked marks) (marked (set marks l false)) (marked after) (cleared_row n l marks (omega (arith, inv.places)) block) lost_step at inv.losing row;
    }

    pub row_loses_falls : count_below n (λ x. reached i (support_row n next i) x || marked after x) < count_below n (λ x. reached i (support_row n cells i) x || marked marks x)
    row_loses_falls =
        losing_falls (cells_meaning n start) i l block (support_row n next i) (support_row n cells i) (marked marks) (marked (set marks l false)) (marked after) (cleared_row n l marks (omega (arith, inv.places)) block) lost_step at inv.losing row

  module _ (b : ℕ) (inv : RowGaining n i b start cells marks) (step : Stepped n i (stands (cells_meaning n cells) l) cells next (set marks l false) after) where
    gained_step : Lessened n (stands (cells_meaning n start) l) (support_row n cells i) (support_row n next i) (marked (set marks l false)) (marked after)
    gained_step =
        subst (λ (m : Meaning F). Lessened n (stands m l) (support_row n cells i) (support_row n next i) (marked (set marks l false)) (marked after)) (same_meaning n start cells inv.rest.scratched.same_lines)
        (steps_row n i row (stands (cells_meaning n cells) l) step)

    pub row_gains_turns : RowGaining n i b start next after
    row_gains_turns = record {
      places = kept ∙ length-set marks l false ∙ inv.places;
      rest = resupported_more n inv.rest more;
      circleless = inv.circleless;
      apart = inv.apart;
      gaining = gaining_turns (cells_meaning n start) i l block (support_row n cells i) (support_row n next i) (marked marks) (marked (set marks l false)) (marked after) (cleared_row n l marks (omega (arith, inv.places)) block) gained_step at
          (reaches (cells_meaning n start) b) (reached_closed (cells_meaning n start) (cells_bounded n start) inv.circleless b) inv.apart inv.gaining;
    }

    pub row_gains_falls : count_below n (λ x. not (reached i (support_row n next i) x && not (marked after x))) < count_below n (λ x. not (reached i (support_row n cells i) x && not (marked marks x)))
    row_gains_falls =
        gaining_falls (cells_meaning n start) i l block (support_row n cells i) (support_row n next i) (marked marks) (marked (set marks l false)) (marked after) (cleared_row n l marks (omega (arith, inv.places)) block) gained_step at
        (reaches (cells_meaning n start) b) (reached_closed (cells_meaning n start) (cells_bounded n start) inv.circleless b) inv.apart inv.gaining

module _ {F : Type 0} (n i : ℕ) (start cells : List (Cell F)) (marks : List Bool) where
  -- every line from a block of the work set is counted in the row
  pub row_loses_some : RowLosing n i start cells marks → (l : ℕ) → l < n → get_or marks l false ≡ true
      → (j : ℕ) → j < n → stands (cells_meaning n cells) l j ≡ true → 0 < noted_support n cells i j
  row_loses_some inv l block at j below line =
      losing_some (cells_meaning n start) i (support_row n cells i) (marked marks) inv.losing l block at j below
      (ap (λ (m : Meaning F). stands m l j) (sym (same_meaning n start cells inv.rest.scratched.same_lines)) ∙ line)

  -- a support number is at most the number of blocks
  pub row_gains_few : (b : ℕ) → RowGaining n i b start cells marks → (j : ℕ) → j < n → noted_support n cells i j ≤ n
  row_gains_few b inv j below = omega (arith, inv.gaining.balance j below, count_at_most n (λ x. stands (cells_meaning n start) x j && (reached i (support_row n cells i) x && not (marked marks x))))

module _ {F : Type 0} (n i : ℕ) (first start cells : List (Cell F)) (marks : List Bool) (rest : Resupported n i first start) (over : (x : ℕ) → x < n → get_or marks x false ≡ false) where
  settled_first : Settled (cells_meaning n start) i (support_row n cells i) → Settled (cells_meaning n first) i (support_row n cells i)
  settled_first = subst (λ (m : Meaning F). Settled m i (support_row n cells i)) (same_meaning n first start rest.scratched.same_lines)

  pub row_loses_ends : RowLosing n i start cells marks → Settled (cells_meaning n first) i (support_row n cells i)
  row_loses_ends inv = settled_first (losing_ends (cells_meaning n start) i (support_row n cells i) (marked marks) over inv.losing)

  pub row_gains_ends : (b : ℕ) → RowGaining n i b start cells marks → Settled (cells_meaning n first) i (support_row n cells i)
  row_gains_ends b inv =
      settled_first (gaining_ends (cells_meaning n start) i (support_row n cells i) (marked marks) over (reaches (cells_meaning n start) b) inv.gaining)

-- the number that the changed line steps is above 0 before a strike, and at most the number of blocks before an entry
module _ {F : Type 0} (b : ℕ) (m : Meaning F) (small : m.size ≤ 64) (p : ℕ → Bool) (s : ℕ) where
  same_column : one (eqb b b) ≡ 1
  same_column = ap one (eq-eqb b b refl)

  pub struck_some : s ≡ counted m p b + one (eqb b b) → 0 < s
  struck_some balance = let e = same_column in omega arith

  pub entered_few : counted m p b ≡ s + one (eqb b b) → s ≤ 64
  entered_few balance = omega (arith, count_at_most m.size (λ l. stands m l b && p l))

-- the same in either direction
abbrev pub RowTurning : {F : Type 0} → Direction → ℕ → ℕ → ℕ → List (Cell F) → List (Cell F) → List Bool → Type 0
RowTurning down n i b start cells marks = RowLosing n i start cells marks
RowTurning up n i b start cells marks = RowGaining n i b start cells marks

-- the blocks that a loop has still to turn, or that the row keeps
abbrev pub unturned : {F : Type 0} → Direction → ℕ → ℕ → List (Cell F) → List Bool → ℕ → Bool
unturned down n i cells marks x = reached i (support_row n cells i) x || get_or marks x false
unturned up n i cells marks x = not (reached i (support_row n cells i) x && not (get_or marks x false))

module _ {F : Type 0} (n i b : ℕ) (start cells : List (Cell F)) (marks : List Bool) where
  pub turning_places : (d : Direction) → RowTurning d n i b start cells marks → length marks ≡ 64
  turning_places down inv = inv.places
  turning_places up inv = inv.places

  pub turning_rest : (d : Direction) → RowTurning d n i b start cells marks → Resupported n i start cells
  turning_rest down inv = inv.rest
  turning_rest up inv = inv.rest

  pub turning_steppable : (d : Direction) → n ≤ 64 → RowTurning d n i b start cells marks → (l : ℕ) → l < n → get_or marks l false ≡ true
      → (j : ℕ) → j < n → stands (cells_meaning n cells) l j ≡ true → Steppable d (noted_support n cells i j)
  turning_steppable down small inv l block at j below line = row_loses_some n i start cells marks inv l block at j below line
  turning_steppable up small inv l block at j below line = omega (arith, row_gains_few n i start cells marks b inv j below, small)

module _ {F : Type 0} (n i b : ℕ) (cells : List (Cell F)) where
  -- the number that the changed line steps can step
  pub first_steppable : (d : Direction) → n ≤ 64 → b < n → Turnable d n i b cells → Steppable d (noted_support n cells i b)
  first_steppable down small lower starts = struck_some b (cells_meaning n cells) small (reached i (support_row n cells i)) _ (starts.balance b lower)
  first_steppable up small lower starts = entered_few b (cells_meaning n cells) small (reached i (support_row n cells i)) _ (starts.balance b lower)

  pub turning_starts : (d : Direction) (small : n ≤ 64) (row : i < n) (start : List (Cell F)) (marks after : List Bool) → marks ≡ replicate 64 false → length after ≡ length marks → Resupported n i cells start
      → Turnable d n i b cells → SteppedBy d n i (λ j. eqb j b) cells start marks after → RowTurning d n i b start start after
  turning_starts down small row start marks after none kept rest starts step = row_loses_starts n i b small row cells start marks after none kept rest step starts.own starts.balance
  turning_starts up small row start marks after none kept rest starts step = row_gains_starts n i b small row cells start marks after none kept rest step starts.circleless starts.apart starts.balance

module _ {F : Type 0} (n i : ℕ) (small : n ≤ 64) (row : i < n) (start cells next : List (Cell F)) (marks after : List Bool) (l : ℕ) (block : l < n) (at : get_or marks l false ≡ true) (kept : length after ≡ length (set marks l false)) (more : Resupported n i cells next) (b : ℕ) where
  pub turning_turns : (d : Direction) → RowTurning d n i b start cells marks → SteppedBy d n i (stands (cells_meaning n cells) l) cells next (set marks l false) after → RowTurning d n i b start next after
  turning_turns down inv step = row_loses_turns n i small row start cells next marks after l block at kept more inv step
  turning_turns up inv step = row_gains_turns n i small row start cells next marks after l block at kept more b inv step

  pub turning_falls : (d : Direction) → RowTurning d n i b start cells marks → SteppedBy d n i (stands (cells_meaning n cells) l) cells next (set marks l false) after
      → count_below n (unturned d n i next after) < count_below n (unturned d n i cells marks)
  turning_falls down inv step = row_loses_falls n i small row start cells next marks after l block at kept more inv step
  turning_falls up inv step = row_gains_falls n i small row start cells next marks after l block at kept more b inv step

module _ {F : Type 0} (n i : ℕ) (first start cells : List (Cell F)) (marks : List Bool) (rest : Resupported n i first start) (over : (x : ℕ) → x < n → get_or marks x false ≡ false) (b : ℕ) where
  pub turning_ends : (d : Direction) → RowTurning d n i b start cells marks → Settled (cells_meaning n first) i (support_row n cells i)
  turning_ends down inv = row_loses_ends n i first start cells marks rest over inv
  turning_ends up inv = row_gains_ends n i first start cells marks rest over b inv
