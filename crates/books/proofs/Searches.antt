-- A search: what its loop keeps, a visit keeps it, and once every block seen is visited the seen ones are the reached ones.
use Rattle.std.proofs.Common.{◌≡◌, ℕ, suc, ◌<◌, ◌≤◌, Bool, true, false, ◌||◌, ◌⊎◌, List, length, get_or, set, replicate, Option, Some, None, MatchOption, sym, refl, ap, ◌∙◌, ⊎_elim, arith}
use Rattle.std.proofs.lemmas.List.{get_or-set_same, length-set}
use Rattle.std.proofs.lemmas.Grind.{common_steps}
use Rattle.std.proofs.lemmas.Bool.{or_cases, or_left, or_right}
use Rattle.books.specs.Graph.{Meaning, Bounded, Circleless, Reaches, stands, reaches}
use Rattle.books.proofs.Chains.{reaches_same, chain_onward, search_decides}

-- the blocks seen are reached from a, a is one of them, and lines from a visited block lead to blocks that are seen
pub record Searched {F : Type 0} (m : Meaning F) (a : ℕ) (seen visited : List Bool) : Type 0 where
  pub seen_room : length seen ≡ 64
  pub visited_room : length visited ≡ 64
  pub start : get_or seen a false ≡ true
  pub reached : (j : ℕ) → j < m.size → get_or seen j false ≡ true → Reaches m a j
  pub followed : (l j : ℕ) → l < m.size → j < m.size → get_or visited l false ≡ true → stands m l j ≡ true → get_or seen j false ≡ true

-- no place of a list of unmarked places is marked
unmarked : (n k : ℕ) → get_or (replicate n false) k false ≡ true → ⊥
unmarked n k marked = grind (arith, common_steps)

-- a place that is marked after one was is that one or was marked before
newly : (marks : List Bool) (i k : ℕ) → get_or (set marks i true) k false ≡ true → (k ≡ i) ⊎ (get_or marks k false ≡ true)
newly marks i k marked = grind (arith, common_steps)

-- what a look through the numbers below n finds: the first that passes a test
pub found_below : (n : ℕ) (Yes No Found : ℕ → Type 0) (found : Option ℕ)
    → ((l : ℕ) → l < n → Yes l → Found l)
    → MatchOption found ((k : ℕ) → 0 ≤ k → k < n → No k) (λ i. (0 ≤ i) × (i < n) × Yes i × ((k : ℕ) → 0 ≤ k → k < i → No k))
    → MatchOption found ((l : ℕ) → l < n → No l) Found
found_below n Yes No Found None says none = λ l below. none l (omega arith) below
found_below n Yes No Found (Some i) says first = says i first.1 first.2

module _ {F : Type 0} (m : Meaning F) (a : ℕ) where
  pub search_starts : m.size ≤ 64 → a < m.size → Searched m a (set (replicate 64 false) a true) (replicate 64 false)
  search_starts small block = record {
    seen_room = length-set (replicate 64 false) a true;
    visited_room = refl;
    start = get_or-set_same (replicate 64 false) a true false (omega arith);
    reached = λ j below seen. ⊎_elim (λ at. reaches_same (sym at)) (λ was. absurd (unmarked 64 j was)) (newly (replicate 64 false) a j seen);
    followed = λ l j upper lower visited line. absurd (unmarked 64 l visited);
  }

  module _ (seen visited : List Bool) (searched : Searched m a seen visited) (l : ℕ) (block : l < m.size) where
    pub search_visits : a < m.size → (after : List Bool) → length after ≡ length seen → get_or seen l false ≡ true
        → ((j : ℕ) → j < m.size → get_or after j false ≡ (get_or seen j false || stands m l j))
        → Searched m a after (set visited l true)
    search_visits first after room here marked = record {
      seen_room = room ∙ searched.seen_room;
      visited_room = length-set visited l true ∙ searched.visited_room;
      start = marked a first ∙ or_left _ _ searched.start;
      reached = λ j below now.
          ⊎_elim (searched.reached j below) (λ line. let (k, chain) = searched.reached l block here in (suc k, chain_onward chain line))
          (or_cases _ _ (sym (marked j below) ∙ now));
      followed = λ i j upper lower now line.
          marked j lower
          ∙ ⊎_elim (λ at. or_right _ _ (ap (λ (k : ℕ). stands m k j) (sym at) ∙ line)) (λ was. or_left _ _ (searched.followed i j upper lower was line))
          (newly visited l i now);
    }

  pub search_ends : Bounded m → Circleless m → (seen visited : List Bool) → Searched m a seen visited
      → ((l : ℕ) → l < m.size → get_or seen l false ≡ true → get_or visited l false ≡ true)
      → (j : ℕ) → j < m.size → get_or seen j false ≡ reaches m a j
  search_ends bounded circleless seen visited searched over =
      search_decides m bounded circleless a (λ j. get_or seen j false) searched.start
      (λ i j upper lower at line. searched.followed i j upper lower (over i upper at) line)
      searched.reached
