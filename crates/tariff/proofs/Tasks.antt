-- Questions that are put one after another.
use Rattle.std.proofs.Common.{List, [], ◌∷◌, ◌++◌, sym, subst}
use Rattle.std.specs.List.{FoldsTo}

-- some, and then others
pub asked_then : {P A : Type 0} (R : P → A → P → Type 0) (p : P) (xs : List A) (q : P) (ys : List A) (r : P) → FoldsTo R p xs q → FoldsTo R q ys r → FoldsTo R p (xs ++ ys) r
asked_then R p [] q ys r some others = subst (λ s. FoldsTo R s ys r) (sym some) others
asked_then R p (x ∷ xs) q ys r (j, one, some) others = (j, one, asked_then R j xs q ys r some others)
