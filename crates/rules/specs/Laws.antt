-- Laws of the definitions, in the words of the subject.
--
--   on_shelf       the clauses on the shelf with their cells, by rising place; a free
--                  place has none
--   Tiered         every soft cell has r figures
--   ShownCost     what show answers: the plan's cost by the proved cost and the
--                  clauses on the shelf, and whether it is allowed by them
--   OnlyHeld      no call changes a shelf's measures or its remainder
use Rattle.std.specs.Prelude.{◌≡◌, ℕ, cond, List, [], ◌∷◌, length, ℤ}
use Rattle.shelf.specs.Literals.{none}
use Rattle.shelf.specs.View.{with_held}
use Rattle.cost.specs.Figures.{plus}
use Rattle.cost.specs.Reach.{Scale}
use Rattle.rules.specs.Cells.{Cell, hard, soft, Weighted}
use Rattle.rules.specs.Plans.{cost, allowed}
use Rattle.rules.specs.Case.{State}
use Rattle.rules.specs.Showing.{hard_met, owed, summed}
use Rattle.rules.specs.Machine.{Call, does}

unfoldable pub on_shelf : List (List ℕ) → List Cell → List Weighted
on_shelf [] ks = []
on_shelf (c ∷ cs) [] = []
on_shelf (c ∷ cs) (k ∷ ks) = cond (none c) (on_shelf cs ks) (record { clause = c; cell = k } ∷ on_shelf cs ks)

abbrev pub Figured : ℕ → Cell → Type 0
Figured r hard = Unit {0}
Figured r (soft a) = length a ≡ r

abbrev pub Tiered : ℕ → List Cell → Type 0
Tiered r [] = Unit {0}
Tiered r (k ∷ ks) = Figured r k × Tiered r ks

pub record ShownCost : Type 0 where
  pub costs : (r : ℕ) (x : List ℕ) (z : List ℤ) (held : List (List ℕ)) (ks : List Cell) → length z ≡ r → Tiered r ks → summed z (owed x held ks) ≡ plus z (cost r x (on_shelf held ks))
  pub allows : (x : List ℕ) (held : List (List ℕ)) (ks : List Cell) → hard_met x held ks ≡ allowed x (on_shelf held ks)

abbrev pub OnlyHeld : Type 0
OnlyHeld = (k : Scale) (s : State) (c : Call) → (does k s c).after.shelf ≡ with_held s.shelf (does k s c).after.shelf.held
