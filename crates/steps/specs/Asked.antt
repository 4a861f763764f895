-- What the questions of a step came to, before anything is changed, and what doing the
-- step then leaves.
--
--   cell_here      the cell of a place in the code's ledger
--   Joins          on a grant, the cell of both places of a join together
--   Resolves, ResolutionOf   on a grant, what a resolve comes to
--   Empties        on a grant, whether a result is empty
--   results_of     the results that a resolve places
--   left_view, left_cells   shelf and ledger once the cells of two sources have been
--                  written back, and a source freed where nothing is left
--   Carried        what a resolve leaves on shelf and ledger
use Rattle.std.specs.Prelude.{◌≡◌, ℕ, Bool, not, List, ℤ, Ok, Err, Result, slice_set}
use Rattle.cost.specs.Kinds.{Kind}
use Rattle.shelf.specs.View.{View}
use Rattle.rules.specs.Case.{cell_at}
use Rattle.rules.specs.Cells.{Cell, is_hard, amounts_to_nothing, joined}
use Rattle.rules.specs.Results.{kept, laid, alike}
use Rattle.rules.specs.Steps.{freed_if}
use Rattle.results.specs.Resolving.{resolvents_at}
use Rattle.faults.specs.declared.fault.Fault.{Fault}
use Rattle.ledger.specs.Dues.{dues, dues_of}
use Rattle.ledger.specs.Meaning.{cell_of, cells_of}
use Rattle.ledger.specs.declared.cell.Cell.{Cell as CodeCell}
use Rattle.results.specs.Placing.{after_placing}
use Rattle.steps.specs.declared.resolution.Resolution.{Resolution}

abbrev pub cell_here : {A W : Type 0} → Kind A W → List (CodeCell W) → ℕ → Cell
cell_here k ledger p = cell_at k.scale.tiers (cells_of k ledger) p

-- on a grant, the cell of the two cells a and b
abbrev pub Joins : {A : Type 0} → (A → List ℤ) → Cell → Cell → Result (CodeCell A) Fault → Type 0
Joins f a b (Ok c) = cell_of f c ≡ joined a b
Joins f a b (Err e) = Unit {0}

-- on a grant, what a resolve comes to, from the cells a and b of its parents
pub record ResolutionOf {A : Type 0} (f : A → List ℤ) (a b : Cell) (e : Bool) (z : List ℤ) (r : Resolution A) : Type 0 where
  pub empty_is : r.empty ≡ e
  pub with_i_is : r.with_i ≡ not (is_hard a)
  pub with_j_is : r.with_j ≡ not (is_hard b)
  pub dues_are : dues_of f r.weighed ≡ dues e a b z

abbrev pub Resolves : {A : Type 0} → (A → List ℤ) → Cell → Cell → Bool → List ℤ → Result (Resolution A) Fault → Type 0
Resolves f a b e z (Ok r) = ResolutionOf f a b e z r
Resolves f a b e z (Err x) = Unit {0}

abbrev pub Empties : Bool → Result Bool Fault → Type 0
Empties e (Ok b) = b ≡ e
Empties e (Err x) = Unit {0}

abbrev pub results_of : {A : Type 0} → View → ℕ → ℕ → ℕ → Resolution A → List (List ℕ)
results_of v i j x r = resolvents_at v i j x r.with_i r.with_j

-- the cells a and b written back at i and j
abbrev pub left_view : ℕ → View → ℕ → ℕ → Cell → Cell → View
left_view tiers v i j a b = freed_if (amounts_to_nothing tiers b) (freed_if (amounts_to_nothing tiers a) v i) j

abbrev pub left_cells : List Cell → ℕ → ℕ → Cell → Cell → List Cell
left_cells l i j a b = slice_set (slice_set l i a) j b

-- from the view v and the cells l to v' and l'
pub record Carried {A W : Type 0} (k : Kind A W) (fine_after : Type 0) (v v' : View) (l l' : List (CodeCell W)) (i j x to : ℕ) (r : Resolution A) : Type 0 where
  pub fine : fine_after
  pub view : v' ≡ left_view k.scale.tiers (after_placing v to (results_of v i j x r)) i j (cell_of k.figures r.weighed.left_i) (cell_of k.figures r.weighed.left_j)
  pub cells : cells_of k l' ≡ left_cells (laid to (alike (cell_of k.figures r.weighed.common) (kept (results_of v i j x r))) (cells_of k l)) i j (cell_of k.figures r.weighed.left_i) (cell_of k.figures r.weighed.left_j)
