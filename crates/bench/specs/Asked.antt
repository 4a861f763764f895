-- What the questions of a call came to, before anything is changed.
--
--   Accepts, SoftTaken    on a grant, what a soft clause comes to
--   Bills, BillOf         on a grant, the shown plan's cost and count
use Rattle.std.specs.Prelude.{◌≡◌, ℕ, List, length, take, ℤ, Ok, Err, Result}
use Rattle.cost.specs.Figures.{plus}
use Rattle.faults.specs.declared.fault.Fault.{Fault}
use Rattle.rules.specs.Cells.{soft, paid}
use Rattle.rules.specs.Showing.{summed}
use Rattle.shelf.specs.Literals.{none}
use Rattle.bench.specs.declared.case.accepted.Accepted.{Accepted}

-- on a grant, what a soft clause comes to, by exact figures; and a copy of its codes, which
-- `copy_codes` ends at 255, has them all
pub record SoftTaken {A : Type 0} (f : A → List ℤ) (cs : List ℕ) (xs total proved : List ℤ) (a : Accepted A) : Type 0 where
  pub copied : take 255 cs ≡ cs
  pub amount_is : f a.amount ≡ xs
  pub total_is : f a.total ≡ plus total xs
  pub proved_is : f a.proved ≡ paid (none cs) (soft xs) proved

abbrev pub Accepts : {A : Type 0} → (A → List ℤ) → List ℕ → List ℤ → List ℤ → List ℤ → Result (Accepted A) Fault → Type 0
Accepts f cs xs total proved (Ok a) = SoftTaken f cs xs total proved a
Accepts f cs xs total proved (Err e) = Unit {0}

-- on a grant, the shown plan's cost and how many soft clauses it leaves unmet
pub record BillOf {A : Type 0} (f : A → List ℤ) (z : List ℤ) (os : List (List ℤ)) (p : A × ℕ) : Type 0 where
  pub cost_is : f p.0 ≡ summed z os
  pub count_is : p.1 ≡ length os

abbrev pub Bills : {A : Type 0} → (A → List ℤ) → List ℤ → List (List ℤ) → Result (A × ℕ) Fault → Type 0
Bills f z os (Ok p) = BillOf f z os p
Bills f z os (Err e) = Unit {0}
