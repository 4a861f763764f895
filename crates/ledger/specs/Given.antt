-- An amount as it is given: figures, asked whether they fit.
--
--   Taken        the amount, and the total of soft amounts with it
--   taken_in     both by exact figures, where the figures fit
--   taken_told   what a result of the code means
use Rattle.std.specs.Prelude.{cond, List, ℤ, Some, None, Option}
use Rattle.cost.specs.Figures.{plus}
use Rattle.cost.specs.Reach.{Scale}
use Rattle.rules.specs.Filling.{amount_fits}

pub record Taken : Type 0 where
  pub amount : List ℤ
  pub total : List ℤ

abbrev pub taken_in : Scale → List ℤ → List ℤ → Option Taken
taken_in k total xs = cond (amount_fits k total xs) (Some (record { amount = xs; total = plus total xs })) None

abbrev pub taken_told : {A : Type 0} → (A → List ℤ) → Option (A × A) → Option Taken
taken_told f None = None
taken_told f (Some p) = Some (record { amount = f p.0; total = f p.1 })
