-- What a resolve makes of amounts, weighed before anything is changed.
--
--   told_by r x    x where the reply is affirmed, else the tier that is beyond
--   Dues           the cell of the results, what is left at i and at j, and the
--                  proved cost
--   dues           the same by exact figures, from the cells of i and j
--   cell_told, dues_told   what a result of the code means
use Rattle.std.specs.Prelude.{ℕ, Bool, List, ℤ, Ok, Err, Result}
use Rattle.cost.specs.declared.tier.Tier.{Tier}
use Rattle.rules.specs.Cells as rules
use Rattle.rules.specs.Questions.{Reply, affirmed, denied, beyond_tier}
use Rattle.ledger.specs.declared.cell.Cell.{Cell}
use Rattle.ledger.specs.declared.weighed.Weighed.{Weighed}
use Rattle.ledger.specs.Meaning.{cell_of}

abbrev pub told_by : {X : Type 0} → Reply → X → Result X ℕ
told_by affirmed x = Ok x
told_by denied x = Err 0
told_by (beyond_tier t) x = Err t

pub record Dues : Type 0 where
  pub common : rules.Cell
  pub left_at_i : rules.Cell
  pub left_at_j : rules.Cell
  pub proved : List ℤ

abbrev pub dues : Bool → rules.Cell → rules.Cell → List ℤ → Dues
dues e a b z =
    let m = rules.smaller a b in
    record { common = m; left_at_i = rules.less a m; left_at_j = rules.less b m; proved = rules.paid e m z }

abbrev pub dues_of : {A : Type 0} → (A → List ℤ) → Weighed A → Dues
dues_of f w = record { common = cell_of f w.common; left_at_i = cell_of f w.left_i; left_at_j = cell_of f w.left_j; proved = f w.proved }

abbrev pub cell_told : {A : Type 0} → (A → List ℤ) → Result (Cell A) Tier → Result rules.Cell ℕ
cell_told f (Ok c) = Ok (cell_of f c)
cell_told f (Err t) = Err t.number

abbrev pub dues_told : {A : Type 0} → (A → List ℤ) → Result (Weighed A) Tier → Result Dues ℕ
dues_told f (Ok w) = Ok (dues_of f w)
dues_told f (Err t) = Err t.number
