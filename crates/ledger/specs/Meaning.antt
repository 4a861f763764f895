-- What a ledger of cells means.
--
--   cell_of f c    the rules' cell of a code's cell, where f says what figures
--                  stand in it
--   cells_of k cs  the rules' ledger of a slice of cells, kept as rows
--   written f c    a cell with its amount written as a row
--   ForSoft c P    P of the amount of c, if it has one
--   IsMapped post c d  d is hard where c is, else soft with what post gives for its amount
use Rattle.std.specs.Prelude.{◌≡◌, List, map, ℤ}
use Rattle.cost.specs.Kinds.{Kind}
use Rattle.rules.specs.Cells as rules
use Rattle.ledger.specs.declared.cell.Cell.{Cell}
use Rattle.ledger.specs.declared.cell.Cell.TheVariants.{Hard, Soft}

abbrev pub cell_of : {X : Type 0} → (X → List ℤ) → Cell X → rules.Cell
cell_of f Hard = rules.hard
cell_of f (Soft a) = rules.soft (f a)

abbrev pub cells_of : {A W : Type 0} → Kind A W → List (Cell W) → List rules.Cell
cells_of k cs = map (cell_of k.back) cs

abbrev pub written : {A W : Type 0} → (A → W) → Cell A → Cell W
written f Hard = Hard
written f (Soft a) = Soft (f a)

abbrev pub ForSoft : {A : Type 0} → Cell A → (A → Type 0) → Type 0
ForSoft {A} c P = (a : A) → c ≡ Soft a → P a

abbrev pub IsMapped : {A B : Type 0} → (A → B → Type 0) → Cell A → Cell B → Type 0
IsMapped post Hard d = d ≡ Hard
IsMapped {B = B} post (Soft a) d = (b : B) × post a b × (d ≡ Soft b)
