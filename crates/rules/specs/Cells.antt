-- Cells: what leaving a clause unmet costs.
--
--   Cell        hard: the clause must be met; soft: its amount, as exact figures
--   is_hard     whether a cell is hard
--   smaller     the smaller of two cells, hard counting as greater than all
--   less        what is left of a cell once m is taken from it; hard stays
--   joined      the cell of two equal clauses: hard if either is, else the sum
--   amounts_to_nothing  whether a cell is soft and nothing is left of it
--   paid e m z  the proved cost z once an empty clause with the cell m has been
--               taken in, where e says that there is one
--   paid_news   the new amount in that, if any
--   Weighted    a clause with its cell
use Rattle.std.specs.Prelude.{ℕ, Bool, true, false, cond, List, [], ◌∷◌, ℤ}
use Rattle.std.specs.Ordering.{is_gt, is_eq}
use Rattle.cost.specs.Figures.{zeros, plus, minus, order}

pub data Cell : Type 0 where
  hard : Cell
  soft : List ℤ → Cell

abbrev pub is_hard : Cell → Bool
is_hard hard = true
is_hard (soft a) = false

abbrev pub smaller : Cell → Cell → Cell
smaller hard c = c
smaller (soft a) hard = soft a
smaller (soft a) (soft b) = soft (cond (is_gt (order a b)) b a)

abbrev pub less : Cell → Cell → Cell
less hard m = hard
less (soft a) hard = soft a
less (soft a) (soft m) = soft (minus a m)

abbrev pub joined : Cell → Cell → Cell
joined hard c = hard
joined (soft a) hard = hard
joined (soft a) (soft b) = soft (plus a b)

-- r is the number of tiers
abbrev pub amounts_to_nothing : ℕ → Cell → Bool
amounts_to_nothing r hard = false
amounts_to_nothing r (soft a) = is_eq (order a (zeros r))

abbrev pub paid : Bool → Cell → List ℤ → List ℤ
paid false m z = z
paid true hard z = z
paid true (soft a) z = plus z a

abbrev pub paid_news : Bool → Cell → List ℤ → List (List ℤ)
paid_news false m z = []
paid_news true hard z = []
paid_news true (soft a) z = plus z a ∷ []

pub record Weighted : Type 0 where
  pub clause : List ℕ
  pub cell : Cell
