-- Exact figures: a cost is a list of whole numbers, one for each tier, the
-- weightiest tier first. Nothing here knows how far a tier may reach.
--
--   zeros r       nothing: r zeros
--   plus, minus   sum and difference, tier by tier
--   order         which is greater: the first tier that differs decides
--   figure_at     the figure of a tier, counted from 1; 0 where there is none
use Rattle.std.specs.Prelude.{ℕ, zero, suc, cond, List, [], ◌∷◌, replicate, ℤ, pos, ◌+ℤ◌, ◌-ℤ◌, int_lt, slice_index_or}
use Rattle.std.specs.declared.cmp.Ordering.TheVariants.{Less, Equal, Greater}
use Rattle.std.specs.declared.cmp.Ordering.{Ordering}

abbrev pub zeros : ℕ → List ℤ
zeros r = replicate r (pos 0)

abbrev pub plus : List ℤ → List ℤ → List ℤ
plus [] ys = []
plus (x ∷ xs) [] = []
plus (x ∷ xs) (y ∷ ys) = (x +ℤ y) ∷ plus xs ys

abbrev pub minus : List ℤ → List ℤ → List ℤ
minus [] ys = []
minus (x ∷ xs) [] = []
minus (x ∷ xs) (y ∷ ys) = (x -ℤ y) ∷ minus xs ys

abbrev pub order : List ℤ → List ℤ → Ordering
order [] ys = Equal
order (x ∷ xs) [] = Equal
order (x ∷ xs) (y ∷ ys) = cond (int_lt x y) Less (cond (int_lt y x) Greater (order xs ys))

abbrev pub figure_at : List ℤ → ℕ → ℤ
figure_at xs zero = pos 0
figure_at xs (suc k) = slice_index_or xs k (pos 0)
