-- Plans: a 0 or a 1 for each of a case's variables.
--
--   strip            a plan as a list of numbers, the value of variable 1 first
--   value x v        the value of the variable v, counted from 1; 0 past the strip's
--                    end, and for the number 0, which is no variable
--   makes_true x c   whether the plan makes the literal of code c true
--   meets x cs       whether it makes some literal of the clause true
--   is_whole_plan n x      whether x has exactly n values, each 0 or 1
--   cost r x ws      what the plan costs by the clauses ws: the sum of the
--                    amounts of the soft ones that it leaves unmet
--   allowed x ws     whether it meets every hard one
--   unmet_cost, hard_is_met   what one clause adds to these
--   bits             whether every value is 0 or 1
use Rattle.std.specs.Prelude.{ℕ, ◌-◌, ◌%◌, Bool, true, false, cond, not, ◌&&◌, ◌||◌, List, [], ◌∷◌, length, ℤ, ◌==◌, nat_le, slice_index}
use Rattle.shelf.specs.Literals.{variable}
use Rattle.cost.specs.Figures.{zeros, plus}
use Rattle.rules.specs.Cells.{Cell, hard, soft, Weighted}

abbrev pub value : List ℕ → ℕ → ℕ
value x v = cond (v == 0) 0 (slice_index x (v - 1))

abbrev pub makes_true : List ℕ → ℕ → Bool
makes_true x c = cond (c % 2 == 0) (value x (variable c) == 1) (not (value x (variable c) == 1))

unfoldable pub meets : List ℕ → List ℕ → Bool
meets x [] = false
meets x (c ∷ cs) = makes_true x c || meets x cs

unfoldable pub bits : List ℕ → Bool
bits [] = true
bits (b ∷ bs) = nat_le b 1 && bits bs

abbrev pub is_whole_plan : ℕ → List ℕ → Bool
is_whole_plan n x = length x == n && bits x

-- what one clause adds
abbrev pub unmet_cost : List ℕ → List ℕ → Cell → List ℤ → List ℤ
unmet_cost x cs hard rest = rest
unmet_cost x cs (soft a) rest = cond (meets x cs) rest (plus a rest)

unfoldable pub cost : ℕ → List ℕ → List Weighted → List ℤ
cost r x [] = zeros r
cost r x (w ∷ ws) = unmet_cost x w.clause w.cell (cost r x ws)

abbrev pub hard_is_met : List ℕ → List ℕ → Cell → Bool
hard_is_met x cs hard = meets x cs
hard_is_met x cs (soft a) = true

unfoldable pub allowed : List ℕ → List Weighted → Bool
allowed x [] = true
allowed x (w ∷ ws) = hard_is_met x w.clause w.cell && allowed x ws
