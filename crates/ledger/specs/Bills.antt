-- What a shown plan owes, place by place.
--
--   vacant_or_met    whether a clause is empty or the plan meets it
--   owing x cs c   the amount that the clause cs with the cell c adds to the plan's
--                  cost: none if it is hard, free or met
--   Bill           a cost, and how many unmet soft clauses made it up
--   billed z os n  the bill of z with the amounts os, after n others
--   bill_told      what a result of the code means
use Rattle.std.specs.Prelude.{ℕ, ◌+◌, Bool, cond, ◌||◌, List, length, ℤ, Some, None, Ok, Err, Option, Result}
use Rattle.cost.specs.Reach.{Scale}
use Rattle.cost.specs.declared.tier.Tier.{Tier}
use Rattle.shelf.specs.Literals.{none}
use Rattle.rules.specs.Cells.{Cell, hard, soft}
use Rattle.rules.specs.Plans.{meets}
use Rattle.rules.specs.Questions.{reach_reply}
use Rattle.rules.specs.Showing.{partial_sums, summed}
use Rattle.ledger.specs.Dues.{told_by}

abbrev pub vacant_or_met : List ℕ → List ℕ → Bool
vacant_or_met x cs = none cs || meets x cs

abbrev pub owing : List ℕ → List ℕ → Cell → Option (List ℤ)
owing x cs hard = None
owing x cs (soft a) = cond (vacant_or_met x cs) None (Some a)

abbrev pub amount_told : {A : Type 0} → (A → List ℤ) → Option A → Option (List ℤ)
amount_told f None = None
amount_told f (Some a) = Some (f a)

pub record Bill : Type 0 where
  pub cost : List ℤ
  pub count : ℕ

abbrev pub billed : Scale → List ℤ → List (List ℤ) → ℕ → Result Bill ℕ
billed k z os n = told_by (reach_reply k (partial_sums z os)) (record { cost = summed z os; count = n + length os })

abbrev pub bill_told : {A : Type 0} → (A → List ℤ) → Result (A × ℕ) Tier → Result Bill ℕ
bill_told f (Ok p) = Ok (record { cost = f p.0; count = p.1 })
bill_told f (Err t) = Err t.number
