-- The two claims. A granted claim closes the case.
--
--   costs_equal   question 16: whether the proved cost is the shown plan's
use Rattle.std.specs.Prelude.{Bool, false, List, [], ◌∷◌, ◌++◌, ℤ, Some, None, Option}
use Rattle.std.specs.Ordering.{is_eq}
use Rattle.cost.specs.Figures.{order}
use Rattle.rules.specs.Case.{State, closed, with_phase}
use Rattle.rules.specs.Questions.{Question, asks, first_no, Outcome, outcome, grants, cheapest_at}
use Rattle.rules.specs.Filling.{with_bench}
use Rattle.rules.specs.Steps.{step_fits, is_shown}

abbrev pub costs_equal : List ℤ → Option (List ℤ) → Bool
costs_equal z None = false
costs_equal z (Some u) = is_eq (order z u)

abbrev pub ended : State → State
ended s = with_bench s (with_phase s.bench closed)

abbrev pub cheapest_questions : State → List Question
cheapest_questions s = step_fits s ++ (asks 14 (is_shown s.bench.shown) ∷ asks 16 (costs_equal s.bench.proved s.bench.shown) ∷ [])

unfoldable pub cheapest_does : State → Outcome
cheapest_does s = outcome (first_no (cheapest_questions s)) s (record { answer = cheapest_at s.bench.proved; after = ended s })

abbrev pub impossible_questions : State → List Question
impossible_questions s = step_fits s ++ (asks 17 s.bench.impossible ∷ [])

unfoldable pub impossible_does : State → Outcome
impossible_does s = outcome (first_no (impossible_questions s)) s (grants (ended s))
