-- The questions of each step from 9 on, by what the code looks at: what the shelf
-- means, the cells of the sources, and figures of the case. After the two that every
-- step is asked first they are the questions of the rules.
--
--   X_asks        those of the step X
use Rattle.std.specs.Prelude.{ℕ, ◌+◌, not, ◌&&◌, List, [], ◌∷◌, ◌++◌, ℤ, Option, nat_le, nat_lt, ◌==◌}
use Rattle.cost.specs.Reach.{Scale}
use Rattle.shelf.specs.Literals.{none, stands}
use Rattle.shelf.specs.Room.{filled, roomy}
use Rattle.shelf.specs.View.{View, clause}
use Rattle.rules.specs.Cells.{Cell, is_hard}
use Rattle.rules.specs.Clauses.{rises, same_codes}
use Rattle.rules.specs.Case.{known}
use Rattle.rules.specs.Questions.{Question, asks, reach_reply}
use Rattle.rules.specs.Results.{halves, defining, short_enough, has_empty}
use Rattle.rules.specs.Steps.{sum_news, resolve_news, source_questions, result_questions, is_shown, costs_more}
use Rattle.results.specs.Resolving.{resolvents_at}

-- n is the current number of variables
abbrev pub split_asks : View → ℕ → ℕ → ℕ → ℕ → List Question
split_asks v n p x to =
    asks 9 (filled v p) ∷ asks 10 (nat_le 1 x && (nat_le x (known n v) && not (stands x (clause v p))))
    ∷ asks 11 (short_enough v.longest (halves x (clause v p))) ∷ asks 12 (roomy v to 1) ∷ []

-- a and b are the cells of i and j
abbrev pub join_asks : Scale → View → Cell → Cell → ℕ → ℕ → List Question
join_asks k v a b i j =
    asks 9 (filled v i && filled v j) ∷ asks 10 (not (i == j) && same_codes (clause v i) (clause v j))
    ∷ record { number = 13; reply = reach_reply k (sum_news a b) } ∷ []

-- a and b are the cells of i and j, and z is the proved cost
abbrev pub resolve_asks : Scale → View → Cell → Cell → List ℤ → ℕ → ℕ → ℕ → ℕ → List Question
resolve_asks k v a b z i j x to =
    let rs = resolvents_at v i j x (not (is_hard a)) (not (is_hard b)) in
    source_questions v i j x ++ (result_questions v to rs ++ (record { number = 13; reply = reach_reply k (resolve_news (has_empty rs) a b z) } ∷ []))

-- n is the current number of variables
abbrev pub define_asks : View → ℕ → ℕ → List ℕ → List Question
define_asks v n to ls =
    asks 10 (not (none ls) && (rises (known n v) 0 ls && nat_lt n v.highest)) ∷ result_questions v to (defining (n + 1) ls)

-- a is the cell of i, z the proved cost, and u the shown plan's cost
abbrev pub harden_asks : View → Cell → List ℤ → Option (List ℤ) → ℕ → List Question
harden_asks v a z u i =
    asks 9 (filled v i) ∷ asks 10 (not (is_hard a)) ∷ asks 14 (is_shown u) ∷ asks 15 (costs_more z a u) ∷ []
