-- Showing a plan: what it costs by the clauses on the shelf.
--
--   hard_met      question 8: whether the plan meets every hard clause on the shelf
--   owed          the amounts of the soft clauses on the shelf that it leaves
--                 unmet, by rising place
--   partial_sums  z with the first amount, with the first two, and so on
--   summed        z with all of them
--
-- The amounts given are in reach together, so in a case whose ledger nobody else
-- has changed no partial sum is out of reach; where one is, the show is refused
-- with 13 and the tier.
use Rattle.std.specs.Prelude.{ℕ, Bool, true, cond, not, ◌&&◌, ◌||◌, List, [], ◌∷◌, length, ℤ, Some}
use Rattle.shelf.specs.Literals.{none}
use Rattle.cost.specs.Figures.{plus}
use Rattle.cost.specs.Reach.{Scale}
use Rattle.rules.specs.Cells.{Cell, hard, soft}
use Rattle.rules.specs.Plans.{meets, is_whole_plan}
use Rattle.rules.specs.Case.{Case, State, at_sealed}
use Rattle.rules.specs.Questions.{Question, asks, reach_reply, first_no, Outcome, outcome, shown_at}
use Rattle.rules.specs.Filling.{ledger_long, with_bench}

-- a free place asks nothing
abbrev pub met_at : List ℕ → List ℕ → Cell → Bool
met_at x cs hard = none cs || meets x cs
met_at x cs (soft a) = true

unfoldable pub hard_met : List ℕ → List (List ℕ) → List Cell → Bool
hard_met x [] ks = true
hard_met x (c ∷ cs) [] = true
hard_met x (c ∷ cs) (k ∷ ks) = met_at x c k && hard_met x cs ks

abbrev pub owed_at : List ℕ → List ℕ → Cell → List (List ℤ) → List (List ℤ)
owed_at x cs hard rest = rest
owed_at x cs (soft a) rest = cond (none cs || meets x cs) rest (a ∷ rest)

unfoldable pub owed : List ℕ → List (List ℕ) → List Cell → List (List ℤ)
owed x [] ks = []
owed x (c ∷ cs) [] = []
owed x (c ∷ cs) (k ∷ ks) = owed_at x c k (owed x cs ks)

unfoldable pub partial_sums : List ℤ → List (List ℤ) → List (List ℤ)
partial_sums z [] = []
partial_sums z (a ∷ more) = plus z a ∷ partial_sums (plus z a) more

unfoldable pub summed : List ℤ → List (List ℤ) → List ℤ
summed z [] = z
summed z (a ∷ more) = summed (plus z a) more

abbrev pub owed_in : State → List ℕ → List (List ℤ)
owed_in s x = owed x s.shelf.held s.ledger

abbrev pub show_questions : Scale → State → List ℕ → List Question
show_questions k s x =
    asks 1 (ledger_long s) ∷ asks 2 (at_sealed s.bench.phase) ∷ asks 7 (is_whole_plan s.bench.n x)
    ∷ asks 8 (hard_met x s.shelf.held s.ledger && not s.bench.impossible)
    ∷ record { number = 13; reply = reach_reply k (partial_sums s.bench.proved (owed_in s x)) } ∷ []

abbrev pub with_shown : Case → List ℤ → Case
with_shown b z = record { phase = b.phase; n = b.n; current = b.current; total = b.total; proved = b.proved; impossible = b.impossible; shown = Some z }

abbrev pub show_done : State → List ℕ → Outcome
show_done s x =
    let z = summed s.bench.proved (owed_in s x) in
    record { answer = shown_at z (length (owed_in s x)); after = with_bench s (with_shown s.bench z) }

unfoldable pub show_does : Scale → State → List ℕ → Outcome
show_does k s x = outcome (first_no (show_questions k s x)) s (show_done s x)
