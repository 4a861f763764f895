-- Filling a case: open, hard, soft and seal.
--
--   ledger_long   question 1: whether the ledger has a cell for each place
--   clause_fits   question 4: the variables rise, each 1 to n, at most L of them
--   amount_fits   question 6: as many figures as tiers, each from 0 to the reach,
--                 not all 0, and the total still in reach
--   none_negative whether no figure is below 0
--   placed        the state with a clause and its cell at a place
--   with_bench    the state with another case; marked, with_sums: the case with its
--                 mark set, or with other sums
--   X_questions, X_done, X_does   the questions of a call, the state once it is
--                 granted, and its outcome
use Rattle.std.specs.Prelude.{ℕ, Bool, true, cond, not, ◌&&◌, ◌||◌, List, [], ◌∷◌, ◌++◌, length, replicate, ℤ, pos, ◌==◌, int_le, nat_le, slice_set}
use Rattle.std.specs.Ordering.{is_eq}
use Rattle.shelf.specs.Literals.{none}
use Rattle.shelf.specs.Room.{vacant}
use Rattle.shelf.specs.View.{View, with_held, emptied}
use Rattle.cost.specs.Figures.{zeros, plus, order}
use Rattle.cost.specs.Reach.{Scale, in_reach}
use Rattle.rules.specs.Clauses.{rises}
use Rattle.rules.specs.Cells.{Cell, hard, soft, paid, paid_news}
use Rattle.rules.specs.Case.{Case, State, sealed, opened_case, at_filling, known, with_phase}
use Rattle.rules.specs.Questions.{Question, asks, reach_reply, first_no, Outcome, outcome, grants}

abbrev pub ledger_long : State → Bool
ledger_long s = nat_le s.shelf.places (length s.ledger)

abbrev pub clause_fits : ℕ → View → List ℕ → Bool
clause_fits n v cs = rises (known n v) 0 cs && nat_le (length cs) v.longest

unfoldable pub none_negative : List ℤ → Bool
none_negative [] = true
none_negative (x ∷ xs) = int_le (pos 0) x && none_negative xs

abbrev pub amount_fits : Scale → List ℤ → List ℤ → Bool
amount_fits k total xs =
    (length xs == k.tiers) && (in_reach k xs && (none_negative xs && (not (is_eq (order xs (zeros k.tiers))) && in_reach k (plus total xs))))

abbrev pub placed : State → ℕ → List ℕ → Cell → State
placed s p cs c = record { bench = s.bench; shelf = with_held s.shelf (slice_set s.shelf.held p cs); ledger = slice_set s.ledger p c }

abbrev pub with_bench : State → Case → State
with_bench s b = record { bench = b; shelf = s.shelf; ledger = s.ledger }

-- open: every place and every cell is wiped, and a case of n variables begins

abbrev pub open_questions : State → ℕ → List Question
open_questions s n = asks 1 (ledger_long s) ∷ asks 2 true ∷ asks 3 (nat_le n s.shelf.highest) ∷ []

abbrev pub open_done : Scale → State → ℕ → State
open_done k s n = record { bench = opened_case k.tiers n; shelf = emptied s.shelf; ledger = replicate (length s.ledger) (soft (zeros k.tiers)) }

unfoldable pub open_does : Scale → State → ℕ → Outcome
open_does k s n = outcome (first_no (open_questions s n)) s (grants (open_done k s n))

-- hard: a clause that must be met; an empty one sets the mark and uses no place

-- what hard and soft are both asked
abbrev pub clause_questions : State → ℕ → List ℕ → List Question
clause_questions s p cs =
    asks 1 (ledger_long s) ∷ asks 2 (at_filling s.bench.phase) ∷ asks 4 (clause_fits s.bench.n s.shelf cs) ∷ asks 5 (none cs || vacant s.shelf p) ∷ []

abbrev pub marked : Case → Case
marked b = record { phase = b.phase; n = b.n; current = b.current; total = b.total; proved = b.proved; impossible = true; shown = b.shown }

abbrev pub hard_done : State → ℕ → List ℕ → State
hard_done s p cs = cond (none cs) (with_bench s (marked s.bench)) (placed s p cs hard)

unfoldable pub hard_does : Scale → State → ℕ → List ℕ → Outcome
hard_does k s p cs = outcome (first_no (clause_questions s p cs)) s (grants (hard_done s p cs))

-- soft: a clause with an amount; an empty one adds to the proved cost and uses no
-- place. While filling the proved cost never passes the total, so the last reply
-- is always affirmed in a case that was opened here; it is asked so that every
-- state has an answer.

abbrev pub soft_questions : Scale → State → ℕ → List ℤ → List ℕ → List Question
soft_questions k s p xs cs =
    clause_questions s p cs ++ (asks 6 (amount_fits k s.bench.total xs) ∷ record { number = 13; reply = reach_reply k (paid_news (none cs) (soft xs) s.bench.proved) } ∷ [])

abbrev pub with_sums : Case → List ℤ → List ℤ → Case
with_sums b t z = record { phase = b.phase; n = b.n; current = b.current; total = t; proved = z; impossible = b.impossible; shown = b.shown }

abbrev pub soft_done : State → ℕ → List ℤ → List ℕ → State
soft_done s p xs cs =
    let given = with_bench s (with_sums s.bench (plus s.bench.total xs) (paid (none cs) (soft xs) s.bench.proved)) in
    cond (none cs) given (placed given p cs (soft xs))

unfoldable pub soft_does : Scale → State → ℕ → List ℤ → List ℕ → Outcome
soft_does k s p xs cs = outcome (first_no (soft_questions k s p xs cs)) s (grants (soft_done s p xs cs))

-- seal: filling ends

abbrev pub seal_questions : State → List Question
seal_questions s = asks 1 (ledger_long s) ∷ asks 2 (at_filling s.bench.phase) ∷ []

unfoldable pub seal_does : State → Outcome
seal_does s = outcome (first_no (seal_questions s)) s (grants (with_bench s (with_phase s.bench sealed)))
