-- The five steps. Places are asked about as they are before the step: a place
-- that the step itself frees is not free for its results.
--
--   settled       the state with a place's cell written, and the place freed where
--                 nothing is left
--   worked        the state with its case working
--   remainders    the new amount of a parent: what a soft one keeps; none if it is
--                 hard, since it stays
--   cell_in       the cell of a place
--   step_fits     questions 1 and 2, which every step and claim is put
--   source_questions, result_questions   questions 9 and 10 of a resolve, and 11 and
--                 12 of any results
--   sum_news, resolve_news   the new amounts of a join and of a resolve, which
--                 question 13 asks about in this order
--   results_at, common   a resolve's results, and their cell
--   taken_in      the case once an empty result, if there is one, has been taken in
--   is_shown, costs_more   questions 14 and 15
--   X_questions, X_done, X_does   as for the other calls
use Rattle.std.specs.Prelude.{ℕ, ◌+◌, ◌*◌, Bool, true, false, cond, not, ◌&&◌, ◌||◌, List, [], ◌∷◌, ◌++◌, length, ℤ, Some, None, Option, ◌==◌, nat_le, nat_lt, slice_set}
use Rattle.std.specs.Ordering.{is_gt}
use Rattle.shelf.specs.Literals.{among, stands, put, none}
use Rattle.shelf.specs.Room.{filled, roomy}
use Rattle.shelf.specs.View.{View, clause, with_held}
use Rattle.cost.specs.Figures.{zeros, plus, minus, order}
use Rattle.cost.specs.Reach.{Scale}
use Rattle.rules.specs.Clauses.{rises, same_codes}
use Rattle.rules.specs.Cells.{Cell, hard, soft, is_hard, smaller, less, joined, amounts_to_nothing, paid, paid_news}
use Rattle.rules.specs.Case.{Case, State, working, at_steps, cell_at, known, with_phase}
use Rattle.rules.specs.Questions.{Question, asks, reach_reply, first_no, Outcome, outcome, grants}
use Rattle.rules.specs.Filling.{ledger_long, with_bench}
use Rattle.rules.specs.Results.{resolvents, halves, defining, kept, short_enough, has_empty, laid, alike}

abbrev pub worked : State → State
worked s = with_bench s (with_phase s.bench working)

abbrev pub freed_if : Bool → View → ℕ → View
freed_if b v p = with_held v (cond b (slice_set v.held p []) v.held)

abbrev pub settled : Scale → State → ℕ → Cell → State
settled k s p c = record { bench = s.bench; shelf = freed_if (amounts_to_nothing k.tiers c) s.shelf p; ledger = slice_set s.ledger p c }

-- results put into places from `to` on, each with the cell c
abbrev pub with_results : State → ℕ → List (List ℕ) → Cell → State
with_results s to rs c =
    record { bench = s.bench; shelf = with_held s.shelf (laid to (kept rs) s.shelf.held); ledger = laid to (alike c (kept rs)) s.ledger }

abbrev pub cell_in : Scale → State → ℕ → Cell
cell_in k s p = cell_at k.tiers s.ledger p

abbrev pub step_fits : State → List Question
step_fits s = asks 1 (ledger_long s) ∷ asks 2 (at_steps s.bench.phase) ∷ []

-- split (place, variable, to): the clause with the variable at its place, and with
-- the opposite at `to`, both with its cell

abbrev pub split_questions : State → ℕ → ℕ → ℕ → List Question
split_questions s p x to =
    let cs = clause s.shelf p in
    step_fits s ++ (asks 9 (filled s.shelf p)
    ∷ asks 10 (nat_le 1 x && (nat_le x (known s.bench.current s.shelf) && not (stands x cs)))
    ∷ asks 11 (short_enough s.shelf.longest (halves x cs)) ∷ asks 12 (roomy s.shelf to 1) ∷ [])

abbrev pub split_done : Scale → State → ℕ → ℕ → ℕ → State
split_done k s p x to =
    let cs = clause s.shelf p in
    let half = slice_set s.shelf.held p (put (2 * x) cs) in
    record { bench = s.bench; shelf = with_held s.shelf (slice_set half to (put (2 * x + 1) cs)); ledger = slice_set s.ledger to (cell_in k s p) }

unfoldable pub split_does : Scale → State → ℕ → ℕ → ℕ → Outcome
split_does k s p x to = outcome (first_no (split_questions s p x to)) s (grants (worked (split_done k s p x to)))

-- join (i, j): equal clauses; place i becomes hard if either is, else gets the sum,
-- and place j is freed

abbrev pub sum_news : Cell → Cell → List (List ℤ)
sum_news hard c = []
sum_news (soft a) hard = []
sum_news (soft a) (soft b) = plus a b ∷ []

abbrev pub join_questions : Scale → State → ℕ → ℕ → List Question
join_questions k s i j =
    step_fits s ++ (asks 9 (filled s.shelf i && filled s.shelf j)
    ∷ asks 10 (not (i == j) && same_codes (clause s.shelf i) (clause s.shelf j))
    ∷ record { number = 13; reply = reach_reply k (sum_news (cell_in k s i) (cell_in k s j)) } ∷ [])

abbrev pub join_done : Scale → State → ℕ → ℕ → State
join_done k s i j = settled k (settled k s i (joined (cell_in k s i) (cell_in k s j))) j (soft (zeros k.tiers))

unfoldable pub join_does : Scale → State → ℕ → ℕ → Outcome
join_does k s i j = outcome (first_no (join_questions k s i j)) s (grants (worked (join_done k s i j)))

-- resolve (i, j, variable, to): place i has the variable, place j its opposite

abbrev pub remainders : Cell → Cell → List (List ℤ)
remainders hard m = []
remainders (soft a) hard = []
remainders (soft a) (soft m) = minus a m ∷ []

-- the results of resolving places i and j on the variable x
abbrev pub results_at : Scale → State → ℕ → ℕ → ℕ → List (List ℕ)
results_at k s i j x =
    resolvents (2 * x) (clause s.shelf i) (clause s.shelf j) (not (is_hard (cell_in k s i))) (not (is_hard (cell_in k s j)))

abbrev pub common : Scale → State → ℕ → ℕ → Cell
common k s i j = smaller (cell_in k s i) (cell_in k s j)

-- the new amounts: what is left at i, at j, then the proved cost
abbrev pub resolve_news : Bool → Cell → Cell → List ℤ → List (List ℤ)
resolve_news e a b z = remainders a (smaller a b) ++ (remainders b (smaller a b) ++ paid_news e (smaller a b) z)

abbrev pub source_questions : View → ℕ → ℕ → ℕ → List Question
source_questions v i j x = asks 9 (filled v i && filled v j) ∷ asks 10 (among (2 * x) (clause v i) && among (2 * x + 1) (clause v j)) ∷ []

abbrev pub result_questions : View → ℕ → List (List ℕ) → List Question
result_questions v to rs = asks 11 (short_enough v.longest rs) ∷ asks 12 (roomy v to (length (kept rs))) ∷ []

abbrev pub resolve_questions : Scale → State → ℕ → ℕ → ℕ → ℕ → List Question
resolve_questions k s i j x to =
    let rs = results_at k s i j x in
    step_fits s ++ (source_questions s.shelf i j x ++ (result_questions s.shelf to rs
    ++ (record { number = 13; reply = reach_reply k (resolve_news (has_empty rs) (cell_in k s i) (cell_in k s j) s.bench.proved) } ∷ [])))

-- the case once an empty result, if there is one, has been taken in
abbrev pub taken_in : Bool → Cell → Case → Case
taken_in e m b = record { phase = b.phase; n = b.n; current = b.current; total = b.total; proved = paid e m b.proved; impossible = b.impossible || (e && is_hard m); shown = b.shown }

abbrev pub resolve_done : Scale → State → ℕ → ℕ → ℕ → ℕ → State
resolve_done k s i j x to =
    let rs = results_at k s i j x in
    let m = common k s i j in
    let laid_out = with_results s to rs m in
    with_bench (settled k (settled k laid_out i (less (cell_in k s i) m)) j (less (cell_in k s j) m)) (taken_in (has_empty rs) m s.bench)

unfoldable pub resolve_does : Scale → State → ℕ → ℕ → ℕ → ℕ → Outcome
resolve_does k s i j x to = outcome (first_no (resolve_questions k s i j x to)) s (grants (worked (resolve_done k s i j x to)))

-- define (to, literals): the next variable is true exactly where some literal is

abbrev pub define_questions : State → ℕ → List ℕ → List Question
define_questions s to ls =
    step_fits s ++ (asks 10 (not (none ls) && (rises (known s.bench.current s.shelf) 0 ls && nat_lt s.bench.current s.shelf.highest))
    ∷ result_questions s.shelf to (defining (s.bench.current + 1) ls))

abbrev pub one_more : Case → Case
one_more b = record { phase = b.phase; n = b.n; current = b.current + 1; total = b.total; proved = b.proved; impossible = b.impossible; shown = b.shown }

abbrev pub define_done : State → ℕ → List ℕ → State
define_done s to ls = with_bench (with_results s to (defining (s.bench.current + 1) ls) hard) (one_more s.bench)

unfoldable pub define_does : Scale → State → ℕ → List ℕ → Outcome
define_does k s to ls = outcome (first_no (define_questions s to ls)) s (grants (worked (define_done s to ls)))

-- harden (i): the soft clause becomes hard, where leaving it unmet would cost more
-- than the shown plan

abbrev pub is_shown : Option (List ℤ) → Bool
is_shown None = false
is_shown (Some z) = true

abbrev pub costs_more : List ℤ → Cell → Option (List ℤ) → Bool
costs_more z c None = false
costs_more z hard (Some u) = false
costs_more z (soft a) (Some u) = is_gt (order (plus z a) u)

abbrev pub harden_questions : Scale → State → ℕ → List Question
harden_questions k s i =
    step_fits s ++ (asks 9 (filled s.shelf i) ∷ asks 10 (not (is_hard (cell_in k s i)))
    ∷ asks 14 (is_shown s.bench.shown) ∷ asks 15 (costs_more s.bench.proved (cell_in k s i) s.bench.shown) ∷ [])

abbrev pub harden_done : State → ℕ → State
harden_done s i = record { bench = s.bench; shelf = s.shelf; ledger = slice_set s.ledger i hard }

unfoldable pub harden_does : Scale → State → ℕ → Outcome
harden_does k s i = outcome (first_no (harden_questions k s i)) s (grants (worked (harden_done s i)))
