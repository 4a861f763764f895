-- The case that a bench holds, and the whole state that a call sees.
--
--   Phase    where the case is: idle, filling, sealed, working or closed
--   Case     n, the variables that open named; current, with the defined ones;
--            total, the sum of the soft amounts given; proved, the proved cost;
--            impossible, the mark; shown, the shown plan's cost
--   State    the case that the bench holds, what the shelf means, and the ledger: a cell for each
--            place and perhaps more
--   idle_case, opened_case   a bench just made; a case just opened
--   cell_at      the cell of a place; soft with nothing past the ledger's end
--   known        the highest variable that a literal may have: at most the
--                case's number and at most the shelf's
use Rattle.std.specs.Prelude.{ℕ, min, Bool, true, false, List, ℤ, None, Option, slice_index_or}
use Rattle.shelf.specs.View.{View}
use Rattle.cost.specs.Figures.{zeros}
use Rattle.rules.specs.Cells.{Cell, soft}

pub data Phase : Type 0 where
  idle : Phase
  filling : Phase
  sealed : Phase
  working : Phase
  closed : Phase

pub record Case : Type 0 where
  pub phase : Phase
  pub n : ℕ
  pub current : ℕ
  pub total : List ℤ
  pub proved : List ℤ
  pub impossible : Bool
  pub shown : Option (List ℤ)

pub record State : Type 0 where
  pub bench : Case
  pub shelf : View
  pub ledger : List Cell

-- r is the number of tiers
abbrev pub idle_case : ℕ → Case
idle_case r = record { phase = idle; n = 0; current = 0; total = zeros r; proved = zeros r; impossible = false; shown = None }

abbrev pub opened_case : ℕ → ℕ → Case
opened_case r n = record { phase = filling; n = n; current = n; total = zeros r; proved = zeros r; impossible = false; shown = None }

abbrev pub at_filling : Phase → Bool
at_filling idle = false
at_filling filling = true
at_filling sealed = false
at_filling working = false
at_filling closed = false

abbrev pub at_sealed : Phase → Bool
at_sealed idle = false
at_sealed filling = false
at_sealed sealed = true
at_sealed working = false
at_sealed closed = false

-- sealed, or a step has been made since
abbrev pub at_steps : Phase → Bool
at_steps idle = false
at_steps filling = false
at_steps sealed = true
at_steps working = true
at_steps closed = false

abbrev pub cell_at : ℕ → List Cell → ℕ → Cell
cell_at r ledger p = slice_index_or ledger p (soft (zeros r))

abbrev pub known : ℕ → View → ℕ
known n v = min n v.highest

-- the case in another phase
abbrev pub with_phase : Case → Phase → Case
with_phase c f = record { phase = f; n = c.n; current = c.current; total = c.total; proved = c.proved; impossible = c.impossible; shown = c.shown }
