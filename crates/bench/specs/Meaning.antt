-- What a bench means, in the rules' words.
--
--   phase_of, case_of   the rules' phase and case of a bench
--   state_of     the whole state: a bench, what the shelf means, and the ledger
--   state_at     the same from the shelf that a call is passed
--   granted_told, shown_told, cheapest_told   the rules' answer of a result
--   Done         what a call did: the shelf in order after, the answer and the
--                state after those of an outcome
use Rattle.std.specs.Prelude.{◌≡◌, ℕ, List, ℤ, Ok, Err, Result}
use Rattle.cost.specs.Kinds.{Kind}
use Rattle.shelf.specs.View.{View}
use Rattle.rules.specs.Case as rules
use Rattle.rules.specs.Questions.{Answer, granted, shown_at, cheapest_at, refused, Outcome}
use Rattle.ledger.specs.Bills.{amount_told}
use Rattle.ledger.specs.Meaning.{cells_of}
use Rattle.ledger.specs.declared.cell.Cell.{Cell}
use Rattle.bench.specs.declared.case.Bench.{Bench}
use Rattle.bench.specs.declared.case.Phase.{Phase}
use Rattle.bench.specs.declared.case.Phase.TheVariants.{Idle, Filling, Sealed, Working, Closed}
use Rattle.faults.specs.declared.fault.Fault.{Fault}
use Rattle.faults.specs.Faults.{number_of, tier_of}

abbrev pub phase_of : Phase → rules.Phase
phase_of Idle = rules.idle
phase_of Filling = rules.filling
phase_of Sealed = rules.sealed
phase_of Working = rules.working
phase_of Closed = rules.closed

-- K is the kind, A its amounts and W its rows
abbrev pub case_of : {K A W : Type 0} → Kind A W → Bench K A W → rules.Case
case_of k b = record {
  phase = phase_of b.phase;
  n = b.n;
  current = b.current;
  total = k.figures b.total;
  proved = k.figures b.proved;
  impossible = b.impossible;
  shown = amount_told k.figures b.shown;
}

abbrev pub state_of : {K A W : Type 0} → Kind A W → Bench K A W → View → List (Cell W) → rules.State
state_of k b v l = record { bench = case_of k b; shelf = v; ledger = cells_of k l }

-- the same from the shelf that a call is passed
abbrev pub state_at : {S K A W : Type 0} → Kind A W → (S → View) → Bench K A W → S → List (Cell W) → rules.State
state_at k view b s l = state_of k b (view s) l

abbrev pub granted_told : Result (Unit {0}) Fault → Answer
granted_told (Ok u) = granted
granted_told (Err e) = refused (number_of e) (tier_of e)

abbrev pub shown_told : {A : Type 0} → (A → List ℤ) → Result (A × ℕ) Fault → Answer
shown_told f (Ok p) = shown_at (f p.0) p.1
shown_told f (Err e) = refused (number_of e) (tier_of e)

abbrev pub cheapest_told : {A : Type 0} → (A → List ℤ) → Result A Fault → Answer
cheapest_told f (Ok a) = cheapest_at (f a)
cheapest_told f (Err e) = refused (number_of e) (tier_of e)

pub record Done (fine_after : Type 0) (a : Answer) (s : rules.State) (o : Outcome) : Type 0 where
  pub fine : fine_after
  pub answer : a ≡ o.answer
  pub after : s ≡ o.after
