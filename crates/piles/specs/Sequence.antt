-- Calls made one after another, up to the first refusal.
--
--   unless_refused   the first answer if it is a refusal, else the second
--   final k s cs     the first refusal among the answers to the calls cs from the
--                    state s on, else the last answer
--   one_clause_case       the calls of a case with one variable and one soft clause
--   one_clause_on    the same on a new bench, from what its shelf means and a ledger
use Rattle.std.specs.Prelude.{List, [], ◌∷◌, ℤ}
use Rattle.cost.specs.Kinds.{Kind}
use Rattle.cost.specs.Reach.{Scale}
use Rattle.ledger.specs.Meaning.{cells_of}
use Rattle.ledger.specs.declared.cell.Cell.{Cell}
use Rattle.shelf.specs.View.{View}
use Rattle.rules.specs.Case.{State}
use Rattle.rules.specs.Machine.{Call, opens, gives_soft, seals, shows, claims_cheapest, does, new}
use Rattle.rules.specs.Questions.{Answer, granted, shown_at, cheapest_at, refused}

abbrev pub unless_refused : Answer → Answer → Answer
unless_refused granted rest = rest
unless_refused (shown_at z n) rest = rest
unless_refused (cheapest_at z) rest = rest
unless_refused (refused q t) rest = refused q t

unfoldable pub final : Scale → State → Call → List Call → Answer
final k s c [] = (does k s c).answer
final k s c (d ∷ ds) = unless_refused (does k s c).answer (final k (does k s c).after d ds)

-- the clause {1} at place 0, and a plan that meets it
abbrev pub one_clause_case : Scale → State → List ℤ → Answer
one_clause_case k s xs = final k s (opens 1) (gives_soft 0 xs (2 ∷ []) ∷ seals ∷ shows (1 ∷ []) ∷ claims_cheapest ∷ [])

abbrev pub one_clause_on : {A W : Type 0} → Kind A W → View → List (Cell W) → List ℤ → Answer
one_clause_on k v ledger xs = one_clause_case k.scale (new k.scale v (cells_of k ledger)) xs
