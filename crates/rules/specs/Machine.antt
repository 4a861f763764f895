-- The machine: every call but the reading of dockets, what it answers, and what
-- it leaves. Total on every state and every argument.
--
--   Call        the calls; clauses by codes, amounts by figures, plans by strips
--   does        the outcome of a call in a state, for a cost kind's scale
--   new         a bench just made, whatever shelf and ledger hold
--   answers, after_all   the answers to a list of calls in order, and the state
--               after all of them
use Rattle.std.specs.Prelude.{ℕ, List, [], ◌∷◌, ℤ}
use Rattle.shelf.specs.View.{View}
use Rattle.cost.specs.Reach.{Scale}
use Rattle.rules.specs.Cells.{Cell}
use Rattle.rules.specs.Case.{State, idle_case}
use Rattle.rules.specs.Questions.{Answer, Outcome}
use Rattle.rules.specs.Filling.{open_does, hard_does, soft_does, seal_does}
use Rattle.rules.specs.Showing.{show_does}
use Rattle.rules.specs.Steps.{split_does, join_does, resolve_does, define_does, harden_does}
use Rattle.rules.specs.Claims.{cheapest_does, impossible_does}

pub data Call : Type 0 where
  -- the number of variables
  opens : ℕ → Call
  -- place, clause
  gives_hard : ℕ → List ℕ → Call
  -- place, figures, clause
  gives_soft : ℕ → List ℤ → List ℕ → Call
  seals : Call
  -- strip
  shows : List ℕ → Call
  -- place, variable, to
  splits : ℕ → ℕ → ℕ → Call
  -- places i, j
  joins : ℕ → ℕ → Call
  -- places i, j, variable, to
  resolves : ℕ → ℕ → ℕ → ℕ → Call
  -- to, literals
  defines : ℕ → List ℕ → Call
  -- place
  hardens : ℕ → Call
  claims_cheapest : Call
  claims_impossible : Call

abbrev pub does : Scale → State → Call → Outcome
does k s (opens n) = open_does k s n
does k s (gives_hard p cs) = hard_does k s p cs
does k s (gives_soft p xs cs) = soft_does k s p xs cs
does k s seals = seal_does s
does k s (shows x) = show_does k s x
does k s (splits p x to) = split_does k s p x to
does k s (joins i j) = join_does k s i j
does k s (resolves i j x to) = resolve_does k s i j x to
does k s (defines to ls) = define_does k s to ls
does k s (hardens i) = harden_does k s i
does k s claims_cheapest = cheapest_does s
does k s claims_impossible = impossible_does s

abbrev pub new : Scale → View → List Cell → State
new k v ledger = record { bench = idle_case k.tiers; shelf = v; ledger = ledger }

unfoldable pub answers : Scale → State → List Call → List Answer
answers k s [] = []
answers k s (c ∷ cs) = (does k s c).answer ∷ answers k (does k s c).after cs

unfoldable pub after_all : Scale → State → List Call → State
after_all k s [] = s
after_all k s (c ∷ cs) = after_all k (does k s c).after cs
