-- Worked examples of the machine, each a computation.
--
--   blank P V L     a shelf of P free places, with the highest variable V and the
--                   longest clause L
--   minutes, slots  the scales of the two cost kinds
--   one n           an amount of n minutes; two s m, of s slots and m minutes
--   told k P V L calls   the answers of a new bench to a list of calls, on a blank
--                   shelf with a cell for each place
--   left            the state that they leave
use Rattle.std.specs.Prelude.{◌≡◌, ℕ, List, [], ◌∷◌, replicate, ℤ, pos, negsuc}
use Rattle.shelf.specs.View.{View}
use Rattle.cost.specs.Figures.{zeros}
use Rattle.cost.specs.Reach.{Scale}
use Rattle.rules.specs.Cells.{hard, soft}
use Rattle.rules.specs.Case.{State}
use Rattle.rules.specs.Questions.{Answer, granted, shown_at, cheapest_at, refused}
use Rattle.rules.specs.Machine.{Call, opens, gives_hard, gives_soft, seals, shows, splits, joins, resolves, defines, hardens, claims_cheapest, claims_impossible, new, answers, after_all}

abbrev pub blank : ℕ → ℕ → ℕ → View
blank P V L = record { places = P; highest = V; longest = L; held = replicate P []; remainder = [] }

abbrev pub minutes : Scale
minutes = record { tiers = 1; reach = 1000000000000 }

abbrev pub slots : Scale
slots = record { tiers = 2; reach = 1000000000 }

abbrev pub one : ℕ → List ℤ
one n = pos n ∷ []

abbrev pub two : ℕ → ℕ → List ℤ
two s m = pos s ∷ pos m ∷ []

abbrev pub started : Scale → ℕ → ℕ → ℕ → State
started k P V L = new k (blank P V L) (replicate P (soft (zeros k.tiers)))

abbrev pub told : Scale → ℕ → ℕ → ℕ → List Call → List Answer
told k P V L calls = answers k (started k P V L) calls

abbrev pub left : Scale → ℕ → ℕ → ℕ → List Call → State
left k P V L calls = after_all k (started k P V L) calls

-- Max-RES with one compensation: {1, 2} with 3 and {−1, 2, 3} with 4

abbrev pub one_compensation : List Call
one_compensation =
    opens 3 ∷ gives_soft 0 (one 3) (2 ∷ 4 ∷ []) ∷ gives_soft 1 (one 4) (3 ∷ 4 ∷ 6 ∷ []) ∷ seals ∷ resolves 0 1 1 2 ∷ []

abbrev pub OneCompensation : Type 0
OneCompensation =
    (told minutes 4 3 3 one_compensation ≡ granted ∷ granted ∷ granted ∷ granted ∷ granted ∷ [])
    × ((left minutes 4 3 3 one_compensation).shelf.held ≡ [] ∷ (3 ∷ 4 ∷ 6 ∷ []) ∷ (4 ∷ 6 ∷ []) ∷ (2 ∷ 4 ∷ 7 ∷ []) ∷ [])
    × ((left minutes 4 3 3 one_compensation).ledger ≡ soft (one 0) ∷ soft (one 1) ∷ soft (one 3) ∷ soft (one 3) ∷ [])

-- A whole case: hard {−2, 3}; soft {1} with 2, {−1, 2} with 1, {−3} with 2

abbrev pub whole_case : List Call
whole_case =
    opens 3 ∷ gives_hard 0 (5 ∷ 6 ∷ []) ∷ gives_soft 1 (one 2) (2 ∷ []) ∷ gives_soft 2 (one 1) (3 ∷ 4 ∷ []) ∷ gives_soft 3 (one 2) (7 ∷ []) ∷ seals
    ∷ shows (1 ∷ 0 ∷ 0 ∷ []) ∷ resolves 1 2 1 4 ∷ resolves 4 0 2 6 ∷ resolves 6 3 3 2 ∷ claims_cheapest ∷ []

abbrev pub WholeCase : Type 0
WholeCase =
    (told minutes 8 3 3 whole_case ≡ granted ∷ granted ∷ granted ∷ granted ∷ granted ∷ granted ∷ shown_at (one 1) 1 ∷ granted ∷ granted ∷ granted ∷ cheapest_at (one 1) ∷ [])
    × ((left minutes 8 3 3 whole_case).bench.proved ≡ one 1)
    × ((left minutes 8 3 3 whole_case).shelf.held ≡ (5 ∷ 6 ∷ []) ∷ (2 ∷ []) ∷ [] ∷ (7 ∷ []) ∷ [] ∷ (2 ∷ 5 ∷ []) ∷ [] ∷ (4 ∷ 7 ∷ []) ∷ [])
    × ((left minutes 8 3 3 whole_case).ledger ≡ hard ∷ soft (one 1) ∷ soft (one 0) ∷ soft (one 1) ∷ soft (one 0) ∷ soft (one 1) ∷ soft (one 0) ∷ soft (one 1) ∷ [])

-- A parent that is used up: {1, 2} and {−1, 2} with 1 each leave {2} with 1, and a
-- further step on either parent is refused with 9

abbrev pub used_up : List Call
used_up =
    opens 2 ∷ gives_soft 0 (one 1) (2 ∷ 4 ∷ []) ∷ gives_soft 1 (one 1) (3 ∷ 4 ∷ []) ∷ seals ∷ resolves 0 1 1 2 ∷ resolves 0 2 1 3 ∷ resolves 2 1 2 3 ∷ []

abbrev pub UsedUp : Type 0
UsedUp =
    (told minutes 4 2 3 used_up ≡ granted ∷ granted ∷ granted ∷ granted ∷ granted ∷ refused 9 0 ∷ refused 9 0 ∷ [])
    × ((left minutes 4 2 3 used_up).shelf.held ≡ [] ∷ [] ∷ (4 ∷ []) ∷ [] ∷ [])
    × ((left minutes 4 2 3 used_up).ledger ≡ soft (one 0) ∷ soft (one 0) ∷ soft (one 1) ∷ soft (one 0) ∷ [])

-- The same with every other kind of step on a used-up parent: each is refused with 9

abbrev pub used_up_for_all : List Call
used_up_for_all =
    opens 2 ∷ gives_soft 0 (one 1) (2 ∷ 4 ∷ []) ∷ gives_soft 1 (one 1) (3 ∷ 4 ∷ []) ∷ seals ∷ resolves 0 1 1 2
    ∷ resolves 0 2 1 3 ∷ resolves 2 1 2 3 ∷ splits 0 1 3 ∷ joins 0 2 ∷ joins 2 1 ∷ hardens 1 ∷ []

abbrev pub UsedUpForAll : Type 0
UsedUpForAll =
    (told minutes 4 2 3 used_up_for_all ≡ granted ∷ granted ∷ granted ∷ granted ∷ granted ∷ refused 9 0 ∷ refused 9 0 ∷ refused 9 0 ∷ refused 9 0 ∷ refused 9 0 ∷ refused 9 0 ∷ [])
    × ((left minutes 4 2 3 used_up_for_all).shelf.held ≡ [] ∷ [] ∷ (4 ∷ []) ∷ [] ∷ [])
    × ((left minutes 4 2 3 used_up_for_all).ledger ≡ soft (one 0) ∷ soft (one 0) ∷ soft (one 1) ∷ soft (one 0) ∷ [])

-- Two tiers: {1} with (2, 10) and {−1} with (1, 25) prove (1, 25) and leave (1, −15)

abbrev pub two_tiers : List Call
two_tiers = opens 1 ∷ gives_soft 0 (two 2 10) (2 ∷ []) ∷ gives_soft 1 (two 1 25) (3 ∷ []) ∷ seals ∷ resolves 0 1 1 2 ∷ []

abbrev pub TwoTiers : Type 0
TwoTiers =
    ((left slots 3 1 1 two_tiers).bench.proved ≡ two 1 25)
    × ((left slots 3 1 1 two_tiers).shelf.held ≡ (2 ∷ []) ∷ [] ∷ [] ∷ [])
    × ((left slots 3 1 1 two_tiers).ledger ≡ soft (pos 1 ∷ negsuc 14 ∷ []) ∷ soft (two 0 0) ∷ soft (two 0 0) ∷ [])

abbrev pub TwoTiersGranted : Type 0
TwoTiersGranted = told slots 3 1 1 two_tiers ≡ granted ∷ granted ∷ granted ∷ granted ∷ granted ∷ []

-- The full reach is granted, and a further 1 is refused with 6

abbrev pub full_reach : List Call
full_reach = opens 1 ∷ gives_soft 0 (one 1000000000000) (2 ∷ []) ∷ gives_soft 1 (one 1) (3 ∷ []) ∷ []

abbrev pub FullReach : Type 0
FullReach = told minutes 3 1 1 full_reach ≡ granted ∷ granted ∷ refused 6 0 ∷ []

-- No variables: an empty soft clause with 5 is what the empty plan costs

abbrev pub no_variables : List Call
no_variables = opens 0 ∷ gives_soft 0 (one 5) [] ∷ seals ∷ shows [] ∷ claims_cheapest ∷ []

abbrev pub NoVariables : Type 0
NoVariables = told minutes 1 1 1 no_variables ≡ granted ∷ granted ∷ granted ∷ shown_at (one 5) 0 ∷ cheapest_at (one 5) ∷ []

-- Hard {1} and hard {−1} leave no plan: the claim of impossible is granted

abbrev pub no_plan : List Call
no_plan = opens 1 ∷ gives_hard 0 (2 ∷ []) ∷ gives_hard 1 (3 ∷ []) ∷ seals ∷ resolves 0 1 1 2 ∷ claims_impossible ∷ []

abbrev pub NoPlan : Type 0
NoPlan = told minutes 3 1 1 no_plan ≡ granted ∷ granted ∷ granted ∷ granted ∷ granted ∷ granted ∷ []

-- The same claim made too early is refused with 17 first

abbrev pub claimed_early : List Call
claimed_early = opens 1 ∷ gives_hard 0 (2 ∷ []) ∷ gives_hard 1 (3 ∷ []) ∷ seals ∷ claims_impossible ∷ resolves 0 1 1 2 ∷ claims_impossible ∷ []

abbrev pub ClaimedEarly : Type 0
ClaimedEarly = told minutes 3 1 1 claimed_early ≡ granted ∷ granted ∷ granted ∷ granted ∷ refused 17 0 ∷ granted ∷ granted ∷ []

-- Hardening: with {1} at 2, {2} at 3 and the plan 0 1, which costs 2, the first may
-- not be made hard, since the plan itself leaves it unmet; the second may

abbrev pub hardening : List Call
hardening = opens 2 ∷ gives_soft 0 (one 2) (2 ∷ []) ∷ gives_soft 1 (one 3) (4 ∷ []) ∷ seals ∷ shows (0 ∷ 1 ∷ []) ∷ hardens 0 ∷ hardens 1 ∷ []

abbrev pub Hardening : Type 0
Hardening =
    (told minutes 2 2 1 hardening ≡ granted ∷ granted ∷ granted ∷ granted ∷ shown_at (one 2) 1 ∷ refused 15 0 ∷ granted ∷ [])
    × ((left minutes 2 2 1 hardening).ledger ≡ soft (one 2) ∷ hard ∷ [])

-- Split {2} with 5 on variable 1, and join what comes with {1, 2} at 4: {1, 2} with 9

abbrev pub splitting : List Call
splitting = opens 2 ∷ gives_soft 0 (one 5) (4 ∷ []) ∷ gives_soft 1 (one 4) (2 ∷ 4 ∷ []) ∷ seals ∷ splits 0 1 2 ∷ joins 0 1 ∷ []

abbrev pub Splitting : Type 0
Splitting =
    (told minutes 4 2 2 splitting ≡ granted ∷ granted ∷ granted ∷ granted ∷ granted ∷ granted ∷ [])
    × ((left minutes 4 2 2 splitting).shelf.held ≡ (2 ∷ 4 ∷ []) ∷ [] ∷ (3 ∷ 4 ∷ []) ∷ [] ∷ [])
    × ((left minutes 4 2 2 splitting).ledger ≡ soft (one 9) ∷ soft (one 0) ∷ soft (one 5) ∷ soft (one 0) ∷ [])

-- Define variable 3 as 1 or −2

abbrev pub a_definition : List Call
a_definition = opens 2 ∷ seals ∷ defines 0 (2 ∷ 5 ∷ []) ∷ []

abbrev pub ADefinition : Type 0
ADefinition =
    (told minutes 4 3 3 a_definition ≡ granted ∷ granted ∷ granted ∷ [])
    × ((left minutes 4 3 3 a_definition).shelf.held ≡ (2 ∷ 5 ∷ 7 ∷ []) ∷ (3 ∷ 6 ∷ []) ∷ (4 ∷ 6 ∷ []) ∷ [] ∷ [])
    × ((left minutes 4 3 3 a_definition).ledger ≡ hard ∷ hard ∷ hard ∷ soft (one 0) ∷ [])

pub record Examples : Type 0 where
  pub one_compensation_stands : OneCompensation
  pub whole_case_stands : WholeCase
  pub used_up_stands : UsedUp
  pub used_up_for_all_stands : UsedUpForAll
  pub two_tiers_stands : TwoTiers
  pub two_tiers_granted_stands : TwoTiersGranted
  pub full_reach_stands : FullReach
  pub no_variables_stands : NoVariables
  pub no_plan_stands : NoPlan
  pub claimed_early_stands : ClaimedEarly
  pub hardening_stands : Hardening
  pub splitting_stands : Splitting
  pub a_definition_stands : ADefinition
