-- Why a call is refused, by its number: that of the question that was denied.
--
--   number_of   the number of each case of the code's enum
--   tier_of     the tier that it carries: of an amount out of reach alone, else 0
--   verdict_told   the rules' verdict of a result
use Rattle.std.specs.Prelude.{ℕ, Ok, Err, Result}
use Rattle.rules.specs.Questions.{Verdict, passes, stops}
use Rattle.faults.specs.declared.fault.Fault.{Fault}
use Rattle.faults.specs.declared.fault.Fault.TheVariants.{LedgerTooShort, WrongPhase, TooManyVariables, ClauseUnfit, PlaceUnfit, AmountUnfit, StripUnfit, HardClauseUnmet, SourceUnfit, LiteralMissing, VariableUnfit, ClausesDiffer, DefinitionUnfit, AlreadyHard, ResultTooLong, NoRoom, OutOfReach, NoPlanShown, NotDearer, CostsDiffer, NotMarked}

abbrev pub number_of : Fault → ℕ
number_of LedgerTooShort = 1
number_of WrongPhase = 2
number_of TooManyVariables = 3
number_of ClauseUnfit = 4
number_of PlaceUnfit = 5
number_of AmountUnfit = 6
number_of StripUnfit = 7
number_of HardClauseUnmet = 8
number_of SourceUnfit = 9
number_of LiteralMissing = 10
number_of VariableUnfit = 10
number_of ClausesDiffer = 10
number_of DefinitionUnfit = 10
number_of AlreadyHard = 10
number_of ResultTooLong = 11
number_of NoRoom = 12
number_of (OutOfReach t) = 13
number_of NoPlanShown = 14
number_of NotDearer = 15
number_of CostsDiffer = 16
number_of NotMarked = 17

abbrev pub tier_of : Fault → ℕ
tier_of LedgerTooShort = 0
tier_of WrongPhase = 0
tier_of TooManyVariables = 0
tier_of ClauseUnfit = 0
tier_of PlaceUnfit = 0
tier_of AmountUnfit = 0
tier_of StripUnfit = 0
tier_of HardClauseUnmet = 0
tier_of SourceUnfit = 0
tier_of LiteralMissing = 0
tier_of VariableUnfit = 0
tier_of ClausesDiffer = 0
tier_of DefinitionUnfit = 0
tier_of AlreadyHard = 0
tier_of ResultTooLong = 0
tier_of NoRoom = 0
tier_of (OutOfReach t) = t.number
tier_of NoPlanShown = 0
tier_of NotDearer = 0
tier_of CostsDiffer = 0
tier_of NotMarked = 0

abbrev pub verdict_told : {X : Type 0} → Result X Fault → Verdict
verdict_told (Ok x) = passes
verdict_told (Err e) = stops (number_of e) (tier_of e)
