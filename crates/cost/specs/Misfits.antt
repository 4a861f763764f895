-- Why a list of figures is no amount.
--
--   tier_told         the number that it is told by: 0 for the wrong length, else the
--                     tier out of reach, counted from 1
--   is_wrong_length   whether it is the length
use Rattle.std.specs.Prelude.{ℕ, Bool, true, false}
use Rattle.cost.specs.declared.misfit.Misfit.{Misfit}
use Rattle.cost.specs.declared.misfit.Misfit.TheVariants.{WrongLength, OutOfReach}

abbrev pub tier_told : Misfit → ℕ
tier_told WrongLength = 0
tier_told (OutOfReach t) = t.number

abbrev pub is_wrong_length : Misfit → Bool
is_wrong_length WrongLength = true
is_wrong_length (OutOfReach t) = false
