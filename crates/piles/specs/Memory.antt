-- What lies in memory under a bench, on rows and on masks.
--
--   Zeroed ws P L    the words of the P places, of up to L literals each, are all 0
--   Blank r ws P L   so they are where the result r is a grant
--   BlankMasks r ws P   the words of the P places of a mask shelf are all 0 where the
--                    result r is a grant
use Rattle.std.specs.Prelude.{◌≡◌, ℕ, List, take, replicate, OnOk, Result}
use Rattle.faults.specs.declared.fault.Fault.{Fault}
use Rattle.masks.specs.Masks as masks
use Rattle.rows.specs.Rows.{used}

abbrev pub Zeroed : List ℕ → ℕ → ℕ → Type 0
Zeroed ws P L = take (used P L) ws ≡ replicate (used P L) 0

abbrev pub Blank : Result (Unit {0}) Fault → List ℕ → ℕ → ℕ → Type 0
Blank r ws P L = OnOk r (Zeroed ws P L)

abbrev pub BlankMasks : Result (Unit {0}) Fault → List ℕ → ℕ → Type 0
BlankMasks r ws P = OnOk r (take (masks.used P) ws ≡ replicate (masks.used P) 0)
