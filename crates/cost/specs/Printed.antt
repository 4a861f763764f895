-- The bytes that amounts print as.
--
--   minutes_text   as "20 minutes"
--   slots_text     as "1 slot 5 minutes" and "2 slots 10 minutes": one slot where
--                  the figure is exactly 1
use Rattle.std.specs.Prelude.{ℕ, List, ◌++◌, ℤ, pos, codes, if◌then◌else◌}
use Rattle.std.specs.Ordering.{int_eq}
use Rattle.std.specs.Fmt.{signed_decimal}

abbrev pub minutes_text : ℤ → List ℕ
minutes_text m = signed_decimal m ++ codes " minutes"

abbrev pub slots_text : ℤ → ℤ → List ℕ
slots_text s m = signed_decimal s ++ codes " " ++ (if int_eq s (pos 1) then codes "slot" else codes "slots") ++ codes " " ++ minutes_text m
