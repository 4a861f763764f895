-- The two kinds.
--
--   minutes_scale, slots_scale   how many tiers each has, and how far they go
--   minutes_kind   one tier, the minutes late, each within 10^12
--   slots_kind     two tiers, lost dock slots and then minutes late, each
--                  within 10^9
use Rattle.std.specs.Prelude.{[], ◌∷◌}
use Rattle.cost.specs.declared.amounts.Minutes.{Minutes}
use Rattle.cost.specs.declared.amounts.MinutesRow.{MinutesRow}
use Rattle.cost.specs.declared.amounts.Slots.{Slots}
use Rattle.cost.specs.declared.amounts.SlotsRow.{SlotsRow}
use Rattle.cost.specs.Reach.{Scale, read_as}
use Rattle.cost.specs.Kinds.{Kind}

abbrev pub minutes_scale : Scale
minutes_scale = record { tiers = 1; reach = 1000000000000 }

abbrev pub minutes_kind : Kind Minutes MinutesRow
minutes_kind = record {
  scale = minutes_scale;
  figures = λ a. a.minutes ∷ [];
  row = λ a. record { minutes = a.minutes };
  back = λ w. read_as minutes_scale (w.minutes ∷ []);
}

abbrev pub slots_scale : Scale
slots_scale = record { tiers = 2; reach = 1000000000 }

abbrev pub slots_kind : Kind Slots SlotsRow
slots_kind = record {
  scale = slots_scale;
  figures = λ a. a.slots ∷ a.minutes ∷ [];
  row = λ a. record { slots = a.slots; minutes = a.minutes };
  back = λ w. read_as slots_scale (w.slots ∷ w.minutes ∷ []);
}
