-- Both kinds are lawful: an amount is the list of its figures, all in reach.
--
--   near_prop, both_near_prop      that figures are in reach is one fact, however it is shown
--   minutes_of, slots_of           the amount of a row in reach
--   minutes_listed, slots_listed   each list in reach is the figures of an amount
--   minutes_one, slots_one         two amounts of the same figures are one
--   minutes_lawful, slots_lawful   the laws of the kind of one tier, and of two
use Rattle.std.specs.Prelude.{◌≡◌, ℕ, List, [], ◌∷◌, ℤ, refl}
use Rattle.std.proofs.Common.{arith, lit≤}
use Rattle.std.proofs.Props.{props}
use mathlib.Core.HLevel.{is_prop→PathP}
use Rattle.cost.specs.declared.amounts.Minutes.{Minutes}
use Rattle.cost.specs.declared.amounts.MinutesRow.{MinutesRow}
use Rattle.cost.specs.declared.amounts.Slots.{Slots}
use Rattle.cost.specs.declared.amounts.SlotsRow.{SlotsRow}
use Rattle.cost.specs.Kinds.{Lawful}
use Rattle.cost.specs.Models.{minutes_scale, minutes_kind, slots_scale, slots_kind}
use Rattle.cost.specs.Reach.{Near, Within}
use Rattle.cost.specs.Reaching.{read_within, read_other, read_bounded}

pub near_prop : (R : ℕ) (x : ℤ) → IsProp (Near R x)
near_prop R x = hlevel props

pub both_near_prop : (R : ℕ) (x y : ℤ) → IsProp (Near R x × Near R y)
both_near_prop R x y = hlevel props

-- one tier

abbrev pub minutes_of : (w : MinutesRow) → Within minutes_scale (w.minutes ∷ []) → Minutes
minutes_of w p = record { minutes = w.minutes; ok = p.1.0 }

pub minutes_listed : (xs : List ℤ) → Within minutes_scale xs → (a : Minutes) × (minutes_kind.figures a ≡ xs)
minutes_listed [] p = absurd (omega (arith, p.0))
minutes_listed (x ∷ []) p = (minutes_of record { minutes = x } p, refl)
minutes_listed (x ∷ y ∷ xs) p = absurd (omega (arith, p.0))

pub minutes_one : (a b : Minutes) → a.minutes ≡ b.minutes → a ≡ b
minutes_one a b e = λ i. record { minutes = e i; ok = is_prop→PathP (λ j. Near 1000000000000 (e j)) (λ j. near_prop 1000000000000 (e j)) a.ok b.ok i }

pub minutes_lawful : Lawful minutes_kind
minutes_lawful =
    let inside : (a : Minutes) → Within minutes_scale (minutes_kind.figures a) = λ a. (refl, (a.ok, tt)) in
    record {
      tiers_some = lit≤ tt;
      tiers_few = lit≤ tt;
      reach_some = lit≤ tt;
      reach_small = lit≤ tt;
      bounded = inside;
      onto = minutes_listed;
      one = λ a b e. minutes_one a b (cc);
      own_row = λ a. read_within minutes_scale (minutes_kind.figures a) (inside a);
      other_row = λ w no. read_other minutes_scale (w.minutes ∷ []) refl (λ p. no (minutes_of w p) refl);
      row_bounded = λ w. read_bounded minutes_scale (w.minutes ∷ []) refl;
    }

-- two tiers

abbrev pub slots_of : (w : SlotsRow) → Within slots_scale (w.slots ∷ w.minutes ∷ []) → Slots
slots_of w p = record { slots = w.slots; minutes = w.minutes; ok = (p.1.0, p.1.1.0) }

pub slots_listed : (xs : List ℤ) → Within slots_scale xs → (a : Slots) × (slots_kind.figures a ≡ xs)
slots_listed [] p = absurd (omega (arith, p.0))
slots_listed (x ∷ []) p = absurd (omega (arith, p.0))
slots_listed (x ∷ y ∷ []) p = (slots_of record { slots = x; minutes = y } p, refl)
slots_listed (x ∷ y ∷ z ∷ xs) p = absurd (omega (arith, p.0))

pub slots_one : (a b : Slots) → a.slots ≡ b.slots → a.minutes ≡ b.minutes → a ≡ b
slots_one a b e f = λ i. record { slots = e i; minutes = f i; ok = is_prop→PathP (λ j. Near 1000000000 (e j) × Near 1000000000 (f j)) (λ j. both_near_prop 1000000000 (e j) (f j)) a.ok b.ok i }

pub slots_lawful : Lawful slots_kind
slots_lawful =
    let inside : (a : Slots) → Within slots_scale (slots_kind.figures a) = λ a. (refl, (a.ok.0, (a.ok.1, tt))) in
    record {
      tiers_some = lit≤ tt;
      tiers_few = lit≤ tt;
      reach_some = lit≤ tt;
      reach_small = lit≤ tt;
      bounded = inside;
      onto = slots_listed;
      one = λ a b e. slots_one a b (cc) (cc);
      own_row = λ a. read_within slots_scale (slots_kind.figures a) (inside a);
      other_row = λ w no. read_other slots_scale (w.slots ∷ w.minutes ∷ []) refl (λ p. no (slots_of w p) refl);
      row_bounded = λ w. read_bounded slots_scale (w.slots ∷ w.minutes ∷ []) refl;
    }
