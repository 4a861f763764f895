-- The laws of exact figures: at each length they are an ordered commutative
-- group. They hold for any number of tiers and know nothing of reach. A second
-- law says what the tests of reach mean.
--
--   Tiered r xs     xs has r figures
--   OrderedGroup   the laws at r tiers; ExactFigures: at each number of tiers
--   ReachTells     no tier is beyond exactly where all are within; and the tier
--                   that is told is the first that is not near
use Rattle.std.specs.Prelude.{◌≡◌, ℕ, ◌+◌, ◌<◌, List, length, ℤ, pos, Some, None, slice_index_or}
use Rattle.std.specs.declared.cmp.Ordering.TheVariants.{Less, Equal}
use Rattle.std.specs.Ordering.{ordering_reverse}
use Rattle.cost.specs.Figures.{zeros, plus, minus, order}
use Rattle.cost.specs.Reach.{Scale, Near, beyond, Within}

-- figures of r tiers
abbrev pub Tiered : ℕ → List ℤ → Type 0
Tiered r xs = length xs ≡ r

pub record OrderedGroup (r : ℕ) : Type 0 where
  pub zeros_tiered : Tiered r (zeros r)
  pub plus_tiered : (xs ys : List ℤ) → Tiered r xs → Tiered r ys → Tiered r (plus xs ys)
  pub minus_tiered : (xs ys : List ℤ) → Tiered r xs → Tiered r ys → Tiered r (minus xs ys)
  -- a commutative group
  pub plus_comm : (xs ys : List ℤ) → plus xs ys ≡ plus ys xs
  pub plus_assoc : (xs ys zs : List ℤ) → plus (plus xs ys) zs ≡ plus xs (plus ys zs)
  pub plus_zeros : (xs : List ℤ) → Tiered r xs → plus xs (zeros r) ≡ xs
  pub plus_minus : (xs ys : List ℤ) → Tiered r xs → Tiered r ys → plus ys (minus xs ys) ≡ xs
  -- totally ordered
  pub order_same : (xs : List ℤ) → order xs xs ≡ Equal
  pub order_equal : (xs ys : List ℤ) → Tiered r xs → Tiered r ys → order xs ys ≡ Equal → xs ≡ ys
  pub order_flipped : (xs ys : List ℤ) → order ys xs ≡ ordering_reverse (order xs ys)
  pub order_less : (xs ys zs : List ℤ) → Tiered r xs → Tiered r ys → Tiered r zs → order xs ys ≡ Less → order ys zs ≡ Less → order xs zs ≡ Less
  -- and the order is kept by sums
  pub order_plus : (zs xs ys : List ℤ) → Tiered r xs → Tiered r ys → Tiered r zs → order (plus zs xs) (plus zs ys) ≡ order xs ys

abbrev pub ExactFigures : Type 0
ExactFigures = (r : ℕ) → OrderedGroup r

pub record Tells (k : Scale) (xs : List ℤ) : Type 0 where
  pub none_far : Within k xs → beyond k xs ≡ None
  pub within : length xs ≡ k.tiers → beyond k xs ≡ None → Within k xs
  -- the tier 1 + i is told where the figure at i is the first that is not near
  pub first_far : (t : ℕ) → beyond k xs ≡ Some t → (i : ℕ) × (t ≡ 1 + i) × (i < length xs) × (Near k.reach (slice_index_or xs i (pos 0)) → ⊥) × ((j : ℕ) → j < i → Near k.reach (slice_index_or xs j (pos 0)))

abbrev pub ReachTells : Type 0
ReachTells = (k : Scale) (xs : List ℤ) → Tells k xs
