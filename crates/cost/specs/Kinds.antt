-- What a cost kind is: amounts of a type A, which keep the reach, and plain
-- rows of a type W, which do not.
--
--   Kind      the scale, what an amount means, its row, and what a row reads as
--   Lawful    meaning is one to one with the lists in reach; an amount's own
--             row reads as that amount, and any other row as nothing
--   meant     what the result of an operation means: figures, or a tier's number
--   meant_made   the same of a list that may have the wrong length, told by 0
use Rattle.std.specs.Prelude.{◌≡◌, ℕ, ◌^◌, ◌≤◌, List, ℤ, Ok, Err, Result, ◌≢◌}
use Rattle.cost.specs.declared.misfit.Misfit.{Misfit}
use Rattle.cost.specs.declared.tier.Tier.{Tier}
use Rattle.cost.specs.Figures.{zeros}
use Rattle.cost.specs.Misfits.{tier_told}
use Rattle.cost.specs.Reach.{Scale, Within}

pub record Kind (A W : Type 0) : Type 0 where
  pub scale : Scale
  pub figures : A → List ℤ
  pub row : A → W
  pub back : W → List ℤ

pub record Lawful {A W : Type 0} (k : Kind A W) : Type 0 where
  pub tiers_some : 1 ≤ k.scale.tiers
  pub tiers_few : k.scale.tiers ≤ 14
  pub reach_some : 1 ≤ k.scale.reach
  pub reach_small : k.scale.reach ≤ 10 ^ 12
  -- an amount means a list in reach
  pub bounded : (a : A) → Within k.scale (k.figures a)
  -- each such list is the meaning of some amount, and of no two
  pub onto : (xs : List ℤ) → Within k.scale xs → (a : A) × (k.figures a ≡ xs)
  pub one : (a b : A) → k.figures a ≡ k.figures b → a ≡ b
  pub own_row : (a : A) → k.back (k.row a) ≡ k.figures a
  pub other_row : (w : W) → ((a : A) → k.row a ≢ w) → k.back w ≡ zeros k.scale.tiers
  pub row_bounded : (w : W) → Within k.scale (k.back w)

abbrev pub meant : {A : Type 0} → (A → List ℤ) → Result A Tier → Result (List ℤ) ℕ
meant f (Ok a) = Ok (f a)
meant f (Err t) = Err t.number

abbrev pub meant_made : {A : Type 0} → (A → List ℤ) → Result A Misfit → Result (List ℤ) ℕ
meant_made f (Ok a) = Ok (f a)
meant_made f (Err m) = Err (tier_told m)
