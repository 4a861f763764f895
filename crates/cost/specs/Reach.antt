-- Reach: how far a figure may go.
--
--   Scale         the tiers of a cost kind, and how far each figure may reach
--   near R x      whether the figure x lies from −R to R; Near says that it does
--   beyond k xs   the first tier of xs that is out of reach, counted from 1
--   in_reach      whether no tier is out of reach
--   reached k xs  xs itself, or a refusal that names its first tier out of reach
--   made_of k xs  the same of a list that may have the wrong length, which is
--                 refused first, with tier 0
--   read_as k xs  what a row of these figures reads as: xs itself where it is in
--                 reach, and else nothing
--   Within k xs   xs has the scale's length and is in reach
use Rattle.std.specs.Prelude.{◌≡◌, ℕ, ◌+◌, Bool, cond, ◌&&◌, List, [], ◌∷◌, length, ℤ, pos, neg_ℤ, ◌≤ℤ◌, Some, None, Ok, Err, Option, Result, ◌==◌, int_le, is_none, if◌then◌else◌}
use Rattle.std.specs.List.{AllByRecursion}
use Rattle.std.specs.Option.{option_map_or}
use Rattle.cost.specs.Figures.{zeros}

pub record Scale : Type 0 where
  pub tiers : ℕ
  pub reach : ℕ

abbrev pub near : ℕ → ℤ → Bool
near R x = int_le (neg_ℤ (pos R)) x && int_le x (pos R)

-- where the first figure of the list counts as tier t
abbrev pub beyond_from : ℕ → ℕ → List ℤ → Option ℕ
beyond_from R t [] = None
beyond_from R t (x ∷ xs) = cond (near R x) (beyond_from R (t + 1) xs) (Some t)

abbrev pub beyond : Scale → List ℤ → Option ℕ
beyond k xs = beyond_from k.reach 1 xs

abbrev pub in_reach : Scale → List ℤ → Bool
in_reach k xs = is_none (beyond k xs)

abbrev pub reached : Scale → List ℤ → Result (List ℤ) ℕ
reached k xs = option_map_or Err (beyond k xs) (Ok xs)

abbrev pub read_as : Scale → List ℤ → List ℤ
read_as k xs = if in_reach k xs then xs else zeros k.tiers

abbrev pub made_of : Scale → List ℤ → Result (List ℤ) ℕ
made_of k xs = cond (length xs == k.tiers) (reached k xs) (Err 0)

abbrev pub Near : ℕ → ℤ → Type 0
Near R x = (neg_ℤ (pos R) ≤ℤ x) × (x ≤ℤ pos R)

abbrev pub Within : Scale → List ℤ → Type 0
Within k xs = (length xs ≡ k.tiers) × AllByRecursion (Near k.reach) xs
