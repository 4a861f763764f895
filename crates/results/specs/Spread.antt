-- Codes that rise, where a literal may still stand beside its opposite: the shape
-- that every result has, before it is asked whether it vanishes.
--
--   Spread V b cs     the codes of cs rise strictly, from b on, and have no
--                     variable above V
--   AllSpread V rs   each of rs is spread, from the codes of the variable 1 on
use Rattle.std.specs.Prelude.{ℕ, ◌+◌, ◌≤◌, List, [], ◌∷◌}
use Rattle.std.specs.List.{All}
use Rattle.shelf.specs.Literals.{variable}

abbrev pub Spread : ℕ → ℕ → List ℕ → Type 0
Spread V b [] = Unit {0}
Spread V b (c ∷ cs) = (b ≤ c) × (variable c ≤ V) × Spread V (c + 1) cs

abbrev pub AllSpread : ℕ → List (List ℕ) → Type 0
AllSpread V rs = All (Spread V 2) rs
