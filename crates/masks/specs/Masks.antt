-- Clauses in pairs of masks. A place has two words of 64 bits: the bit v - 1 of
-- the first is set where the literal of the variable v stands, and that of the
-- second where its opposite does.
--
--   codes_of a b         the codes of the two masks, by rising code
--   mask_at ws p s       the mask of the place p for the sign s: 0 for literals,
--                        1 for opposites
--   codes_at ws p        the codes of the place p
--   Paired a b           what two masks keep: 64 bits each, and no bit in both, so
--                        no variable stands in both signs
--   used P               how many words the places take; those after are spare
--   Masks P ws           what the words keep: room for P places, at most 65,535,
--                        and a pair at each
--   held_in, masks_view  the clauses at the places, and what the words mean
use Rattle.std.specs.Prelude.{◌≡◌, ℕ, ◌+◌, ◌*◌, ◌^◌, ◌<◌, ◌≤◌, List, [], length, bit_and, slice_index}
use Rattle.shelf.specs.Holding.{held_by}
use Rattle.shelf.specs.View.{View}
use Rattle.masks.specs.Digits.{codes}

abbrev pub codes_of : ℕ → ℕ → List ℕ
codes_of a b = codes 64 1 a b

abbrev pub mask_at : List ℕ → ℕ → ℕ → ℕ
mask_at ws p s = slice_index ws (2 * p + s)

abbrev pub codes_at : List ℕ → ℕ → List ℕ
codes_at ws p = codes_of (mask_at ws p 0) (mask_at ws p 1)

pub record Paired (a b : ℕ) : Type 0 where
  pub literals_fit : a < 2 ^ 64
  pub opposites_fit : b < 2 ^ 64
  pub apart : bit_and a b ≡ 0

abbrev pub used : ℕ → ℕ
used P = 2 * P

pub record Masks (P : ℕ) (ws : List ℕ) : Type 0 where
  pub places_few : P ≤ 65535
  pub room : used P ≤ length ws
  pub each : (p : ℕ) → p < P → Paired (mask_at ws p 0) (mask_at ws p 1)

abbrev pub held_in : ℕ → List ℕ → List (List ℕ)
held_in P ws = held_by (codes_at ws) P

abbrev pub masks_view : ℕ → List ℕ → View
masks_view P ws = record { places = P; highest = 64; longest = 64; held = held_in P ws; remainder = [] }
