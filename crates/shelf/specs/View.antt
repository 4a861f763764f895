-- What a shelf means.
--
--   View       the measures (places P, highest variable V, longest clause L),
--              the list of codes at each place, and the remainder: whatever else
--              the shelf keeps, as lists of numbers
--   clause     the codes at a place; none past the last place
--   with_held  the same view with other clauses
--   emptied    the same view with every place free
--   emptied_below n   the same view with the places below n free
--   Sound      what every shelf keeps of its view
use Rattle.std.specs.Prelude.{◌≡◌, ℕ, ◌<◌, ◌≤◌, min, List, [], ◌++◌, length, drop, replicate, slice_index_or}
use Rattle.shelf.specs.Literals.{Rising}

pub record View : Type 0 where
  pub places : ℕ
  pub highest : ℕ
  pub longest : ℕ
  pub held : List (List ℕ)
  pub remainder : List (List ℕ)

abbrev pub clause : View → ℕ → List ℕ
clause v p = slice_index_or v.held p []

abbrev pub with_held : View → List (List ℕ) → View
with_held v h = record { places = v.places; highest = v.highest; longest = v.longest; held = h; remainder = v.remainder }

abbrev pub emptied : View → View
emptied v = with_held v (replicate v.places [])

abbrev pub emptied_below : ℕ → View → View
emptied_below n v = with_held v (replicate (min n v.places) [] ++ drop n v.held)

-- a clause on a shelf: rising codes of variables from 1 to V, at most L of them
pub record Clause (V L : ℕ) (cs : List ℕ) : Type 0 where
  pub rises : Rising V 0 cs
  pub short : length cs ≤ L

pub record Sound (v : View) : Type 0 where
  pub count : length v.held ≡ v.places
  pub places_few : v.places ≤ 65535
  pub highest_low : 1 ≤ v.highest
  pub highest_high : v.highest ≤ 65535
  pub longest_low : 1 ≤ v.longest
  pub longest_high : v.longest ≤ 255
  pub clauses : (p : ℕ) → p < v.places → Clause v.highest v.longest (clause v p)
