-- Clauses in rows of words. A row is the L + 1 words of one place: the count of
-- its literals, then their codes by rising code, then zeros.
--
--   codes_of row        the codes of a row, as many as its count says
--   row_at w ws p       the words of the place p, where each place has w words
--   codes_at L ws p     the codes of the place p
--   Row V L row         what a row keeps: the count is at most L, the codes are of
--                       variables that rise, up to V, and every word past the
--                       count is 0, so a clause is written in one way only
--   Rows P V L ws       what the words keep: the limits of the three measures,
--                       room for P rows, and a row at each place
--   held_in, rows_view  the clauses at the places, and what the words mean
--   used P L            how many words the places take; those after are spare
use Rattle.std.specs.Prelude.{◌≡◌, ℕ, ◌+◌, ◌*◌, ◌<◌, ◌≤◌, List, [], length, take, drop, slice_index, slice_index_or}
use Rattle.shelf.specs.Holding.{held_by}
use Rattle.shelf.specs.Literals.{Rising}
use Rattle.shelf.specs.View.{View}

unfoldable pub codes_of : List ℕ → List ℕ
codes_of row = take (slice_index row 0) (drop 1 row)

unfoldable pub row_at : ℕ → List ℕ → ℕ → List ℕ
row_at w ws p = take w (drop (p * w) ws)

abbrev pub codes_at : ℕ → List ℕ → ℕ → List ℕ
codes_at L ws p = codes_of (row_at (L + 1) ws p)

pub record Row (V L : ℕ) (row : List ℕ) : Type 0 where
  pub count : slice_index_or row 0 0 ≤ L
  pub rises : Rising V 0 (codes_of row)
  pub blank : (k : ℕ) → slice_index row 0 < k → slice_index row k ≡ 0

abbrev pub used : ℕ → ℕ → ℕ
used P L = P * (L + 1)

pub record Rows (P V L : ℕ) (ws : List ℕ) : Type 0 where
  pub places_few : P ≤ 65535
  pub highest_low : 1 ≤ V
  pub highest_high : V ≤ 65535
  pub longest_low : 1 ≤ L
  pub longest_high : L ≤ 255
  pub room : used P L ≤ length ws
  pub each : (p : ℕ) → p < P → Row V L (row_at (L + 1) ws p)

abbrev pub held_in : ℕ → ℕ → List ℕ → List (List ℕ)
held_in P L ws = held_by (codes_at L ws) P

abbrev pub rows_view : ℕ → ℕ → ℕ → List ℕ → View
rows_view P V L ws = record { places = P; highest = V; longest = L; held = held_in P L ws; remainder = [] }
