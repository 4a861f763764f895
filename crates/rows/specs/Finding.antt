-- What the shelf's own functions learn of the words, one of the other.
--
--   Found P L ws p row    the row of the place p, whose count does not pass its end
--   Gap row c k           the row has room for one more, and the code c goes in
--                         before the k-th of its codes, where they rise
use Rattle.std.specs.Prelude.{◌≡◌, ℕ, ◌+◌, ◌*◌, ◌<◌, ◌≤◌, List, [], length, slice_index, slice_index_or}
use Rattle.std.specs.List.{insert}
use Rattle.shelf.specs.Literals.{Rising, put}
use Rattle.rows.specs.Rows.{codes_of, held_in, row_at}

pub record Found (P L : ℕ) (ws : List ℕ) (p : ℕ) (row : List ℕ) : Type 0 where
  pub place : p < P
  pub room : p * (L + 1) + (L + 1) ≤ length ws
  pub words : row ≡ row_at (L + 1) ws p
  pub long : length row ≡ L + 1
  pub short : length row ≤ 256
  pub count : slice_index_or row 0 0 < length row
  pub clause : slice_index_or (held_in P L ws) p [] ≡ codes_of row

pub record Gap (row : List ℕ) (c k : ℕ) : Type 0 where
  pub room : slice_index_or row 0 0 + 1 < length row
  pub within : k ≤ slice_index row 0
  pub goes : (V : ℕ) → Rising V 0 (codes_of row) → put c (codes_of row) ≡ insert (codes_of row) k c
