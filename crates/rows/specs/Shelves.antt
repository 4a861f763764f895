-- The code's shelf of rows, as the words it lies over and its measures.
--
--   in_order s   its words keep what `Rows` says
--   meaning s    the clauses that its words mean
--   words_of s   its words
--   row_of s p   the words of the place p
--   spare s      the words past the last place's
--   Fresh s ws V L   s as it is made over the words ws: in order, with every place
--                free and every word of the places 0, and the spare words kept
--   StartsAt, Finds, Misses   that the row of a place begins at a word, is a list
--                of words, or is not there
use Rattle.std.specs.Prelude.{◌≡◌, ℕ, ◌+◌, List, length, take, drop, replicate}
use Rattle.rows.specs.declared.RowShelf.{RowShelf}
use Rattle.shelf.specs.Memory.{Starts}
use Rattle.shelf.specs.Room.{Lacks}
use Rattle.shelf.specs.View.{View}
use Rattle.rows.specs.Finding.{Found}
use Rattle.rows.specs.Made.{made_view}
use Rattle.rows.specs.Rows.{Rows, row_at, rows_view, used}

abbrev pub words_of : RowShelf → List ℕ
words_of s = s.words.now

abbrev pub in_order : RowShelf → Type 0
in_order s = Rows s.places s.highest s.longest (words_of s)

abbrev pub meaning : RowShelf → View
meaning s = rows_view s.places s.highest s.longest (words_of s)

abbrev pub spare : RowShelf → List ℕ
spare s = drop (used s.places s.longest) (words_of s)

pub record Fresh (s : RowShelf) (ws : List ℕ) (V L : ℕ) : Type 0 where
  pub fine : in_order s
  pub view : meaning s ≡ made_view (length ws) V L
  pub cleared : take (used s.places s.longest) (words_of s) ≡ replicate (used s.places s.longest) 0
  pub spare_kept : spare s ≡ drop (used s.places s.longest) ws

abbrev pub row_of : RowShelf → ℕ → List ℕ
row_of s p = row_at (s.longest + 1) (words_of s) p

abbrev pub StartsAt : RowShelf → ℕ → ℕ → Type 0
StartsAt s p at = Starts s.places (s.longest + 1) (length (words_of s)) p at

abbrev pub Finds : RowShelf → ℕ → List ℕ → Type 0
Finds s p row = Found s.places s.longest (words_of s) p row

abbrev pub Misses : RowShelf → ℕ → Type 0
Misses s p = Lacks (meaning s) p
