-- What rows in order say of memory.
--
--   FreeIsZero   where no literal stands, every word of the place is 0
--   OneWriting    words that mean the same clauses are the same words, at every
--                  place; so nothing of what stood there before is left
use Rattle.std.specs.Prelude.{◌≡◌, ℕ, ◌+◌, ◌<◌, List, [], take, replicate}
use Rattle.shelf.specs.View.{clause}
use Rattle.rows.specs.Rows.{row_at, Rows, rows_view, used}

abbrev pub FreeIsZero : Type 0
FreeIsZero =
    (P V L : ℕ) (ws : List ℕ) → Rows P V L ws → (p : ℕ) → p < P → clause (rows_view P V L ws) p ≡ [] → row_at (L + 1) ws p ≡ replicate (L + 1) 0

abbrev pub OneWriting : Type 0
OneWriting =
    (P V L : ℕ) (ws us : List ℕ) → Rows P V L ws → Rows P V L us → rows_view P V L ws ≡ rows_view P V L us → take (used P L) ws ≡ take (used P L) us
