-- What masks in order say of memory.
--
--   FreeIsZero   where no literal stands, both words of the place are 0
--   OneWriting    words that mean the same clauses are the same words, at every
--                  place; so nothing of what stood there before is left
use Rattle.std.specs.Prelude.{◌≡◌, ℕ, ◌<◌, List, [], take}
use Rattle.shelf.specs.View.{clause}
use Rattle.masks.specs.Finding.{Blank}
use Rattle.masks.specs.Masks.{Masks, masks_view, used}

abbrev pub FreeIsZero : Type 0
FreeIsZero = (P : ℕ) (ws : List ℕ) → Masks P ws → (p : ℕ) → p < P → clause (masks_view P ws) p ≡ [] → Blank ws p

abbrev pub OneWriting : Type 0
OneWriting =
    (P : ℕ) (ws us : List ℕ) → Masks P ws → Masks P us → masks_view P ws ≡ masks_view P us → take (used P) ws ≡ take (used P) us
