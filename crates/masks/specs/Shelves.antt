-- The code's shelf of masks, as the words it lies over and its number of places.
--
--   in_order s    its words keep what `Masks` says
--   meaning s     the clauses that its words mean
--   words_of s    its words
--   spare s       the words past the last place's
--   Fresh s ws    s as it is made over the words ws: in order, with every place
--                 free and every word of the places 0, and the spare words kept
--   StartsAt, Misses, Reads, SlotAt   that the masks of a place begin at a word,
--                 are not there, are two words, or have a code's bit in a word
use Rattle.std.specs.Prelude.{◌≡◌, ℕ, List, length, take, drop, replicate}
use Rattle.masks.specs.declared.MaskShelf.{MaskShelf}
use Rattle.masks.specs.declared.pair.Pair.{Pair}
use Rattle.shelf.specs.Memory.{Starts}
use Rattle.shelf.specs.Room.{Lacks}
use Rattle.shelf.specs.View.{View}
use Rattle.masks.specs.Finding.{Shows, Slot}
use Rattle.masks.specs.Made.{made_view}
use Rattle.masks.specs.Masks.{Masks, masks_view, used}

abbrev pub words_of : MaskShelf → List ℕ
words_of s = s.words.now

abbrev pub in_order : MaskShelf → Type 0
in_order s = Masks s.places (words_of s)

abbrev pub meaning : MaskShelf → View
meaning s = masks_view s.places (words_of s)

abbrev pub spare : MaskShelf → List ℕ
spare s = drop (used s.places) (words_of s)

pub record Fresh (s : MaskShelf) (ws : List ℕ) : Type 0 where
  pub fine : in_order s
  pub view : meaning s ≡ made_view (length ws)
  pub cleared : take (used s.places) (words_of s) ≡ replicate (used s.places) 0
  pub spare_kept : spare s ≡ drop (used s.places) ws

abbrev pub StartsAt : MaskShelf → ℕ → ℕ → Type 0
StartsAt s p at = Starts s.places 2 (length (words_of s)) p at

abbrev pub Misses : MaskShelf → ℕ → Type 0
Misses s p = Lacks (meaning s) p

abbrev pub Reads : MaskShelf → ℕ → Pair → Type 0
Reads s p r = Shows s.places (words_of s) p r.literals r.opposites

abbrev pub SlotAt : MaskShelf → ℕ → ℕ → ℕ → Type 0
SlotAt s p c i = Slot s.places (words_of s) p c i
