-- What the shelf's own functions learn of the words, one of the other.
--
--   Shows P ws p a b     the clause at the place p is that of the masks a and b; past
--                        the last place it is that of two that are 0
--   Slot P ws p c i      the place p is there, the code c is of a variable from 1 to
--                        64, and its bit is in the word i
--   Blank ws p           the masks of the place p are 0
use Rattle.std.specs.Prelude.{◌≡◌, ℕ, ◌+◌, ◌*◌, ◌/◌, ◌%◌, ◌<◌, ◌≤◌, List, [], length, slice_index_or}
use Rattle.masks.specs.Masks.{Paired, codes_of, held_in, mask_at}

pub record Shows (P : ℕ) (ws : List ℕ) (p a b : ℕ) : Type 0 where
  pub pair : Paired a b
  pub clause : slice_index_or (held_in P ws) p [] ≡ codes_of a b

pub record Slot (P : ℕ) (ws : List ℕ) (p c i : ℕ) : Type 0 where
  pub place : p < P
  pub at : i ≡ 2 * p + c % 2
  pub room : 2 * p + 2 ≤ length ws
  pub low : 1 ≤ c / 2
  pub high : c / 2 ≤ 64

pub record Blank (ws : List ℕ) (p : ℕ) : Type 0 where
  pub literals : mask_at ws p 0 ≡ 0
  pub opposites : mask_at ws p 1 ≡ 0
