-- Signatures: a word of 64 bits that stands for a clause.
--
--   has_bit r w        whether the bit r of the word w is set
--   leaves r cs        whether some code of cs leaves the remainder r by 64
--   Signs w cs         the word w is the signature of cs: each of its 64 bits is
--                      set exactly when some code of cs leaves that remainder
--   Signed v ws        the word of each of the first 4,096 places of the view v is
--                      the signature of the clause there
--   Marked ws us p c   the words us are ws with the bit of the code c set at p
--   Blanked ws us p    the words us are ws with no bit set at p
--   blank              the words of 4,096 places with no bit set
use Rattle.std.specs.Prelude.{◌≡◌, ℕ, ◌/◌, ◌%◌, ◌^◌, ◌<◌, min, Bool, false, ◌||◌, List, [], ◌∷◌, replicate, ◌==◌, ◌≢◌, bit_or, slice_index, slice_index_or}
use Rattle.shelf.specs.View.{View, clause}

abbrev pub has_bit : ℕ → ℕ → Bool
has_bit r w = w / 2 ^ r % 2 == 1

unfoldable pub leaves : ℕ → List ℕ → Bool
leaves r [] = false
leaves r (c ∷ cs) = c % 64 == r || leaves r cs

abbrev pub Signs : ℕ → List ℕ → Type 0
Signs w cs = (r : ℕ) → r < 64 → has_bit r w ≡ leaves r cs

abbrev pub Signed : View → List ℕ → Type 0
Signed v ws = (p : ℕ) → p < min 4096 v.places → Signs (slice_index ws p) (clause v p)

pub record Marked (ws us : List ℕ) (p c : ℕ) : Type 0 where
  pub here : slice_index_or us p 0 ≡ bit_or (slice_index ws p) (2 ^ (c % 64))
  pub elsewhere : (q : ℕ) → (q ≢ p) → slice_index us q ≡ slice_index ws q

pub record Blanked (ws us : List ℕ) (p : ℕ) : Type 0 where
  pub here : slice_index_or us p 0 ≡ 0
  pub elsewhere : (q : ℕ) → (q ≢ p) → slice_index us q ≡ slice_index ws q

abbrev pub blank : List ℕ
blank = replicate 4096 0
