-- What signatures say of clauses.
--
--   BitTellsRemainder   where a bit is not set, no code with that remainder
--                         stands in the clause
--   OneSignature         a clause has one signature of 64 bits; so the word of a
--                         place keeps nothing of what stood there before
--   FreeIsZero          the signature of no codes is 0
use Rattle.std.specs.Prelude.{◌≡◌, ℕ, ◌%◌, ◌^◌, ◌<◌, false, List, []}
use Rattle.shelf.specs.Literals.{among}
use Rattle.signatures.specs.Signing.{Signs, has_bit}

abbrev pub BitTellsRemainder : Type 0
BitTellsRemainder =
    (w : ℕ) (cs : List ℕ) → Signs w cs → (c : ℕ) → has_bit (c % 64) w ≡ false → among c cs ≡ false

abbrev pub OneSignature : Type 0
OneSignature =
    (w u : ℕ) (cs : List ℕ) → w < 2 ^ 64 → u < 2 ^ 64 → Signs w cs → Signs u cs → w ≡ u

abbrev pub FreeIsZero : Type 0
FreeIsZero = (w : ℕ) → w < 2 ^ 64 → Signs w [] → w ≡ 0
