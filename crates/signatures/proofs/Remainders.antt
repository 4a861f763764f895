-- The bits of a signature: how they come with a code that is put in, and what
-- they tell of the codes. A word is known by its bits.
use Rattle.std.proofs.Common.{◌≡◌, ℕ, ◌%◌, ◌^◌, true, ◌||◌, eqb, List, [], ◌∷◌, refl, arith}
use lib.Bits.{bit_or}
use Rattle.std.proofs.lemmas.Nat.Bits.{bit_at_or, bit_at-pow_same, bit_at-pow_other, bit_at-lt, bit_at-zero, same_from_bits_below}
use Rattle.std.proofs.lemmas.Bool.Decides.{nat_tests}
use Rattle.shelf.specs.Literals.{among, put}
use Rattle.signatures.specs.Laws.{BitTellsRemainder, OneSignature, FreeIsZero}
use Rattle.signatures.specs.Signing.{Signs, has_bit, leaves}

has_bit_marked : (r m w : ℕ) → has_bit r (bit_or w (2 ^ m)) ≡ (eqb m r || has_bit r w)
has_bit_marked r m w = grind (arith, nat_tests, bit_at_or w (2 ^ m) r, bit_at-pow_same m, bit_at-pow_other m r, bit_at-lt w r)

leaves_put : (r c : ℕ) (cs : List ℕ) → leaves r (put c cs) ≡ (eqb (c % 64) r || leaves r cs)
unfolding put leaves
leaves_put r c [] = refl
leaves_put r c (x ∷ xs) = grind (arith, nat_tests, leaves_put r c xs)

leaves_among : (c : ℕ) (cs : List ℕ) → among c cs ≡ true → leaves (c % 64) cs ≡ true
unfolding among leaves
leaves_among c [] e = e
leaves_among c (x ∷ xs) e = grind (arith, nat_tests, leaves_among c xs)

-- ---- signatures

pub signs_none : (w : ℕ) → w ≡ 0 → Signs w []
unfolding leaves
signs_none w e r h = grind (arith, nat_tests, bit_at-zero r)

pub signs_put : (w u c : ℕ) (cs : List ℕ) → Signs w cs → u ≡ bit_or w (2 ^ (c % 64)) → Signs u (put c cs)
signs_put w u c cs s marked r h = grind (arith, has_bit_marked r (c % 64) w, leaves_put r c cs, s r h)

pub bit_tells_remainder : BitTellsRemainder
bit_tells_remainder w cs s c off = grind (arith, leaves_among c cs, s (c % 64) (omega arith))

pub one_signature : OneSignature
one_signature w u cs hw hu sw su = same_from_bits_below 64 w u hw hu (λ r h. grind (arith, nat_tests, sw r h, su r h))

pub free_is_zero : FreeIsZero
free_is_zero w h s = one_signature w 0 [] h (omega arith) s (signs_none 0 refl)
