-- The proof that a shelf of masks in order is sound, which its `impl` of `Shelf`
-- hands on.
--
--   spelled_rises  a code spelled before a rising list
--   codes_rise     the codes of two masks with no bit in common rise
--   rising_short   a rising list has no more codes than there are variables
--   sound_masks    all that `Sound` asks
use Rattle.std.specs.Prelude.{◌≡◌, ℕ, zero, suc, ◌+◌, ◌-◌, ◌*◌, ◌/◌, ◌%◌, ◌<◌, ◌≤◌, min, List, [], ◌∷◌, length, bit_and}
use Rattle.std.proofs.Common.{sym, subst, arith}
use Rattle.std.specs.Int.Bits.{and_step}
use Rattle.shelf.specs.Holding.{held_at, held_length}
use Rattle.shelf.specs.Literals.{Rising}
use Rattle.shelf.specs.View.{Clause, Sound}
use Rattle.masks.specs.Digits.{codes, spelled}
use Rattle.masks.specs.Masks.{Masks, Paired, codes_at, codes_of, masks_view}

pub apart_halves : (a b : ℕ) → bit_and a b ≡ 0 → (bit_and (a / 2) (b / 2) ≡ 0) × (min (a % 2) (b % 2) ≡ 0)
apart_halves a b e = let s = and_step a b in (omega arith, omega arith)

-- the code of one variable, in either sign or in none
spelled_rises : (d e V b v : ℕ) (cs : List ℕ) → min d e ≡ 0 → b < v → v ≤ V → Rising V b cs → Rising V v cs → Rising V b (spelled d (2 * v) (spelled e (2 * v + 1) cs))
spelled_rises zero zero V b v cs apart low high rest above = rest
spelled_rises zero (suc e) V b v cs apart low high rest above =
    let u : v ≡ (2 * v + 1) / 2 = omega arith in (omega arith, omega arith, subst (λ (x : ℕ). Rising V x cs) u above)
spelled_rises (suc d) zero V b v cs apart low high rest above =
    let u : v ≡ 2 * v / 2 = omega arith in (omega arith, omega arith, subst (λ (x : ℕ). Rising V x cs) u above)
spelled_rises (suc d) (suc e) V b v cs apart low high rest above = absurd (omega arith)

pub codes_rise : (V b n v x y : ℕ) → bit_and x y ≡ 0 → b < v → v + n ≤ V + 1 → Rising V b (codes n v x y)
unfolding codes
codes_rise V b zero v x y apart low high = tt
codes_rise V b (suc n) v x y apart low high =
    let h = apart_halves x y apart in
    spelled_rises (x % 2) (y % 2) V b v (codes n (v + 1) (x / 2) (y / 2)) h.1 low (omega arith)
    (codes_rise V b n (v + 1) (x / 2) (y / 2) h.0 (omega arith) (omega arith))
    (codes_rise V v n (v + 1) (x / 2) (y / 2) h.0 (omega arith) (omega arith))

pub rising_short : (V b : ℕ) (cs : List ℕ) → Rising V b cs → length cs ≤ V - b
rising_short V b [] r = omega arith
rising_short V b (c ∷ cs) r = let s = rising_short V (c / 2) cs r.2 in omega (arith, r.0, r.1)

pub pair_clause : (a b : ℕ) → Paired a b → Clause 64 64 (codes_of a b)
pair_clause a b p =
    let r : Rising 64 0 (codes_of a b) = codes_rise 64 0 64 1 a b p.apart (omega arith) (omega arith) in
    record { rises = r; short = rising_short 64 0 (codes_of a b) r }

pub sound_masks : (P : ℕ) (ws : List ℕ) → Masks P ws → Sound (masks_view P ws)
sound_masks P ws m =
    record {
      count = held_length (codes_at ws) P;
      places_few = m.places_few;
      highest_low = omega arith;
      highest_high = omega arith;
      longest_low = omega arith;
      longest_high = omega arith;
      clauses = λ p h. subst (Clause 64 64) (sym (held_at (codes_at ws) P p h)) (pair_clause _ _ (m.each p h));
    }
