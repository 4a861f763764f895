-- One bit more in one of two masks is its code put in. The bit is d * 2 ^ k among
-- the literals and e * 2 ^ k among the opposites, where one of d and e is 1 and the
-- other 0.
use Rattle.std.proofs.Common.{◌≡◌, ℕ, zero, suc, ◌+◌, ◌*◌, ◌/◌, ◌%◌, ◌^◌, ◌<◌, ◌≤◌, ltb, List, [], ◌∷◌, length, sym, refl, ap, ◌∙◌, ap₂, one-mul, zero-mul, mul-one, arith}
use lib.Bits.{bit_and, bit_or, and_step}
use Rattle.std.proofs.lemmas.Nat.{or_lt, pow_below}
use Rattle.std.proofs.lemmas.Nat.Bits.{bit_at-suc, bit_at_lowest}
use Rattle.std.proofs.lemmas.Bool.{cond_both, cond-false, cond-true, le-ltb, lt-ltb}
use Rattle.shelf.specs.Literals.{Rising, put}
use Rattle.masks.specs.Digits.{bit, codes, spelled}
use Rattle.masks.specs.Masks.{Paired, codes_of}
use Rattle.masks.specs.Soundness.{apart_halves, codes_rise, pair_clause}
use Rattle.masks.proofs.Bits.{or_first, or_later}
use Rattle.masks.proofs.Codes.{codes_by}

put_front : (V b c : ℕ) (cs : List ℕ) → Rising V b cs → c / 2 ≤ b → put c cs ≡ c ∷ cs
unfolding put
put_front V b c [] r h = refl
put_front V b c (x ∷ xs) r h =
    let lt : c < x = omega (arith, r.0) in cond-true (ltb c x) (c ∷ x ∷ xs) (x ∷ put c xs) (lt-ltb c x lt)

put_length : (c : ℕ) (cs : List ℕ) → length (put c cs) ≡ length cs + 1
unfolding put
put_length c [] = refl
put_length c (x ∷ xs) =
    let i = put_length c xs in
    cond_both (ltb c x) (c ∷ x ∷ xs) (x ∷ put c xs) (λ l. length l ≡ length (x ∷ xs) + 1) (λ _. omega arith) (λ _. omega arith)

spelled_put : (d c x : ℕ) (cs : List ℕ) → c ≤ x → put x (spelled d c cs) ≡ spelled d c (put x cs)
unfolding put
spelled_put zero c x cs h = refl
spelled_put (suc d) c x cs h = cond-false (ltb x c) (x ∷ c ∷ cs) (c ∷ put x cs) (le-ltb x c h)

spelled_one : (d e v x : ℕ) (cs : List ℕ) → d + e ≡ 1 → 2 * v + e ≡ x → spelled d (2 * v) (spelled e (2 * v + 1) cs) ≡ x ∷ cs
spelled_one zero zero v x cs one is = absurd (omega arith)
spelled_one zero (suc e) v x cs one is = let y : 2 * v + 1 ≡ x = omega arith in ap (λ (c : ℕ). c ∷ cs) y
spelled_one (suc d) zero v x cs one is = let y : 2 * v ≡ x = omega arith in ap (λ (c : ℕ). c ∷ cs) y
spelled_one (suc d) (suc e) v x cs one is = absurd (omega arith)

or_first_set : (m d : ℕ) → d ≤ 1 → bit 0 m ≡ 0 → (bit_or m (d * 1) % 2 ≡ d) × (bit_or m (d * 1) / 2 ≡ m / 2)
or_first_set m d le off =
    let f = or_first m d le in
    let e : bit_or m (d * 1) ≡ bit_or m d = ap (bit_or m) (mul-one d) in
    let z = bit_at_lowest m in
    (omega arith, omega arith)

pub codes_put : (n v k d e a b x : ℕ) → k < n → d + e ≡ 1 → bit_and a b ≡ 0 → bit k a ≡ 0 → bit k b ≡ 0 → 2 * (v + k) + e ≡ x → codes n v (bit_or a (d * 2 ^ k)) (bit_or b (e * 2 ^ k)) ≡ put x (codes n v a b)
codes_put zero v k d e a b x h one apart offa offb is = absurd (omega arith)
codes_put (suc n) v zero d e a b x h one apart offa offb is =
    let rest = codes n (v + 1) (a / 2) (b / 2) in
    let fa = or_first_set a d (omega arith) offa in
    let fb = or_first_set b e (omega arith) offb in
    let za = bit_at_lowest a in
    let zb = bit_at_lowest b in
    let rises : Rising (v + n) v rest = codes_rise (v + n) v n (v + 1) (a / 2) (b / 2) (apart_halves a b apart).0 (omega arith) (omega arith) in
    codes_by n v (bit_or a (d * 1)) (bit_or b (e * 1)) d e (a / 2) (b / 2) fa.0 fb.0 fa.1 fb.1
    ∙ spelled_one d e v x rest one (omega arith)
    ∙ sym (put_front (v + n) v x rest rises (omega arith))
    ∙ ap (put x) (sym (codes_by n v a b 0 0 (a / 2) (b / 2) (omega arith) (omega arith) refl refl))
codes_put (suc n) v (suc k) d e a b x h one apart offa offb is =
    let la = or_later a d k in
    let lb = or_later b e k in
    let rest = codes n (v + 1) (a / 2) (b / 2) in
    codes_by n v (bit_or a (d * 2 ^ suc k)) (bit_or b (e * 2 ^ suc k)) (a % 2) (b % 2) (bit_or (a / 2) (d * 2 ^ k)) (bit_or (b / 2) (e * 2 ^ k)) la.0 lb.0 la.1 lb.1
    ∙ ap (λ (l : List ℕ). spelled (a % 2) (2 * v) (spelled (b % 2) (2 * v + 1) l))
    (codes_put n (v + 1) k d e (a / 2) (b / 2) x (omega arith) one (apart_halves a b apart).0 (sym (bit_at-suc a k) ∙ offa) (sym (bit_at-suc b k) ∙ offb) (omega arith))
    ∙ ap (spelled (a % 2) (2 * v)) (sym (spelled_put (b % 2) (2 * v + 1) x rest (omega arith)))
    ∙ sym (spelled_put (a % 2) (2 * v) x (spelled (b % 2) (2 * v + 1) rest) (omega arith))
    ∙ ap (put x) (sym (codes_by n v a b (a % 2) (b % 2) (a / 2) (b / 2) refl refl refl refl))

apart_put : (k d e a b : ℕ) → d + e ≡ 1 → bit_and a b ≡ 0 → bit k a ≡ 0 → bit k b ≡ 0 → bit_and (bit_or a (d * 2 ^ k)) (bit_or b (e * 2 ^ k)) ≡ 0
apart_put zero d e a b one apart offa offb =
    let fa = or_first_set a d (omega arith) offa in
    let fb = or_first_set b e (omega arith) offb in
    let s = and_step (bit_or a (d * 1)) (bit_or b (e * 1)) in
    let h : bit_and (bit_or a (d * 1) / 2) (bit_or b (e * 1) / 2) ≡ 0 = ap₂ bit_and fa.1 fb.1 ∙ (apart_halves a b apart).0 in
    omega arith
apart_put (suc k) d e a b one apart offa offb =
    let la = or_later a d k in
    let lb = or_later b e k in
    let s = and_step (bit_or a (d * 2 ^ suc k)) (bit_or b (e * 2 ^ suc k)) in
    let i = apart_put k d e (a / 2) (b / 2) one (apart_halves a b apart).0 (sym (bit_at-suc a k) ∙ offa) (sym (bit_at-suc b k) ∙ offb) in
    let h : bit_and (bit_or a (d * 2 ^ suc k) / 2) (bit_or b (e * 2 ^ suc k) / 2) ≡ 0 = ap₂ bit_and la.1 lb.1 ∙ i in
    let m = (apart_halves a b apart).1 in
    omega arith

bit_fits : (d k : ℕ) → d ≤ 1 → k < 64 → d * 2 ^ k < 2 ^ 64
bit_fits zero k le h = let z = zero-mul (2 ^ k) in omega arith
bit_fits (suc d) k le h =
    let e : suc d ≡ 1 = omega arith in
    let o : suc d * 2 ^ k ≡ 2 ^ k = ap (λ (x : ℕ). x * 2 ^ k) e ∙ one-mul (2 ^ k) in
    let p : 2 ^ k < 2 ^ 64 = pow_below k 64 h in
    omega arith

pub pair_put : (k d e a b : ℕ) → k < 64 → d + e ≡ 1 → Paired a b → bit k a ≡ 0 → bit k b ≡ 0 → Paired (bit_or a (d * 2 ^ k)) (bit_or b (e * 2 ^ k))
pair_put k d e a b h one pair offa offb =
    record {
      literals_fit = or_lt 64 a (d * 2 ^ k) pair.literals_fit (bit_fits d k (omega arith) h);
      opposites_fit = or_lt 64 b (e * 2 ^ k) pair.opposites_fit (bit_fits e k (omega arith) h);
      apart = apart_put k d e a b one pair.apart offa offb;
    }

-- a clause that lacks a variable has room for it
pub room_left : (k a b : ℕ) → k < 64 → Paired a b → bit k a ≡ 0 → bit k b ≡ 0 → length (codes_of a b) < 64
room_left k a b h pair offa offb =
    let x = 2 * (1 + k) + 0 in
    let more = codes_put 64 1 k 1 0 a b x h refl pair.apart offa offb refl in
    let short = (pair_clause (bit_or a (1 * 2 ^ k)) (bit_or b (0 * 2 ^ k)) (pair_put k 1 0 a b h refl pair offa offb)).short in
    let one = put_length x (codes_of a b) in
    let same : length (codes_of (bit_or a (1 * 2 ^ k)) (bit_or b (0 * 2 ^ k))) ≡ length (put x (codes_of a b)) = ap length more in
    omega arith
