-- Single bits of a mask: what halving leaves of them, what `&` and `|` make of
-- them, and that they tell two masks apart.
use Rattle.std.proofs.Common.{◌≡◌, ℕ, zero, suc, ◌-◌, ◌*◌, ◌/◌, ◌%◌, ◌^◌, ◌<◌, ◌≤◌, max, false, ◌||◌, eqb, sym, ap, ◌∙◌, pow-suc, arith}
use native.Mathlib.Nat.{zero-max}
use lib.Bits.{bit_and, bit_or, and_self, and_step, or_step, or_zero_r, shifted_half, shifted_even}
use Rattle.std.proofs.lemmas.Nat.Bits.{bit_at_and, bit_at_or}
use Rattle.std.proofs.lemmas.Bool.{eq-eqb, eqb-false}
use Rattle.masks.specs.Digits.{bit}

pub half_below : (n m : ℕ) → m < 2 ^ suc n → m / 2 < 2 ^ n
half_below n m h = omega (arith, pow-suc 2 n)

-- the lowest bit set where d is 1
pub or_first : (m d : ℕ) → d ≤ 1 → (bit_or m d % 2 ≡ max (m % 2) d) × (bit_or m d / 2 ≡ m / 2)
or_first m d h =
    let s = or_step m d in
    let z : d / 2 ≡ 0 = omega arith in
    let e : bit_or (m / 2) (d / 2) ≡ m / 2 = ap (bit_or (m / 2)) z ∙ or_zero_r (m / 2) in
    (omega arith, omega arith)

-- a higher bit set where d is 1
pub or_later : (m d k : ℕ) → (bit_or m (d * 2 ^ suc k) % 2 ≡ m % 2) × (bit_or m (d * 2 ^ suc k) / 2 ≡ bit_or (m / 2) (d * 2 ^ k))
or_later m d k =
    let s = or_step m (d * 2 ^ suc k) in
    let e : bit_or (m / 2) (d * 2 ^ suc k / 2) ≡ bit_or (m / 2) (d * 2 ^ k) = ap (bit_or (m / 2)) (shifted_half d k) in
    let z = shifted_even d k in
    (omega arith, omega arith)

-- `m & (m - 1)` of an odd m, and of one that is even and not 0
pub lowest_odd : (m : ℕ) → m % 2 ≡ 1 → (bit_and m (m - 1) % 2 ≡ 0) × (bit_and m (m - 1) / 2 ≡ m / 2)
lowest_odd m odd =
    let s = and_step m (m - 1) in
    let h : (m - 1) / 2 ≡ m / 2 = omega arith in
    let e : bit_and (m / 2) ((m - 1) / 2) ≡ m / 2 = ap (bit_and (m / 2)) h ∙ and_self (m / 2) in
    (omega arith, omega arith)

pub lowest_even : (m : ℕ) → 0 < m → m % 2 ≡ 0 → (bit_and m (m - 1) % 2 ≡ 0) × (bit_and m (m - 1) / 2 ≡ bit_and (m / 2) (m / 2 - 1))
lowest_even m some even =
    let s = and_step m (m - 1) in
    let h : (m - 1) / 2 ≡ m / 2 - 1 = omega arith in
    let e : bit_and (m / 2) ((m - 1) / 2) ≡ bit_and (m / 2) (m / 2 - 1) = ap (bit_and (m / 2)) h in
    (omega arith, omega arith)

pub either_one : (x y : ℕ) → x < 2 → y < 2 → (eqb x 1 || eqb y 1) ≡ eqb (max x y) 1
either_one zero y hx hy = ap (λ (z : ℕ). eqb z 1) (sym (zero-max y))
either_one (suc x) y hx hy =
    let e : suc x ≡ 1 = omega arith in
    ap (λ (z : ℕ). eqb z 1 || eqb y 1) e ∙ sym (eq-eqb (max (suc x) y) 1 (omega arith))

pub neither_bit : (k a b : ℕ) → eqb (bit k (bit_or a b)) 1 ≡ false → (bit k a ≡ 0) × (bit k b ≡ 0)
neither_bit k a b h =
    let e = bit_at_or a b k in
    let ne = eqb-false (bit k (bit_or a b)) 1 h in
    (omega arith, omega arith)

pub apart_bit : (k a b : ℕ) → bit_and a b ≡ 0 → bit k b ≡ 1 → bit k a ≡ 0
apart_bit k a b apart on =
    let e = bit_at_and a b k in
    let z : bit k (bit_and a b) ≡ bit k 0 = ap (bit k) apart in
    let o : bit k 0 ≡ 0 = omega arith in
    omega arith
