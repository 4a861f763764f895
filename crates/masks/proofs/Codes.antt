-- The codes of two masks: how many they are, and which stand among them. Each
-- fact goes by the lowest bits and then by the halves of the masks.
use Rattle.std.proofs.Common.{◌≡◌, ℕ, zero, suc, ◌+◌, ◌-◌, ◌*◌, ◌/◌, ◌%◌, ◌^◌, ◌<◌, ◌≤◌, Bool, true, false, ◌||◌, eqb, List, [], ◌∷◌, length, sym, refl, ap, ◌∙◌, ap₂, zero-add, arith}
use lib.Bits.{bit_or}
use lib.Count.{ones, ones_step}
use Rattle.std.proofs.lemmas.Nat.Bits.{bit_at-suc, bit_at_lowest, bit_at_or}
use Rattle.std.proofs.lemmas.Bool.{eq-eqb, ne_eqb, or_left}
use Rattle.shelf.specs.Literals.{among, stands}
use Rattle.masks.specs.Digits.{bit, codes, spelled}
use Rattle.masks.specs.Masks.{codes_of}
use Rattle.masks.proofs.Bits.{either_one, half_below}

-- one variable's part and the rest, in other terms for the digits and the halves
pub codes_by : (n v a b d e x y : ℕ) → a % 2 ≡ d → b % 2 ≡ e → a / 2 ≡ x → b / 2 ≡ y → codes (suc n) v a b ≡ spelled d (2 * v) (spelled e (2 * v + 1) (codes n (v + 1) x y))
unfolding codes
codes_by n v a b d e x y ad be ax by =
    ap₂ (λ (d e : ℕ). spelled d (2 * v) (spelled e (2 * v + 1) (codes n (v + 1) (a / 2) (b / 2)))) ad be
    ∙ ap₂ (λ (x y : ℕ). spelled d (2 * v) (spelled e (2 * v + 1) (codes n (v + 1) x y))) ax by

pub codes_none : (n v : ℕ) → codes n v 0 0 ≡ []
unfolding codes
codes_none zero v = refl
codes_none (suc n) v = codes_none n (v + 1)

-- ---- the size

spelled_length : (d c : ℕ) (cs : List ℕ) → d < 2 → length (spelled d c cs) ≡ d + length cs
spelled_length zero c cs h = sym (zero-add (length cs))
spelled_length (suc d) c cs h = omega arith

pub codes_length : (n v a b : ℕ) → a < 2 ^ n → b < 2 ^ n → length (codes n v a b) ≡ ones a + ones b
unfolding codes ones
codes_length zero v a b la lb =
    let ea : 0 ≡ a = omega arith in
    let eb : 0 ≡ b = omega arith in
    ap₂ (λ (x y : ℕ). ones x + ones y) ea eb
codes_length (suc n) v a b la lb =
    let rest = codes n (v + 1) (a / 2) (b / 2) in
    let i = codes_length n (v + 1) (a / 2) (b / 2) (half_below n a la) (half_below n b lb) in
    let p = spelled_length (a % 2) (2 * v) (spelled (b % 2) (2 * v + 1) rest) (omega arith) in
    let q = spelled_length (b % 2) (2 * v + 1) rest (omega arith) in
    omega (arith, ones_step a, ones_step b)

-- ---- what stands

spelled_other : (d c x : ℕ) (cs : List ℕ) → (c ≡ x → ⊥) → among x (spelled d c cs) ≡ among x cs
unfolding among
spelled_other zero c x cs ne = refl
spelled_other (suc d) c x cs ne = ap (λ (t : Bool). t || among x cs) (ne_eqb c x ne)

spelled_here : (d c x : ℕ) (cs : List ℕ) → d < 2 → c ≡ x → among x cs ≡ false → among x (spelled d c cs) ≡ eqb d 1
unfolding among
spelled_here zero c x cs h is none = none
spelled_here (suc d) c x cs h is none = or_left (eqb c x) (among x cs) (eq-eqb c x is) ∙ sym (eq-eqb (suc d) 1 (omega arith))

-- a code whose variable is not one of the n from v on
pub codes_outside : (n v a b x : ℕ) → (v ≤ x / 2 → x / 2 < v + n → ⊥) → among x (codes n v a b) ≡ false
unfolding codes among
codes_outside zero v a b x out = refl
codes_outside (suc n) v a b x out =
    spelled_other (a % 2) (2 * v) x _ (λ e. out (omega arith) (omega arith))
    ∙ spelled_other (b % 2) (2 * v + 1) x _ (λ e. out (omega arith) (omega arith))
    ∙ codes_outside n (v + 1) (a / 2) (b / 2) x (λ l h. out (omega arith) (omega arith))

-- the mask of a sign: 0 for literals, 1 for opposites
abbrev pub of_sign : ℕ → ℕ → ℕ → ℕ
of_sign zero a b = a
of_sign (suc s) a b = b

of_sign_half : (s a b : ℕ) → of_sign s (a / 2) (b / 2) ≡ of_sign s a b / 2
of_sign_half zero a b = refl
of_sign_half (suc s) a b = refl

pub codes_among : (n v k s a b x : ℕ) → k < n → s < 2 → x ≡ 2 * (v + k) + s → among x (codes n v a b) ≡ eqb (bit k (of_sign s a b)) 1
unfolding codes
codes_among zero v k s a b x h le is = absurd (omega arith)
codes_among (suc n) v zero zero a b x h le is =
    spelled_here (a % 2) (2 * v) x _ (omega arith) (omega arith)
    (spelled_other (b % 2) (2 * v + 1) x _ (λ e. omega arith) ∙ codes_outside n (v + 1) (a / 2) (b / 2) x (λ l g. omega arith))
    ∙ ap (λ (d : ℕ). eqb d 1) (sym (bit_at_lowest a))
codes_among (suc n) v zero (suc s) a b x h le is =
    spelled_other (a % 2) (2 * v) x _ (λ e. omega arith)
    ∙ spelled_here (b % 2) (2 * v + 1) x _ (omega arith) (omega arith) (codes_outside n (v + 1) (a / 2) (b / 2) x (λ l g. omega arith))
    ∙ ap (λ (d : ℕ). eqb d 1) (sym (bit_at_lowest b))
codes_among (suc n) v (suc k) s a b x h le is =
    spelled_other (a % 2) (2 * v) x _ (λ e. omega arith)
    ∙ spelled_other (b % 2) (2 * v + 1) x _ (λ e. omega arith)
    ∙ codes_among n (v + 1) k s (a / 2) (b / 2) x (omega arith) le (omega arith)
    ∙ ap (λ (m : ℕ). eqb (bit k m) 1) (of_sign_half s a b)
    ∙ ap (λ (d : ℕ). eqb d 1) (sym (bit_at-suc (of_sign s a b) k))

or_regroup : (p q s t : Bool) → ((p || q) || (s || t)) ≡ ((p || s) || (q || t))
or_regroup true q s t = refl
or_regroup false true true t = refl
or_regroup false true false t = refl
or_regroup false false s t = refl

either_code : (u x : ℕ) → eqb (x / 2) u ≡ (eqb x (2 * u) || eqb x (2 * u + 1))
either_code u x = grind arith

-- a variable stands where its literal or the opposite does
stands_among : (u : ℕ) (cs : List ℕ) → stands u cs ≡ (among (2 * u) cs || among (2 * u + 1) cs)
unfolding stands among
stands_among u [] = refl
stands_among u (x ∷ xs) =
    ap₂ (λ (p q : Bool). p || q) (either_code u x) (stands_among u xs)
    ∙ or_regroup (eqb x (2 * u)) (eqb x (2 * u + 1)) (among (2 * u) xs) (among (2 * u + 1) xs)

pub codes_stand : (n v k a b u : ℕ) → k < n → u ≡ v + k → stands u (codes n v a b) ≡ eqb (bit k (bit_or a b)) 1
codes_stand n v k a b u h is =
    stands_among u (codes n v a b)
    ∙ ap₂ (λ (p q : Bool). p || q) (codes_among n v k 0 a b (2 * u) h (omega arith) (omega arith)) (codes_among n v k 1 a b (2 * u + 1) h (omega arith) (omega arith))
    ∙ either_one (bit k a) (bit k b) (omega arith) (omega arith)
    ∙ ap (λ (d : ℕ). eqb d 1) (sym (bit_at_or a b k))

-- ---- what a bit tells of the codes of two masks of 64 bits

pub size_ones : (a b : ℕ) → a < 2 ^ 64 → b < 2 ^ 64 → length (codes_of a b) ≡ ones a + ones b
size_ones a b la lb = codes_length 64 1 a b la lb

pub stands_bit : (u a b : ℕ) → 1 ≤ u → u ≤ 64 → stands u (codes_of a b) ≡ eqb (bit (u - 1) (bit_or a b)) 1
stands_bit u a b low high = codes_stand 64 1 (u - 1) a b u (omega arith) (omega arith)

pub among_bit : (x a b : ℕ) → 1 ≤ x / 2 → x / 2 ≤ 64 → among x (codes_of a b) ≡ eqb (bit (x / 2 - 1) (of_sign (x % 2) a b)) 1
among_bit x a b low high = codes_among 64 1 (x / 2 - 1) (x % 2) a b x (omega arith) (omega arith) (omega arith)

pub among_none : (x a b : ℕ) → (1 ≤ x / 2 → x / 2 ≤ 64 → ⊥) → among x (codes_of a b) ≡ false
among_none x a b out = codes_outside 64 1 a b x (λ low high. out low (omega arith))
