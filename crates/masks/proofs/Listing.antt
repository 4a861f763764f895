-- The codes of two masks one by one: the variables that are set in either, lowest
-- first, each with its sign; and the lowest of a mask's variables with the rest.
use Rattle.std.proofs.Common.{◌≡◌, ℕ, zero, suc, ◌+◌, ◌-◌, ◌*◌, ◌/◌, ◌%◌, ◌^◌, ◌<◌, ◌≤◌, max, cond, eqb, List, [], ◌∷◌, map, get_or, drop, sym, refl, ap, ◌∙◌, ap₂, inl, inr, add-zero, arith}
use native.Mathlib.Nat.{max-zero, zero-max}
use lib.Bits.{bit_and, bit_or, or_step}
use lib.Count.{count_trailing_zeros, under}
use Rattle.std.proofs.lemmas.List.{drop-drop, drop-map, get_or-drop}
use Rattle.std.proofs.lemmas.Nat.Bits.{bit_at-suc, bit_at_lowest}
use Rattle.std.proofs.lemmas.Bool.{cases_eq, cond-false, cond-true, eq-eqb, ne_eqb}
use Rattle.masks.specs.Digits.{bit, codes, spelled, variables}
use Rattle.masks.specs.Masks.{codes_of}
use Rattle.masks.proofs.Bits.{apart_bit, half_below, lowest_even, lowest_odd}

-- one variable and the rest, in other terms for the digit and the half
variables_by : (n v m d x : ℕ) → m % 2 ≡ d → m / 2 ≡ x → variables (suc n) v m ≡ spelled d v (variables n (v + 1) x)
unfolding variables
variables_by n v m d x md mx = ap₂ (λ (d x : ℕ). spelled d v (variables n (v + 1) x)) md mx

pub variables_none : (n v : ℕ) → variables n v 0 ≡ []
unfolding variables
variables_none zero v = refl
variables_none (suc n) v = variables_none n (v + 1)

trailing_by : (n m d : ℕ) → m % 2 ≡ d → count_trailing_zeros (suc n) m ≡ under d (count_trailing_zeros n (m / 2))
unfolding count_trailing_zeros
trailing_by n m d e = ap (λ (d : ℕ). under d (count_trailing_zeros n (m / 2))) e

-- the lowest variable is at the trailing zeros, and `m & (m - 1)` has the others
pub variables_first : (n v m : ℕ) → 0 < m → m < 2 ^ n → variables n v m ≡ (v + count_trailing_zeros n m) ∷ variables n v (bit_and m (m - 1))
variables_first zero v m some fits = absurd (omega arith)
variables_first (suc n) v m some fits =
    elim (cases_eq (m % 2) 0) as (λ _. variables (suc n) v m ≡ (v + count_trailing_zeros (suc n) m) ∷ variables (suc n) v (bit_and m (m - 1))) [
      | inl even ↦
          let low = lowest_even m some even in
          let e = trailing_by n m 0 even in
          let t : (v + 1) + count_trailing_zeros n (m / 2) ≡ v + count_trailing_zeros (suc n) m = omega arith in
          variables_by n v m 0 (m / 2) even refl
          ∙ variables_first n (v + 1) (m / 2) (omega arith) (half_below n m fits)
          ∙ ap₂ (λ (u : ℕ) (us : List ℕ). u ∷ us) t (sym (variables_by n v (bit_and m (m - 1)) 0 (bit_and (m / 2) (m / 2 - 1)) low.0 low.1))
      | inr odd ↦
          let one : m % 2 ≡ 1 = omega arith in
          let low = lowest_odd m one in
          let e = trailing_by n m 1 one in
          let t : v ≡ v + count_trailing_zeros (suc n) m = omega arith in
          variables_by n v m 1 (m / 2) one refl
          ∙ ap₂ (λ (u : ℕ) (us : List ℕ). u ∷ us) t (sym (variables_by n v (bit_and m (m - 1)) 0 (m / 2) low.0 low.1))
    ]

-- ---- a mask without the lowest i of its variables

drop_empty : (n : ℕ) → drop {A = ℕ} n [] ≡ []
drop_empty zero = refl
drop_empty (suc n) = refl

pub lowest_cleared : (left i : ℕ) (vs : List ℕ) → 0 < left → left < 2 ^ 64 → variables 64 1 left ≡ drop i vs → variables 64 1 (bit_and left (left - 1)) ≡ drop (i + 1) vs
lowest_cleared left i vs some fits is = ap (drop 1) (sym (variables_first 64 1 left some fits) ∙ is) ∙ drop-drop 1 i vs

pub none_left : (left i k : ℕ) (vs : List ℕ) → left ≡ 0 → i ≤ k → variables 64 1 left ≡ drop i vs → variables 64 1 0 ≡ drop k vs
none_left left i k vs none le is =
    let e : i + (k - i) ≡ k = omega arith in
    let empty : drop i vs ≡ [] = sym is ∙ ap (variables 64 1) none ∙ variables_none 64 1 in
    variables_none 64 1 ∙ sym (drop_empty (k - i)) ∙ ap (drop (k - i)) (sym empty) ∙ drop-drop (k - i) i vs ∙ ap (λ (n : ℕ). drop n vs) e

-- ---- variables with their signs

spelled_signed : (d e v : ℕ) (f : ℕ → ℕ) (cs vs : List ℕ) → d < 2 → e < 2 → (d ≡ 1 → f v ≡ 2 * v) → (e ≡ 1 → f v ≡ 2 * v + 1) → cs ≡ map f vs → spelled d (2 * v) (spelled e (2 * v + 1) cs) ≡ map f (spelled (max d e) v vs)
spelled_signed zero zero v f cs vs hd he on off rest = rest
spelled_signed zero (suc e) v f cs vs hd he on off rest =
    ap₂ (λ (u : ℕ) (us : List ℕ). u ∷ us) (sym (off (omega arith))) rest ∙ ap (λ (m : ℕ). map f (spelled m v vs)) (sym (zero-max (suc e)))
spelled_signed (suc d) zero v f cs vs hd he on off rest =
    ap₂ (λ (u : ℕ) (us : List ℕ). u ∷ us) (sym (on (omega arith))) rest ∙ ap (λ (m : ℕ). map f (spelled m v vs)) (sym (max-zero (suc d)))
spelled_signed (suc d) (suc e) v f cs vs hd he on off rest =
    let p = on (omega arith) in
    let q = off (omega arith) in
    absurd (omega arith)

codes_signed : (n v a b : ℕ) (f : ℕ → ℕ) → ((k : ℕ) → bit k a ≡ 1 → f (v + k) ≡ 2 * (v + k)) → ((k : ℕ) → bit k b ≡ 1 → f (v + k) ≡ 2 * (v + k) + 1) → codes n v a b ≡ map f (variables n v (bit_or a b))
unfolding codes variables
codes_signed zero v a b f on off = refl
codes_signed (suc n) v a b f on off =
    let s = or_step a b in
    let here : v + 0 ≡ v = add-zero v in
    let next : (k : ℕ) → v + suc k ≡ (v + 1) + k = λ k. omega arith in
    spelled_signed (a % 2) (b % 2) v f (codes n (v + 1) (a / 2) (b / 2)) (variables n (v + 1) (bit_or (a / 2) (b / 2))) (omega arith) (omega arith)
    (λ e. ap f (sym here) ∙ on 0 (bit_at_lowest a ∙ e) ∙ ap (λ (u : ℕ). 2 * u) here)
    (λ e. ap f (sym here) ∙ off 0 (bit_at_lowest b ∙ e) ∙ ap (λ (u : ℕ). 2 * u + 1) here)
    (codes_signed n (v + 1) (a / 2) (b / 2) f
    (λ k e. ap f (sym (next k)) ∙ on (suc k) (bit_at-suc a k ∙ e) ∙ ap (λ (u : ℕ). 2 * u) (next k))
    (λ k e. ap f (sym (next k)) ∙ off (suc k) (bit_at-suc b k ∙ e) ∙ ap (λ (u : ℕ). 2 * u + 1) (next k)))
    ∙ ap (map f) (sym (variables_by n v (bit_or a b) (max (a % 2) (b % 2)) (bit_or (a / 2) (b / 2)) (omega arith) (omega arith)))

-- the code of the variable u: of its literal where its bit is set in a, else of the
-- opposite
abbrev signed : ℕ → ℕ → ℕ
signed a u = cond (eqb (bit (u - 1) a) 1) (2 * u) (2 * u + 1)

signed_literal : (a k : ℕ) → bit k a ≡ 1 → signed a (1 + k) ≡ 2 * (1 + k)
signed_literal a k on =
    let e : 1 + k - 1 ≡ k = omega arith in
    cond-true (eqb (bit (1 + k - 1) a) 1) _ _ (ap (λ (j : ℕ). eqb (bit j a) 1) e ∙ eq-eqb (bit k a) 1 on)

signed_opposite : (a k : ℕ) → (bit k a ≡ 1 → ⊥) → signed a (1 + k) ≡ 2 * (1 + k) + 1
signed_opposite a k off =
    let e : 1 + k - 1 ≡ k = omega arith in
    cond-false (eqb (bit (1 + k - 1) a) 1) _ _ (ap (λ (j : ℕ). eqb (bit j a) 1) e ∙ ne_eqb (bit k a) 1 off)

-- `left` is the union of two masks without the lowest k of its bits
module _ (a b k left : ℕ) (is : variables 64 1 left ≡ drop k (variables 64 1 (bit_or a b))) (apart : bit_and a b ≡ 0) where
  all : codes_of a b ≡ map (signed a) (variables 64 1 (bit_or a b))
  all = codes_signed 64 1 a b (signed a) (signed_literal a) (λ j e. signed_opposite a j (λ o. let z = apart_bit j a b apart e in omega arith))

  code_at : get_or (codes_of a b) k 0 ≡ get_or (map (signed a) (variables 64 1 left)) 0 0
  code_at =
      let vs = variables 64 1 (bit_or a b) in
      let e : k ≡ k + 0 = sym (add-zero k) in
      ap (λ (cs : List ℕ). get_or cs k 0) all
      ∙ ap (λ (i : ℕ). get_or (map (signed a) vs) i 0) e
      ∙ sym (get_or-drop k (map (signed a) vs) 0 0)
      ∙ ap (λ (cs : List ℕ). get_or cs 0 0) (drop-map (signed a) k vs ∙ ap (map (signed a)) (sym is))

  pub code_past : left ≡ 0 → 0 ≡ get_or (codes_of a b) k 0
  code_past none =
      sym (code_at ∙ ap (λ (vs : List ℕ). get_or (map (signed a) vs) 0 0) (ap (variables 64 1) none ∙ variables_none 64 1))

  code_first : 0 < left → left < 2 ^ 64 → get_or (codes_of a b) k 0 ≡ signed a (1 + count_trailing_zeros 64 left)
  code_first some fits = code_at ∙ ap (λ (vs : List ℕ). get_or (map (signed a) vs) 0 0) (variables_first 64 1 left some fits)

  pub code_literal : 0 < left → left < 2 ^ 64 → bit (count_trailing_zeros 64 left) a ≡ 1 → 2 * (count_trailing_zeros 64 left + 1) ≡ get_or (codes_of a b) k 0
  code_literal some fits on =
      let t = count_trailing_zeros 64 left in
      let e : 2 * (t + 1) ≡ 2 * (1 + t) = omega arith in
      e ∙ sym (code_first some fits ∙ signed_literal a t on)

  pub code_opposite : 0 < left → left < 2 ^ 64 → (bit (count_trailing_zeros 64 left) a ≡ 1 → ⊥) → 2 * (count_trailing_zeros 64 left + 1) + 1 ≡ get_or (codes_of a b) k 0
  code_opposite some fits off =
      let t = count_trailing_zeros 64 left in
      let e : 2 * (t + 1) + 1 ≡ 2 * (1 + t) + 1 = omega arith in
      e ∙ sym (code_first some fits ∙ signed_opposite a t off)
