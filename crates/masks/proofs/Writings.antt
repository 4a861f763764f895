-- A clause is written in one way only: masks with equal codes are equal, and the
-- two laws that follow.
use Rattle.std.proofs.Common.{◌≡◌, ℕ, ◌+◌, ◌*◌, ◌/◌, ◌%◌, ◌^◌, ◌<◌, ◌≤◌, eqb, length, get_or, take, sym, refl, ap, ◌∙◌, inl, inr, arith}
use Rattle.std.proofs.lemmas.List.{ext_get_or, get_or-take, length-take-le}
use Rattle.std.proofs.lemmas.Nat.Bits.{same_from_bits_below}
use Rattle.std.proofs.lemmas.Bool.{cases_eq, eq-eqb, eqb-true}
use Rattle.shelf.specs.Literals.{among}
use Rattle.shelf.specs.View.{View, clause}
use Rattle.masks.specs.Digits.{bit}
use Rattle.masks.specs.Laws.{FreeIsZero, OneWriting}
use Rattle.masks.specs.Masks.{Paired, codes_at, codes_of, mask_at, used}
use Rattle.shelf.specs.Holding.{held_at}
use Rattle.masks.proofs.Codes.{codes_among, codes_none, of_sign}
use Rattle.masks.proofs.Masking.{empty_pair}

same_bit : (x y : ℕ) → x < 2 → y < 2 → eqb x 1 ≡ eqb y 1 → x ≡ y
same_bit x y hx hy e =
    elim (cases_eq x 1) as (λ _. x ≡ y) [
      | inl one ↦ let o = eqb-true y 1 (sym e ∙ eq-eqb x 1 one) in omega arith
      | inr ne ↦ elim (cases_eq y 1) as (λ _. x ≡ y) [
        | inl one ↦ let o = eqb-true x 1 (e ∙ eq-eqb y 1 one) in omega arith
        | inr no_one ↦ omega arith
      ]
    ]

same_codes : (s a b x y : ℕ) → s < 2 → of_sign s a b < 2 ^ 64 → of_sign s x y < 2 ^ 64 → codes_of a b ≡ codes_of x y → of_sign s a b ≡ of_sign s x y
same_codes s a b x y sign la lx e =
    same_from_bits_below 64 (of_sign s a b) (of_sign s x y) la lx
    (λ k h.
    let c = 2 * (1 + k) + s in
    same_bit (bit k (of_sign s a b)) (bit k (of_sign s x y)) (omega arith) (omega arith)
    (sym (codes_among 64 1 k s a b c h sign refl) ∙ ap (among c) e ∙ codes_among 64 1 k s x y c h sign refl))

same_masks : (a b x y : ℕ) → Paired a b → Paired x y → codes_of a b ≡ codes_of x y → (a ≡ x) × (b ≡ y)
same_masks a b x y p q e = (
  same_codes 0 a b x y (omega arith) p.literals_fit q.literals_fit e,
  same_codes 1 a b x y (omega arith) p.opposites_fit q.opposites_fit e,
)

pub free_is_zero : FreeIsZero
free_is_zero P ws m p h e =
    let z = same_masks (mask_at ws p 0) (mask_at ws p 1) 0 0 (m.each p h) empty_pair (sym (held_at (codes_at ws) P p h) ∙ e ∙ sym (codes_none 64 1)) in
    record { literals = z.0; opposites = z.1 }

pub one_writing : OneWriting
one_writing P ws us m n e =
    let lw : length (take (used P) ws) ≡ used P = length-take-le (used P) ws m.room in
    let lu : length (take (used P) us) ≡ used P = length-take-le (used P) us n.room in
    let pairs : (p : ℕ) → p < P → (mask_at ws p 0 ≡ mask_at us p 0) × (mask_at ws p 1 ≡ mask_at us p 1) = λ p h.
    same_masks (mask_at ws p 0) (mask_at ws p 1) (mask_at us p 0) (mask_at us p 1) (m.each p h) (n.each p h)
    (sym (held_at (codes_at ws) P p h) ∙ ap (λ (v : View). clause v p) e ∙ held_at (codes_at us) P p h) in
    let masks : (p s : ℕ) → p < P → s ≤ 1 → mask_at ws p s ≡ mask_at us p s = λ p s h le.
    elim (cases_eq s 0) as (λ _. mask_at ws p s ≡ mask_at us p s) [
      | inl z ↦ ap (mask_at ws p) z ∙ (pairs p h).0 ∙ ap (mask_at us p) (sym z)
      | inr ne ↦ let o : s ≡ 1 = omega arith in ap (mask_at ws p) o ∙ (pairs p h).1 ∙ ap (mask_at us p) (sym o)
    ] in
    ext_get_or 0 (take (used P) ws) (take (used P) us) (lw ∙ sym lu)
    (λ k h.
    let lt : k < used P = omega arith in
    let i : k ≡ 2 * (k / 2) + k % 2 = omega arith in
    get_or-take (used P) ws k 0 lt
    ∙ ap (λ (x : ℕ). get_or ws x 0) i
    ∙ masks (k / 2) (k % 2) (omega arith) (omega arith)
    ∙ ap (λ (x : ℕ). get_or us x 0) (sym i)
    ∙ sym (get_or-take (used P) us k 0 lt))
