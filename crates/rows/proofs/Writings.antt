-- A clause is written in one way only: rows of zeros, rows with equal codes, and
-- the two laws that follow.
use Rattle.std.proofs.Common.{◌≡◌, ℕ, zero, suc, ◌+◌, ◌-◌, ◌*◌, ◌/◌, ◌%◌, ◌<◌, ◌≤◌, List, [], length, get_or, take, drop, replicate, sym, ap, ◌∙◌, subst, inl, inr, ⊎_elim, mod-lt, arith}
use Rattle.std.proofs.lemmas.Nat.{div-add-mod', div_below}
use Rattle.std.proofs.lemmas.List.{get_or-replicate, get_or_past, get_or-take, length-replicate, length-take-le, ext_get_or, drop-take, take-take, take-replicate, drop-replicate}
use Rattle.std.proofs.lemmas.Bool.{cases_lt}
use Rattle.shelf.specs.Literals.{Rising}
use Rattle.shelf.specs.View.{View, clause}
use Rattle.rows.specs.Laws.{FreeIsZero, OneWriting}
use Rattle.rows.specs.Rows.{codes_at, codes_of, row_at, Row, used}
use Rattle.shelf.specs.Holding.{held_at}
use Rattle.rows.proofs.Rowing.{codes_length, codes_getD, codes_none, row_length, row_getD, row_fits}

pub repeats_at : {A : Type 0} (d : A) (n k : ℕ) → get_or (replicate n d) k d ≡ d
repeats_at d n k =
    elim (cases_lt k n) [
      | inl h ↦ get_or-replicate n k d d h
      | inr h ↦ let l = length-replicate n d in get_or_past (replicate n d) k d (omega arith)
    ]

pub zeros_codes : (n : ℕ) → codes_of (replicate n 0) ≡ []
zeros_codes n = codes_none (replicate n 0) (repeats_at 0 n 0)

pub zeros_row : (V L n : ℕ) → Row V L (replicate n 0)
zeros_row V L n =
    let z = repeats_at {A = ℕ} 0 n 0 in
    record { count = omega arith; rises = subst (Rising V 0) (sym (zeros_codes n)) tt; blank = λ k h. repeats_at 0 n k }

-- the row of a place among words that are all 0
pub zeros_row_at : (w n : ℕ) (ws : List ℕ) (p : ℕ) → take n ws ≡ replicate n 0 → p * w + w ≤ n → row_at w ws p ≡ replicate w 0
unfolding row_at
zeros_row_at w n ws p e le =
    let m : p * w + w - p * w ≡ w = omega arith in
    sym (drop-take (p * w) w ws)
    ∙ ap (drop (p * w)) (sym (take-take (p * w + w) n ws le) ∙ ap (take (p * w + w)) e ∙ take-replicate (p * w + w) n 0 le)
    ∙ drop-replicate (p * w) (p * w + w) 0
    ∙ ap (λ (x : ℕ). replicate x 0) m

pub same_rows : (V L : ℕ) (row other : List ℕ) → length row ≡ L + 1 → length other ≡ L + 1 → Row V L row → Row V L other → codes_of row ≡ codes_of other → row ≡ other
same_rows V L row other lr lo r o e =
    let cr = codes_length row (omega (arith, r.count)) in
    let co = codes_length other (omega (arith, o.count)) in
    let n : get_or row 0 0 ≡ get_or other 0 0 = sym cr ∙ ap length e ∙ co in
    let at : (k : ℕ) → get_or row k 0 ≡ get_or other k 0 = λ k.
    elim k as (λ i. get_or row i 0 ≡ get_or other i 0) [
      | zero ↦ n
      | suc j ↦ subst (λ (i : ℕ). get_or row i 0 ≡ get_or other i 0) (let s : j + 1 ≡ suc j = omega arith in s)
          (⊎_elim
          (λ h. sym (codes_getD row j h) ∙ ap (λ (l : List ℕ). get_or l j 0) e ∙ codes_getD other j (omega arith))
          (λ h. r.blank (j + 1) (omega arith) ∙ sym (o.blank (j + 1) (omega arith)))
          (cases_lt j (get_or row 0 0)))
    ] in
    ext_get_or 0 row other (lr ∙ sym lo) (λ k h. at k)

pub free_is_zero : FreeIsZero
free_is_zero P V L ws r p h e =
    same_rows V L (row_at (L + 1) ws p) (replicate (L + 1) 0) (row_length (L + 1) ws p (row_fits r p h)) (length-replicate (L + 1) 0) (r.each p h) (zeros_row V L (L + 1))
    (sym (held_at (codes_at L ws) P p h) ∙ e ∙ sym (zeros_codes (L + 1)))

pub one_writing : OneWriting
one_writing P V L ws us r s e =
    let w = L + 1 in
    let lw : length (take (used P L) ws) ≡ used P L = length-take-le (used P L) ws r.room in
    let lu : length (take (used P L) us) ≡ used P L = length-take-le (used P L) us s.room in
    let rows : (p : ℕ) → p < P → row_at w ws p ≡ row_at w us p = λ p h.
    same_rows V L (row_at w ws p) (row_at w us p) (row_length w ws p (row_fits r p h)) (row_length w us p (row_fits s p h)) (r.each p h) (s.each p h)
    (sym (held_at (codes_at L ws) P p h) ∙ ap (λ (v : View). clause v p) e ∙ held_at (codes_at L us) P p h) in
    ext_get_or 0 (take (used P L) ws) (take (used P L) us) (lw ∙ sym lu)
    (λ k h.
    let lt : k < used P L = omega arith in
    let p = k / w in
    let c = k % w in
    let col : c < w = mod-lt k (omega arith) in
    let e' : p * w + c ≡ k = div-add-mod' k w in
    get_or-take (used P L) ws k 0 lt
    ∙ ap (λ (i : ℕ). get_or ws i 0) (sym e')
    ∙ sym (row_getD w ws p c col)
    ∙ ap (λ (l : List ℕ). get_or l c 0) (rows p (div_below k w P (omega arith) lt))
    ∙ row_getD w us p c col
    ∙ ap (λ (i : ℕ). get_or us i 0) e'
    ∙ sym (get_or-take (used P L) us k 0 lt))
