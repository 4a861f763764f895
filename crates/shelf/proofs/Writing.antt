-- A clause written code by code: after k codes the place holds the first k of them.
-- A run of free places is asked about one place at a time.
use Rattle.std.proofs.Common.{◌≡◌, ℕ, zero, suc, ◌+◌, ◌/◌, ◌<◌, ◌≤◌, true, false, cond, not, ◌&&◌, eqb, ltb, List, [], ◌∷◌, ◌++◌, length, get_or, take, drop, set, is_ok, Ok, Result, sym, refl, ap, ap₂, ◌∙◌, inl, inr, arith}
use Rattle.std.proofs.lemmas.List.{get_or-set_same, set-set, set-get_or, take_more, take_all, take-append-drop, drop_more, drop_all, length-take-le, get_or_past}
use Rattle.std.proofs.lemmas.Bool.{ltb-true, lt-ltb, le-ltb, le-leb, ne_eqb, or_from, and_parts, and_from, and_left, and_right, cases_lt}
use Rattle.std.specs.List.{list_all, range_with_len}
use Rattle.shelf.specs.Literals.{Rising, put, stands, none}
use Rattle.shelf.specs.View.{View, Sound, with_held, clause}
use Rattle.shelf.specs.Room.{Writable, filled, vacant, roomy}
use Rattle.shelf.specs.Answers.{added, after_add, after_adds}

module _ (top : ℕ) where
  later : (b : ℕ) (xs : List ℕ) (c : ℕ) (ys : List ℕ) → Rising top b (xs ++ c ∷ ys) → (b < c / 2) × (c / 2 ≤ top)
  later b [] c ys r = (r.0, r.1)
  later b (x ∷ xs) c ys r = let h = later (x / 2) xs c ys r.2 in let l = r.0 in let k = h.0 in (omega arith, h.1)

  stands_not : (b : ℕ) (xs : List ℕ) (c : ℕ) (ys : List ℕ) → Rising top b (xs ++ c ∷ ys) → stands (c / 2) xs ≡ false
  unfolding stands
  stands_not b [] c ys r = refl
  stands_not b (x ∷ xs) c ys r =
      let h = (later (x / 2) xs c ys r.2).0 in
      or_from (eqb (x / 2) (c / 2)) (stands (c / 2) xs) (ne_eqb (x / 2) (c / 2) (λ e. omega arith)) (stands_not (x / 2) xs c ys r.2)

  put_last : (b : ℕ) (xs : List ℕ) (c : ℕ) (ys : List ℕ) → Rising top b (xs ++ c ∷ ys) → put c xs ≡ xs ++ c ∷ []
  unfolding put
  put_last b [] c ys r = refl
  put_last b (x ∷ xs) c ys r =
      let h = (later (x / 2) xs c ys r.2).0 in
      let l : x ≤ c = omega arith in
      rw (le-ltb c x l) (ap (λ (z : List ℕ). x ∷ z) (put_last (x / 2) xs c ys r.2))

-- the first k codes are written
abbrev pub part : View → ℕ → List ℕ → ℕ → View
part v p cs k = with_held v (set v.held p (take k cs))

empty_nil : (cs : List ℕ) → none cs ≡ true → [] ≡ cs
empty_nil [] h = refl
empty_nil (c ∷ cs) h = cc

pub part_none : {v : View} {p : ℕ} {cs : List ℕ} → Writable v p cs → v ≡ part v p cs 0
part_none {v = v} {p = p} {cs = cs} w =
    let e = empty_nil (clause v p) (and_parts (ltb p v.places) (none (clause v p)) w.is_vacant).1 in
    ap (with_held v) (sym (set-get_or v.held p [])) ∙ ap (λ (l : List ℕ). with_held v (set v.held p l)) (sym e)

pub part_more : {v : View} {p : ℕ} {cs : List ℕ} {k : ℕ} {w w' : View} → Sound v → Writable v p cs → k < length cs
    → w ≡ part v p cs k → w' ≡ after_add w p (get_or cs k 0) → w' ≡ part v p cs (k + 1)
part_more {v = v} {p = p} {cs = cs} {k = k} {w = w} {w' = w'} s a h e f =
    let c = get_or cs k 0 in
    let xs = take k cs in
    let ys = drop (k + 1) cs in
    let n : length v.held ≡ v.places = s.count in
    let i : ltb p v.places ≡ true = (and_parts (ltb p v.places) (none (clause v p)) a.is_vacant).0 in
    let l : p < length v.held = omega (arith, ltb-true p v.places i) in
    let q : xs ++ c ∷ ys ≡ cs = ap (λ (z : List ℕ). xs ++ z) (sym (drop_more cs k 0 h)) ∙ take-append-drop k cs in
    let r : Rising v.highest 0 (xs ++ c ∷ ys) = rw (← q) at a.rises in
    let u = later v.highest 0 xs c ys r in
    let u₀ : 1 ≤ c / 2 = omega (arith, u.0) in
    let m : length xs ≡ k = length-take-le k cs (omega arith) in
    let m₁ : length xs < v.longest = omega (arith, a.short) in
    let here : clause (part v p cs k) p ≡ xs = get_or-set_same v.held p xs [] l in
    let ok : added (part v p cs k) p c ≡ Ok tt =
    rw (i, le-leb 1 (c / 2) u₀, le-leb (c / 2) v.highest u.1, here, stands_not v.highest 0 xs c ys r, lt-ltb (length xs) v.longest m₁) in
    let more : put c xs ≡ take (k + 1) cs = put_last v.highest 0 xs c ys r ∙ sym (take_more cs k 0 h) in
    f ∙ ap (λ (z : View). after_add z p c) e
    ∙ ap (λ (t : Result (Unit {0}) ℕ). with_held v (cond (is_ok t) (set (set v.held p xs) p (put c (clause (part v p cs k) p))) (set v.held p xs))) ok
    ∙ ap (with_held v) (set-set v.held p xs (put c (clause (part v p cs k) p)))
    ∙ ap (λ (z : List ℕ). with_held v (set v.held p (put c z))) here
    ∙ ap (λ (z : List ℕ). with_held v (set v.held p z)) more

pub part_done : (v : View) (p : ℕ) (cs : List ℕ) {k : ℕ} {w : View} → w ≡ part v p cs k → length cs ≤ k → w ≡ with_held v (set v.held p cs)
part_done v p cs {k = k} e h = e ∙ ap (λ (z : List ℕ). with_held v (set v.held p z)) (take_all k cs h)

-- a run of places, asked about at once
no_codes : (cs : List ℕ) → eqb (length cs) 0 ≡ none cs
no_codes [] = refl
no_codes (c ∷ cs) = grind arith

free_here : (v : View) (p : ℕ) → p < v.places → eqb (length (clause v p)) 0 ≡ vacant v p
free_here v p h = no_codes (clause v p) ∙ ap (λ b. b && none (clause v p)) (sym (lt-ltb p v.places h))

pub roomy_all : (v : View) (p n : ℕ) → p + n ≤ v.places → list_all (λ q. eqb (length (clause v q)) 0) (range_with_len p n) ≡ roomy v p n
unfolding roomy
roomy_all v p zero h = refl
roomy_all v p (suc n) h = ap₂ (λ a b. a && b) (free_here v p (omega arith)) (roomy_all v (p + 1) n (omega arith))

pub roomy_none : (v : View) (p n : ℕ) → v.places < p + n → 0 < n → roomy v p n ≡ false
unfolding roomy
roomy_none v p zero h l = absurd (omega arith)
roomy_none v p (suc n) h l =
    elim (cases_lt p v.places) [
      | inl i ↦ and_right (vacant v p) (roomy v (p + 1) n) (roomy_none v (p + 1) n (omega arith) (omega arith))
      | inr i ↦ and_left (vacant v p) (roomy v (p + 1) n) (and_left (ltb p v.places) (none (clause v p)) (le-ltb p v.places i))
    ]

has_codes : (v : View) (p n : ℕ) → ltb p v.places ≡ true → (cs : List ℕ) → n ≡ length cs → not (eqb n 0) ≡ (ltb p v.places && not (none cs))
has_codes v p n h [] e = ap (λ (k : ℕ). not (eqb k 0)) e ∙ sym (and_right (ltb p v.places) false refl)
has_codes v p n h (c ∷ cs) e = ap not (ne_eqb n 0 (λ z. let k : suc (length cs) ≡ 0 = sym e ∙ z in omega arith)) ∙ sym (and_from (ltb p v.places) true h refl)

-- a place holds a clause exactly where it has a literal
pub filled_size : (v : View) (p n : ℕ) → Sound v → n ≡ length (clause v p) → not (eqb n 0) ≡ filled v p
filled_size v p n s e =
    elim (cases_lt p v.places) [
      | inl h ↦ has_codes v p n (lt-ltb p v.places h) (clause v p) e
      | inr h ↦
          let l : length v.held ≤ p = omega (arith, s.count) in
          let past : clause v p ≡ [] = get_or_past v.held p [] l in
          ap (λ (k : ℕ). not (eqb k 0)) (e ∙ ap length past) ∙ sym (and_left (ltb p v.places) (not (none (clause v p))) (le-ltb p v.places h))
    ]

-- one code more of a list that is added
pub adds_more : (w : View) (p : ℕ) (cs : List ℕ) (k : ℕ) {x : View} → after_adds w p (drop k cs) ≡ x → k < length cs → after_adds (after_add w p (get_or cs k 0)) p (drop (k + 1) cs) ≡ x
unfolding after_adds
adds_more w p cs k e h = ap (after_adds w p) (sym (drop_more cs k 0 h)) ∙ e

pub adds_done : (w : View) (p : ℕ) (cs : List ℕ) (k : ℕ) {x : View} → after_adds w p (drop k cs) ≡ x → length cs ≤ k → w ≡ x
unfolding after_adds
adds_done w p cs k e h = ap (after_adds w p) (sym (drop_all k cs h)) ∙ e

-- adding changes nothing but what is held
pub adds_frame : (v : View) (p : ℕ) (cs : List ℕ) → after_adds v p cs ≡ with_held v (after_adds v p cs).held
unfolding after_adds
adds_frame v p [] = refl
adds_frame v p (c ∷ cs) = adds_frame (after_add v p c) p cs
