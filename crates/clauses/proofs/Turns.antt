-- One turn of each loop over a list: what is left of the list still decides what
-- the whole did.
use Rattle.std.proofs.Common.{◌≡◌, ℕ, min, map, take, suc, ◌+◌, ◌/◌, ◌<◌, ◌≤◌, Bool, true, false, ◌&&◌, eqb, ltb, leb, List, [], ◌∷◌, length, get_or, drop, sym, refl, ap, ap₂, ◌∙◌, arith}
use Rattle.std.proofs.lemmas.List.{drop_more, drop_all, get_or-map, length-map, take_min}
use Rattle.std.proofs.lemmas.Bool.{lt-ltb, le-ltb, le-leb, lt-leb, eq-eqb, ne_eqb, and_left, and_right, and_parts, leb-true, ltb-true}
use Rattle.shelf.specs.declared.literal.Literal.{Literal}
use Rattle.shelf.specs.Literals.{Rising, variable}
use Rattle.rules.specs.Clauses.{rises, same_codes}
use Rattle.clauses.specs.Codes.{codes}

-- the code of the k-th item
pub coded_at : {A : Type 0} (f : A → ℕ) (xs : List A) (k : ℕ) {x : A} {n : ℕ} → k < length xs → x ≡ get_or xs k x → n ≡ f x → get_or (map f xs) k 0 ≡ n
coded_at f xs k {x = x} h i e = get_or-map f xs k x 0 h ∙ ap f (sym i) ∙ sym e

pub codes_length : (ls : List Literal) → length (codes ls) ≡ length ls
codes_length ls = length-map ls (λ (l : Literal). l.code)

-- the first codes, as many as there are
pub taken_codes : (ls : List Literal) (k n : ℕ) → k ≡ min n (length ls) → take k (codes ls) ≡ take n (codes ls)
taken_codes ls k n e =
    let l : k ≡ min n (length (codes ls)) = e ∙ ap (min n) (sym (codes_length ls)) in
    ap (λ (j : ℕ). take j (codes ls)) l ∙ take_min n (codes ls)

module _ (V : ℕ) (cs : List ℕ) (b k : ℕ) (t : Bool) (so_far : rises V b (drop k cs) ≡ t) where
  abbrev here : ℕ
  here = get_or cs k 0 / 2

  turn : k < length cs → (ltb b here && (leb here V && rises V here (drop (k + 1) cs))) ≡ t
  unfolding rises
  turn h = ap (rises V b) (sym (drop_more cs k 0 h)) ∙ so_far

  pub rises_low : k < length cs → get_or cs k 0 / 2 ≤ b → false ≡ t
  rises_low h l = sym (and_left (ltb b here) (leb here V && rises V here (drop (k + 1) cs)) (le-ltb b here l)) ∙ turn h

  pub rises_high : k < length cs → V < get_or cs k 0 / 2 → false ≡ t
  rises_high h l =
      sym (and_right (ltb b here) (leb here V && rises V here (drop (k + 1) cs)) (and_left (leb here V) (rises V here (drop (k + 1) cs)) (lt-leb here V l))) ∙ turn h

  pub rises_more : k < length cs → b < get_or cs k 0 / 2 → get_or cs k 0 / 2 ≤ V → rises V (get_or cs k 0 / 2) (drop (k + 1) cs) ≡ t
  rises_more h l m =
      ap (λ (x : Bool). x && rises V here (drop (k + 1) cs)) (sym (le-leb here V m)) ∙ ap (λ (x : Bool). x && (leb here V && rises V here (drop (k + 1) cs))) (sym (lt-ltb b here l)) ∙ turn h

  pub rises_done : length cs ≤ k → true ≡ t
  unfolding rises
  rises_done h = ap (rises V b) (sym (drop_all k cs h)) ∙ so_far

module _ (xs ys : List ℕ) (k : ℕ) (t : Bool) (so_far : same_codes (drop k xs) (drop k ys) ≡ t) where
  same_turn : k < length xs → k < length ys → (eqb (get_or xs k 0) (get_or ys k 0) && same_codes (drop (k + 1) xs) (drop (k + 1) ys)) ≡ t
  unfolding same_codes
  same_turn h l = ap₂ same_codes (sym (drop_more xs k 0 h)) (sym (drop_more ys k 0 l)) ∙ so_far

  pub same_stop : k < length xs → k < length ys → (get_or xs k 0 ≡ get_or ys k 0 → ⊥) → false ≡ t
  same_stop h l ne = sym (and_left (eqb (get_or xs k 0) (get_or ys k 0)) (same_codes (drop (k + 1) xs) (drop (k + 1) ys)) (ne_eqb (get_or xs k 0) (get_or ys k 0) ne)) ∙ same_turn h l

  pub same_more : k < length xs → k < length ys → get_or xs k 0 ≡ get_or ys k 0 → same_codes (drop (k + 1) xs) (drop (k + 1) ys) ≡ t
  same_more h l e = ap (λ (x : Bool). x && same_codes (drop (k + 1) xs) (drop (k + 1) ys)) (sym (eq-eqb (get_or xs k 0) (get_or ys k 0) e)) ∙ same_turn h l

  pub same_done : length xs ≤ k → length ys ≤ k → true ≡ t
  unfolding same_codes
  same_done h l = ap₂ same_codes (sym (drop_all k xs h)) (sym (drop_all k ys l)) ∙ so_far

-- lists of unequal lengths differ
pub unequal : (xs ys : List ℕ) → (length xs ≡ length ys → ⊥) → false ≡ same_codes xs ys
unfolding same_codes
unequal [] [] h = absurd (h refl)
unequal [] (y ∷ ys) h = refl
unequal (x ∷ xs) [] h = refl
unequal (x ∷ xs) (y ∷ ys) h = sym (and_right (eqb x y) (same_codes xs ys) (sym (unequal xs ys (λ e. h (ap suc e)))))

-- rising up to a lower variable is rising
pub rising : (V W b : ℕ) (cs : List ℕ) → V ≤ W → rises V b cs ≡ true → Rising W b cs
unfolding rises
rising V W b [] l e = tt
rising V W b (c ∷ cs) l e =
    let p = and_parts (ltb b (variable c)) (leb (variable c) V && rises V (variable c) cs) e in
    let q = and_parts (leb (variable c) V) (rises V (variable c) cs) p.1 in
    let low = ltb-true b (variable c) p.0 in
    let high = leb-true (variable c) V q.0 in
    (low, omega (arith, high), rising V W (variable c) cs l q.1)
