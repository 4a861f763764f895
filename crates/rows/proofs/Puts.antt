-- A code put into a rising list, and the tests of what stands there.
use Rattle.std.proofs.Common.{◌≡◌, ℕ, zero, suc, ◌/◌, ◌<◌, ◌≤◌, Bool, false, ◌||◌, eqb, ltb, List, [], ◌∷◌, length, get_or, Result, Ok, Err, is_ok, IfErr, IfOk, Less, Equal, Greater, nat_cmp, sym, refl, ap, ◌∙◌, inl, inr, arith}
use Rattle.std.specs.List.{insert, list_any}
use Rattle.std.specs.List.Sorted.{IsBinarySearchResult, IsNonDecreasingBy, IsSearchInRange}
use Rattle.std.proofs.lemmas.Bool.Decides.{nat_tests}
use Rattle.std.proofs.lemmas.Cmp.{ranked}
use Rattle.std.proofs.lemmas.List.Recursion.{or_at, or_from_places}
use Rattle.std.proofs.lemmas.Bool.{lt-ltb, le-ltb, ne_eqb, eq-eqb, eqb-false, ltb-true, ltb-false, or_parts, cases_lt, cond-true, cond-false, cond_both}
use Rattle.shelf.specs.Literals.{Rising, put, stands, among}

pub put_at : (cs : List ℕ) (c k : ℕ) → k ≤ length cs → ((j : ℕ) → j < k → get_or cs j 0 / 2 < c / 2) → (k < length cs → c / 2 < get_or cs k 0 / 2) → put c cs ≡ insert cs k c
unfolding put
put_at [] c zero le below above = refl
put_at [] c (suc k) le below above = absurd (omega arith)
put_at (x ∷ xs) c zero le below above =
    let h : c < x = omega (arith, above (omega arith)) in cond-true (ltb c x) (c ∷ x ∷ xs) (x ∷ put c xs) (lt-ltb c x h)
put_at (x ∷ xs) c (suc k) le below above =
    let h : x ≤ c = omega (arith, below 0 (omega arith)) in
    cond-false (ltb c x) (c ∷ x ∷ xs) (x ∷ put c xs) (le-ltb c x h)
    ∙ ap (λ (l : List ℕ). x ∷ l) (put_at xs c k (omega arith) (λ j l. below (suc j) (omega arith)) (λ l. above (omega arith)))

pub rising_put : (V b c : ℕ) (cs : List ℕ) → Rising V b cs → b < c / 2 → c / 2 ≤ V → stands (c / 2) cs ≡ false → Rising V b (put c cs)
unfolding put stands
rising_put V b c [] r low high s = (low, high, tt)
rising_put V b c (x ∷ xs) r low high s =
    let p = or_parts (eqb (x / 2) (c / 2)) (stands (c / 2) xs) s in
    let ne : x / 2 ≡ c / 2 → ⊥ = eqb-false (x / 2) (c / 2) p.0 in
    cond_both (ltb c x) (c ∷ x ∷ xs) (x ∷ put c xs) (Rising V b)
    (λ e. let l : c < x = ltb-true c x e in (low, high, (omega arith, r.1, r.2)))
    (λ e. let l : x ≤ c = ltb-false c x e in (r.0, r.1, rising_put V (x / 2) c xs r.2 (omega arith) high p.1))

pub among_any : (c : ℕ) (cs : List ℕ) → among c cs ≡ list_any (λ x. eqb x c) cs
unfolding among
among_any c [] = refl
among_any c (x ∷ xs) = ap (λ (b : Bool). eqb x c || b) (among_any c xs)

-- ---- a search by the variable

rising_above : (V b : ℕ) (cs : List ℕ) (j d : ℕ) → Rising V b cs → j < length cs → b < get_or cs j d / 2
rising_above V b [] j d r h = absurd (omega arith)
rising_above V b (x ∷ xs) zero d r h = r.0
rising_above V b (x ∷ xs) (suc j) d r h = let a = rising_above V (x / 2) xs j d r.2 (omega arith) in omega (arith, r.0)

rising_sorted : (V b : ℕ) (cs : List ℕ) → Rising V b cs → IsNonDecreasingBy (λ x. x / 2) cs
rising_sorted V b [] r i j d le h = absurd (omega arith)
rising_sorted V b (x ∷ xs) r zero zero d le h = omega arith
rising_sorted V b (x ∷ xs) r zero (suc j) d le h = let a = rising_above V (x / 2) xs j d r.2 (omega arith) in omega arith
rising_sorted V b (x ∷ xs) r (suc i) zero d le h = absurd (omega arith)
rising_sorted V b (x ∷ xs) r (suc i) (suc j) d le h = rising_sorted V (x / 2) xs r.2 i j d (omega arith) (omega arith)

-- where a search by the variable of c ended: at a code of it, or where c goes in
pub found_there : (c : ℕ) (cs : List ℕ) (r : Result ℕ ℕ) → IsBinarySearchResult (λ x. nat_cmp (x / 2) (c / 2)) cs r → IfOk r (λ k. get_or cs k 0 / 2 ≡ c / 2)
found_there c cs (Ok k) here = ranked _ _ Equal (sym (here 0))
found_there c cs (Err k) between = tt

pub searched : (V c : ℕ) (cs : List ℕ) (r : Result ℕ ℕ) → Rising V 0 cs → IsSearchInRange r (length cs) → IsBinarySearchResult (λ x. nat_cmp (x / 2) (c / 2)) cs r → (is_ok r ≡ stands (c / 2) cs) × IfErr r (λ k. put c cs ≡ insert cs k c)
unfolding stands
searched V c cs (Ok k) rises within here =
    let is = found_there c cs (Ok k) here in
    (sym (or_at (stands (c / 2)) (λ x. eqb (x / 2) (c / 2)) refl (λ _ _. refl) cs k 0 within (eq-eqb _ _ is)), tt)
searched V c cs (Err k) rises within between =
    let sorted = rising_sorted V 0 cs rises in
    let point = between (λ i j d le h. let s = sorted i j d le h in grind (arith, nat_tests)) in
    let low : (j : ℕ) → j < k → get_or cs j 0 / 2 < c / 2 = λ j h. ranked _ _ Less (sym (point.0 j 0 (omega arith) h)) in
    let high : (j : ℕ) → k ≤ j → j < length cs → c / 2 < get_or cs j 0 / 2 = λ j le h. ranked _ _ Greater (sym (point.1 j 0 le h)) in
    let other : (j : ℕ) → j < length cs → eqb (get_or cs j 0 / 2) (c / 2) ≡ false = λ j h. ne_eqb _ _ (λ e. elim (cases_lt j k) [ inl l ↦ omega (arith, low j l) | inr g ↦ omega (arith, high j g h) ]) in
    (sym (or_from_places (stands (c / 2)) (λ x. eqb (x / 2) (c / 2)) refl (λ _ _. refl) cs 0 other), put_at cs c k within low (high k (omega arith)))
