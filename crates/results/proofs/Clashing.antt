-- A literal and its opposite stand side by side where codes rise, so it is enough
-- to look at neighbours.
use Rattle.std.proofs.Common.{◌≡◌, ℕ, zero, suc, ◌+◌, ◌*◌, ◌/◌, ◌%◌, ◌<◌, Bool, true, false, eqb, List, [], ◌∷◌, length, get_or, MatchBool, sym, refl, ap, ◌∙◌, arith}
use Rattle.std.proofs.lemmas.Bool.{eq-eqb, eqb-true, ne_eqb, or_from, or_left, or_right}
use Rattle.std.proofs.lemmas.Nat.{xor_block}
use Rattle.std.specs.Cmp.{both_ways}
use Rattle.std.specs.Int.Bits.{bit_xor, xor_self, xor_zero_r, xor_assoc}
use Rattle.shelf.specs.Literals.{variable, opposite, among}
use Rattle.rules.specs.Clauses.{vanishes}
use Rattle.results.specs.Spread.{Spread}

-- what is below the first code does not stand in the list
pub absent : (top b c : ℕ) (cs : List ℕ) → Spread top b cs → c < b → among c cs ≡ false
unfolding among
absent top b c [] s h = refl
absent top b c (d ∷ ds) s h =
    let l = s.0 in
    or_from (eqb d c) (among c ds) (ne_eqb d c (λ e. omega arith)) (absent top (d + 1) c ds s.2 (omega arith))

-- two codes differ in the lowest bit alone where one is the opposite of the other
flipped : (c : ℕ) → bit_xor c 1 ≡ opposite c
flipped c =
    let parts : c ≡ c / 2 * 2 + c % 2 = omega arith in
    let low : c % 2 < 2 = omega arith in
    ap (λ (x : ℕ). bit_xor x 1) parts ∙ xor_block 1 (c / 2) 0 (c % 2) 1 low (omega arith) ∙ ap (λ (x : ℕ). x * 2 + bit_xor (c % 2) 1) (xor_zero_r (c / 2)) ∙ lowest c (c % 2) refl
  where
    lowest : (c r : ℕ) → r ≡ c % 2 → c / 2 * 2 + bit_xor r 1 ≡ opposite c
    lowest c zero e = omega (arith, e)
    lowest c (suc zero) e = omega (arith, e)
    lowest c (suc (suc r)) e = absurd (omega (arith, e))

pub opposed_told : (c d : ℕ) → eqb (bit_xor c d) 1 ≡ eqb d (opposite c)
opposed_told c d = both_ways (eqb (bit_xor c d) 1) (eqb d (opposite c)) there back
  where
    there : eqb (bit_xor c d) 1 ≡ true → eqb d (opposite c) ≡ true
    there e = eq-eqb d (opposite c) (ap (λ (x : ℕ). bit_xor x d) (sym (xor_self c)) ∙ xor_assoc c c d ∙ ap (bit_xor c) (eqb-true (bit_xor c d) 1 e) ∙ flipped c)

    back : eqb d (opposite c) ≡ true → eqb (bit_xor c d) 1 ≡ true
    back e = eq-eqb (bit_xor c d) 1 (ap (bit_xor c) (eqb-true d (opposite c) e ∙ sym (flipped c)) ∙ sym (xor_assoc c c 1) ∙ ap (λ (x : ℕ). bit_xor x 1) (xor_self c))

-- some code is followed by its opposite; none is
abbrev pub Clash : List ℕ → Type 0
Clash xs = (k : ℕ) × (suc k < length xs) × (get_or xs (suc k) 0 ≡ opposite (get_or xs k 0))

abbrev pub NoClash : List ℕ → Type 0
NoClash xs = (k : ℕ) → suc k < length xs → get_or xs (suc k) 0 ≡ opposite (get_or xs k 0) → ⊥

clash_vanishes : (xs : List ℕ) (k : ℕ) → suc k < length xs → get_or xs (suc k) 0 ≡ opposite (get_or xs k 0) → vanishes xs ≡ true
unfolding among vanishes
clash_vanishes [] k h e = absurd (omega arith)
clash_vanishes (c ∷ []) k h e = absurd (omega arith)
clash_vanishes (c ∷ d ∷ ds) zero h e = or_left _ _ (or_left _ _ (eq-eqb d (opposite c) e))
clash_vanishes (c ∷ d ∷ ds) (suc k) h e = or_right _ _ (clash_vanishes (d ∷ ds) k (omega arith) e)

clean : (top b : ℕ) (xs : List ℕ) → Spread top b xs → NoClash xs → vanishes xs ≡ false
unfolding among vanishes
clean top b [] s n = refl
clean top b (c ∷ []) s n = refl
clean top b (c ∷ d ∷ ds) s n =
    let h = s.2.0 in
    let e = or_from (eqb d (opposite c)) (among (opposite c) ds) (ne_eqb d (opposite c) (n 0 (omega arith))) (absent top (d + 1) (opposite c) ds s.2.2 (omega arith)) in
    or_from (among (opposite c) (d ∷ ds)) (vanishes (d ∷ ds)) e (clean top (c + 1) (d ∷ ds) s.2 (λ k l. n (suc k) (omega arith)))

pub clash_told : (top b : ℕ) (xs : List ℕ) (r : Bool) → Spread top b xs → MatchBool r (Clash xs) (NoClash xs) → r ≡ vanishes xs
clash_told top b xs true s h = sym (clash_vanishes xs h.0 h.1 h.2)
clash_told top b xs false s h = sym (clean top b xs s h)

-- some code is followed by one of the same variable; none is
abbrev pub Akin : List ℕ → Type 0
Akin xs = (k : ℕ) × (suc k < length xs) × (variable (get_or xs k 0) ≡ variable (get_or xs (suc k) 0))

abbrev pub NoneAkin : List ℕ → Type 0
NoneAkin xs = (k : ℕ) → suc k < length xs → variable (get_or xs k 0) ≡ variable (get_or xs (suc k) 0) → ⊥

-- the greater of two codes is the opposite of the other where both are of one variable
opposite_next : (c d : ℕ) → c < d → variable c ≡ variable d → d ≡ opposite c
opposite_next c d l e = omega (arith, l, e)

next_opposite : (c d : ℕ) → c < d → d ≡ opposite c → variable c ≡ variable d
next_opposite c d l e = omega (arith, l, e)

neighbours_rise : (top b : ℕ) (xs : List ℕ) (k : ℕ) → Spread top b xs → suc k < length xs → get_or xs k 0 < get_or xs (suc k) 0
neighbours_rise top b [] k s h = absurd (omega arith)
neighbours_rise top b (c ∷ []) k s h = absurd (omega arith)
neighbours_rise top b (c ∷ d ∷ ds) zero s h = let l = s.2.0 in omega (arith, l)
neighbours_rise top b (c ∷ d ∷ ds) (suc k) s h = neighbours_rise top (c + 1) (d ∷ ds) k s.2 (omega arith)

-- where codes rise, this is the same question
pub akin_told : (top b : ℕ) (xs : List ℕ) (r : Bool) → Spread top b xs → MatchBool r (Akin xs) (NoneAkin xs) → r ≡ vanishes xs
akin_told top b xs true s h = let l = neighbours_rise top b xs h.0 s h.1 in clash_told top b xs true s (h.0, h.1, opposite_next _ _ l h.2)
akin_told top b xs false s h = clash_told top b xs false s (λ k l e. h k l (next_opposite _ _ (neighbours_rise top b xs k s l) e))
