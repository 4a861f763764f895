-- The verdict on a split, and that a granted one may be done.
use Rattle.std.proofs.Common.{◌≡◌, ℕ, ◌+◌, ◌*◌, ◌/◌, ◌<◌, ◌≤◌, Bool, true, false, not, ◌&&◌, ◌||◌, eqb, leb, List, [], ◌∷◌, length, sym, refl, ap, ◌∙◌, ap₂, inl, inr, arith}
use Rattle.std.proofs.lemmas.Bool.{le-leb, leb-true, eq-eqb, ne_eqb, and_right, and_parts, cases_eq, cases_lt}
use Rattle.shelf.specs.Literals.{among, stands}
use Rattle.shelf.specs.Room.{filled, vacant, roomy}
use Rattle.shelf.specs.View.{View, Sound, clause}
use Rattle.results.specs.Splitting.{Splittable}
use Rattle.results.proofs.Defined.{short_halves, long_halves}
use Rattle.results.proofs.Reading.{clause_rises}
use Rattle.rules.specs.Case.{known}
use Rattle.rules.specs.Questions.{passes, stops, first_no}
use Rattle.rules.specs.Results.{halves, short_enough}
use Rattle.steps.specs.Asks.{split_asks}
use Rattle.steps.proofs.Verdicts.{yes, no_at, yes_then}

-- a code is of the variable x in one sign or in the other
either_sign : (c x : ℕ) → eqb (c / 2) x ≡ (eqb c (2 * x) || eqb c (2 * x + 1))
either_sign c x =
    elim (cases_eq (c / 2) x) [
      | inl e ↦ elim (cases_eq c (2 * x)) [
        | inl z ↦ rw (eq-eqb (c / 2) x e, eq-eqb c (2 * x) z)
        | inr z ↦ let w : c ≡ 2 * x + 1 = omega arith in rw (eq-eqb (c / 2) x e, ne_eqb c (2 * x) z, eq-eqb c (2 * x + 1) w)
      ]
      | inr e ↦
          let z : c ≡ 2 * x → ⊥ = λ k. e (omega arith) in
          let w : c ≡ 2 * x + 1 → ⊥ = λ k. e (omega arith) in
          rw (ne_eqb (c / 2) x e, ne_eqb c (2 * x) z, ne_eqb c (2 * x + 1) w)
    ]

or_swap : (a b c d : Bool) → ((a || b) || (c || d)) ≡ ((a || c) || (b || d))
or_swap true b c d = refl
or_swap false true true d = refl
or_swap false true false d = refl
or_swap false false c d = refl

pub stands_either : (x : ℕ) (cs : List ℕ) → stands x cs ≡ (among (2 * x) cs || among (2 * x + 1) cs)
unfolding stands among
stands_either x [] = refl
stands_either x (c ∷ cs) = ap₂ ◌||◌ (either_sign c x) (stands_either x cs) ∙ or_swap (eqb c (2 * x)) (eqb c (2 * x + 1)) (among (2 * x) cs) (among (2 * x + 1) cs)

module _ (v : View) (n p x : ℕ) where
  abbrev new : Bool
  new = leb 1 x && (leb x (known n v) && not (stands x (clause v p)))

  pub held_not_new : among (2 * x) (clause v p) ≡ true → false ≡ new
  held_not_new e =
      let s : stands x (clause v p) ≡ true = stands_either x (clause v p) ∙ ap (λ (b : Bool). b || among (2 * x + 1) (clause v p)) e in
      sym (and_right (leb 1 x) (leb x (known n v) && not (stands x (clause v p))) (and_right (leb x (known n v)) (not (stands x (clause v p))) (ap not s)))

  pub new_told : {b : Bool} → 1 ≤ x → x ≤ known n v → among (2 * x) (clause v p) ≡ false → b ≡ among (2 * x + 1) (clause v p) → not b ≡ new
  new_told {b = b} l h e f =
      let s : b ≡ stands x (clause v p) = f ∙ sym (stands_either x (clause v p) ∙ ap (λ (z : Bool). z || among (2 * x + 1) (clause v p)) e) in
      ap not s ∙ ap (λ (z : Bool). z && not (stands x (clause v p))) (sym (le-leb x (known n v) h)) ∙ ap (λ (z : Bool). z && (leb x (known n v) && not (stands x (clause v p)))) (sym (le-leb 1 x l))

-- what question 10 affirms
record Fresh (v : View) (p x : ℕ) : Type 0 where
  some : 1 ≤ x
  known_here : x ≤ v.highest
  new_there : stands x (clause v p) ≡ false

not_true : (b : Bool) → not b ≡ true → b ≡ false
not_true true e = sym e
not_true false e = refl

fresh : (v : View) (n p x : ℕ) → new v n p x ≡ true → Fresh v p x
fresh v n p x e =
    let a = and_parts (leb 1 x) (leb x (known n v) && not (stands x (clause v p))) e in
    let b = and_parts (leb x (known n v)) (not (stands x (clause v p))) a.1 in
    let l = leb-true x (known n v) b.0 in
    record { some = leb-true 1 x a.0; known_here = omega arith; new_there = not_true (stands x (clause v p)) b.1 }

module _ (v : View) (n p x to : ℕ) (sound : Sound v) where
  abbrev short : Bool
  short = short_enough v.longest (halves x (clause v p))

  short_here : Fresh v p x → length (clause v p) < v.longest → short ≡ true
  short_here f h = short_halves v.highest x f.some f.known_here v.longest (clause v p) h (clause_rises v p sound) f.new_there

  long_here : Fresh v p x → v.longest ≤ length (clause v p) → short ≡ false
  long_here f h = long_halves v.highest x f.some f.known_here v.longest (clause v p) h (clause_rises v p sound) f.new_there

  one_place : (b : Bool) → vacant v to ≡ b → roomy v to 1 ≡ b
  unfolding roomy
  one_place true e = rw e
  one_place false e = rw e

  module _ (e₉ : filled v p ≡ true) (e₁₀ : new v n p x ≡ true) where
    pub split_long : v.longest ≤ length (clause v p) → stops 11 0 ≡ first_no (split_asks v n p x to)
    split_long h = no_at 11 short _ (long_here (fresh v n p x e₁₀) h) ∙ yes 10 (new v n p x) _ e₁₀ ∙ yes 9 (filled v p) _ e₉

    module _ (h : length (clause v p) < v.longest) where
      pub split_crowded : vacant v to ≡ false → stops 12 0 ≡ first_no (split_asks v n p x to)
      split_crowded e = no_at 12 (roomy v to 1) passes (one_place false e) ∙ yes 11 short _ (short_here (fresh v n p x e₁₀) h) ∙ yes 10 (new v n p x) _ e₁₀ ∙ yes 9 (filled v p) _ e₉

      pub split_passes : vacant v to ≡ true → passes ≡ first_no (split_asks v n p x to)
      split_passes e = yes 12 (roomy v to 1) passes (one_place true e) ∙ yes 11 short _ (short_here (fresh v n p x e₁₀) h) ∙ yes 10 (new v n p x) _ e₁₀ ∙ yes 9 (filled v p) _ e₉

  vacant_here : roomy v to 1 ≡ true → vacant v to ≡ true
  unfolding roomy
  vacant_here e = (and_parts (vacant v to) true e).0

  -- a granted split may be done
  pub splittable : passes ≡ first_no (split_asks v n p x to) → Splittable v p x to
  splittable h =
      let q₉ = yes_then 9 (filled v p) _ h in
      let q₁₀ = yes_then 10 (new v n p x) _ q₉.1 in
      let q₁₁ = yes_then 11 short _ q₁₀.1 in
      let q₁₂ = yes_then 12 (roomy v to 1) passes q₁₁.1 in
      let f = fresh v n p x q₁₀.0 in
      let s : length (clause v p) < v.longest =
      elim (cases_lt (length (clause v p)) v.longest) [ inl z ↦ z | inr z ↦ let c : true ≡ false = sym q₁₁.0 ∙ long_here f z in absurd (let o : ◌≡◌ {A = ℕ} 0 1 = cc in omega arith) ] in
      record { there = q₉.0; some = f.some; known = f.known_here; new = f.new_there; short = s; room = vacant_here q₁₂.0 }
