-- The verdict on a define, and that a granted one may be done.
use Rattle.std.proofs.Common.{◌≡◌, ℕ, ◌+◌, ◌<◌, ◌≤◌, Bool, true, false, not, ◌&&◌, eqb, ltb, List, [], ◌∷◌, length, sym, refl, ap, ◌∙◌, inl, inr, arith}
use Rattle.std.proofs.lemmas.Bool.{both_ways, eq-eqb, lt-ltb, ltb-true, and_left, and_from, and_parts, cases_lt}
use Rattle.shelf.specs.Literals.{Rising, stands, none}
use Rattle.shelf.specs.Room.{roomy}
use Rattle.shelf.specs.View.{View}
use Rattle.shelf.specs.declared.literal.Literal.{Literal}
use Rattle.clauses.proofs.Turns.{codes_length, rising}
use Rattle.clauses.specs.Codes.{codes}
use Rattle.results.specs.Definition.{Definable}
use Rattle.results.specs.Placing.{Placeable}
use Rattle.results.proofs.Defined.{kept_defining, short_defining, long_defining}
use Rattle.results.proofs.Putting.{stands_above}
use Rattle.rules.specs.Case.{known}
use Rattle.rules.specs.Clauses.{rises}
use Rattle.rules.specs.Questions.{passes, stops, first_no}
use Rattle.rules.specs.Results.{defining, kept, short_enough}
use Rattle.steps.specs.Asks.{define_asks}
use Rattle.steps.proofs.Verdicts.{yes, no_at, yes_then}

some_codes : (cs : List ℕ) → (length cs ≡ 0 → ⊥) → not (none cs) ≡ true
some_codes [] h = absurd (h refl)
some_codes (c ∷ cs) h = refl

no_codes : (cs : List ℕ) → length cs ≡ 0 → not (none cs) ≡ false
no_codes [] h = refl
no_codes (c ∷ cs) h = absurd (omega (arith, h))

at_least_one : (cs : List ℕ) → not (none cs) ≡ true → 1 ≤ length cs
at_least_one [] h = absurd (let o : ◌≡◌ {A = ℕ} 0 1 = cc in omega arith)
at_least_one (c ∷ cs) h = omega arith

module _ (v : View) (n to : ℕ) (ls : List ℕ) where
  abbrev fits : Bool
  fits = not (none ls) && (rises (known n v) 0 ls && ltb n v.highest)

  abbrev rs : List (List ℕ)
  rs = defining (n + 1) ls

  pub define_none : length ls ≡ 0 → stops 10 0 ≡ first_no (define_asks v n to ls)
  define_none h = no_at 10 fits _ (and_left (not (none ls)) (rises (known n v) 0 ls && ltb n v.highest) (no_codes ls h))

  -- what the first question affirms
  record Fits : Type 0 where
    some : 1 ≤ length ls
    climbs : Rising v.highest 0 ls
    next : n + 1 ≤ v.highest
    new : stands (n + 1) ls ≡ false

  pub fitted : (length ls ≡ 0 → ⊥) → true ≡ rises (known n v) 0 ls → n < v.highest → fits ≡ true
  fitted h e l =
      and_from (not (none ls)) (rises (known n v) 0 ls && ltb n v.highest) (some_codes ls h) (and_from (rises (known n v) 0 ls) (ltb n v.highest) (sym e) (lt-ltb n v.highest l))

  fitting : fits ≡ true → Fits
  fitting e =
      let a = and_parts (not (none ls)) (rises (known n v) 0 ls && ltb n v.highest) e in
      let b = and_parts (rises (known n v) 0 ls) (ltb n v.highest) a.1 in
      let l = ltb-true n v.highest b.1 in
      record {
        some = at_least_one ls a.0;
        climbs = rising (known n v) v.highest 0 ls (omega arith) b.0;
        next = omega arith;
        new = stands_above (known n v) 0 (n + 1) ls (rising (known n v) (known n v) 0 ls (omega arith) b.0) (omega arith);
      }

  module _ (e : fits ≡ true) where
    f : Fits
    f = fitting e

    short_here : length ls + 1 ≤ v.longest → short_enough v.longest rs ≡ true
    short_here h = short_defining v.highest (n + 1) (omega arith) f.next v.longest ls f.some h f.climbs f.new

    long_here : v.longest < length ls + 1 → short_enough v.longest rs ≡ false
    long_here h = long_defining v.highest (n + 1) (omega arith) f.next v.longest ls h f.climbs f.new

    taken : length (kept rs) ≡ length ls + 1
    taken = kept_defining v.highest (n + 1) (omega arith) f.next ls f.climbs f.new

    pub define_long : v.longest ≤ length ls → stops 11 0 ≡ first_no (define_asks v n to ls)
    define_long h = no_at 11 (short_enough v.longest rs) _ (long_here (omega arith)) ∙ yes 10 fits _ e

    module _ (h : length ls < v.longest) where
      after_short : (b : Bool) → b ≡ roomy v to (length ls + 1) → b ≡ roomy v to (length (kept rs))
      after_short b q = q ∙ ap (roomy v to) (sym taken)

      pub define_crowded : false ≡ roomy v to (length ls + 1) → stops 12 0 ≡ first_no (define_asks v n to ls)
      define_crowded q = no_at 12 (roomy v to (length (kept rs))) passes (sym (after_short false q)) ∙ yes 11 (short_enough v.longest rs) _ (short_here (omega arith)) ∙ yes 10 fits _ e

      pub define_passes : true ≡ roomy v to (length ls + 1) → passes ≡ first_no (define_asks v n to ls)
      define_passes q = yes 12 (roomy v to (length (kept rs))) passes (sym (after_short true q)) ∙ yes 11 (short_enough v.longest rs) _ (short_here (omega arith)) ∙ yes 10 fits _ e

  pub passed_fits : passes ≡ first_no (define_asks v n to ls) → fits ≡ true
  passed_fits h = (yes_then 10 fits _ h).0

  -- a granted define may be done
  pub definable : passes ≡ first_no (define_asks v n to ls) → Definable v (n + 1) ls × Placeable v to rs
  definable h =
      let q₁₀ = yes_then 10 fits _ h in
      let q₁₁ = yes_then 11 (short_enough v.longest rs) _ q₁₀.1 in
      let q₁₂ = yes_then 12 (roomy v to (length (kept rs))) passes q₁₁.1 in
      let z = f q₁₀.0 in
      let s : length ls + 1 ≤ v.longest =
      elim (cases_lt v.longest (length ls + 1)) [ inl k ↦ let c : true ≡ false = sym q₁₁.0 ∙ long_here q₁₀.0 k in absurd (let o : ◌≡◌ {A = ℕ} 0 1 = cc in omega arith) | inr k ↦ k ] in
      (record { rises = z.climbs; some = omega arith; known = z.next; new = z.new; short = s }, record { fits = q₁₁.0; room = q₁₂.0 })

-- by what the code tests
pub fits_tested : (v : View) (n to : ℕ) (literals : List Literal) {b : Bool} {top : ℕ} → b ≡ eqb (length literals) 0 → b ≡ false → true ≡ rises top 0 (codes literals) → top ≡ known n v → n < v.highest → fits v n to (codes literals) ≡ true
fits_tested v n to literals e f r t l =
    fitted v n to (codes literals) (λ z. both_ways _ f (e ∙ eq-eqb _ 0 (sym (codes_length literals) ∙ z))) (r ∙ ap (λ (i : ℕ). rises i 0 (codes literals)) t) l
