-- A split, call by call: the variable is added at the place, the clause is copied to
-- the other place, and the opposite is added there.
use Rattle.std.proofs.Common.{◌≡◌, ℕ, ◌+◌, ◌*◌, ◌/◌, ◌<◌, ◌≤◌, true, false, cond, not, ltb, List, [], length, set, is_ok, Ok, Result, refl, ap, ◌∙◌, arith}
use Rattle.std.proofs.lemmas.List.{get_or-set_same, get_or-set_other, set-set, length-set}
use Rattle.std.proofs.lemmas.Bool.{both_ways, not-true, ltb-true, lt-ltb, le-leb, and_parts, and_from}
use Rattle.shelf.specs.Literals.{stands, put, none}
use Rattle.shelf.specs.View.{View, Sound, clause, with_held}
use Rattle.shelf.specs.Room.{Writable}
use Rattle.shelf.specs.Answers.{added, after_add}
use Rattle.results.specs.Splitting.{split_view, Splittable}

-- a literal that may be added
added_here : (v : View) (p c : ℕ) → p < v.places → 1 ≤ c / 2 → c / 2 ≤ v.highest → stands (c / 2) (clause v p) ≡ false → length (clause v p) < v.longest
    → after_add v p c ≡ with_held v (set v.held p (put c (clause v p)))
added_here v p c h l m s k =
    let ok : added v p c ≡ Ok tt = rw (lt-ltb p v.places h, le-leb 1 (c / 2) l, le-leb (c / 2) v.highest m, s, lt-ltb (length (clause v p)) v.longest k) in
    ap (λ (r : Result (Unit {0}) ℕ). with_held v (cond (is_ok r) (set v.held p (put c (clause v p))) v.held)) ok

module _ (v : View) (p x to : ℕ) (sound : Sound v) (may : Splittable v p x to) where
  there : (p < v.places) × (none (clause v p) ≡ false)
  there = let a = and_parts (ltb p v.places) (not (none (clause v p))) may.there in (ltb-true p v.places a.0, not-true (none (clause v p)) a.1)

  room : (to < v.places) × (none (clause v to) ≡ true)
  room = let a = and_parts (ltb to v.places) (none (clause v to)) may.room in (ltb-true to v.places a.0, a.1)

  apart : to ≡ p → ⊥
  apart e = both_ways (none (clause v to)) (ap (λ (q : ℕ). none (clause v q)) e ∙ there.1) room.1

  abbrev cs : List ℕ
  cs = clause v p

  abbrev with_variable : View
  with_variable = with_held v (set v.held p (put (2 * x) cs))

  first_added : {c : ℕ} → c ≡ 2 * x → after_add v p c ≡ with_variable
  first_added {c = c} e =
      let f : 2 * x / 2 ≡ x = omega arith in
      let s : stands (2 * x / 2) (clause v p) ≡ false = rw f may.new in
      let l = may.some in
      let m = may.known in
      ap (after_add v p) e ∙ added_here v p (2 * x) there.0 (omega arith) (omega arith) s may.short

  may_copy : Writable with_variable to cs
  may_copy =
      let same : clause with_variable to ≡ clause v to = get_or-set_other v.held p to (put (2 * x) cs) [] apart in
      let k = may.short in
      record {
        is_vacant = and_from (ltb to v.places) (none (clause with_variable to)) (lt-ltb to v.places room.0) (ap none same ∙ room.1);
        rises = (sound.clauses p there.0).rises;
        short = omega arith;
      }

  abbrev copied : View
  copied = with_held with_variable (set with_variable.held to cs)

  second_added : {c : ℕ} → c ≡ 2 * x + 1 → after_add copied to c ≡ split_view v p x to
  second_added {c = c} e =
      let f : (2 * x + 1) / 2 ≡ x = omega arith in
      let n : length (set v.held p (put (2 * x) cs)) ≡ v.places = length-set v.held p (put (2 * x) cs) ∙ sound.count in
      let r = room.0 in
      let here : clause copied to ≡ cs = get_or-set_same with_variable.held to cs [] (omega arith) in
      let s : stands ((2 * x + 1) / 2) (clause copied to) ≡ false = rw (f, here) may.new in
      let k : length (clause copied to) < v.longest = rw here may.short in
      let l = may.some in
      let m = may.known in
      ap (after_add copied to) e ∙ added_here copied to (2 * x + 1) room.0 (omega arith) (omega arith) s k
      ∙ ap (with_held v) (set-set with_variable.held to cs (put (2 * x + 1) (clause copied to)))
      ∙ ap (λ (ds : List ℕ). with_held v (set with_variable.held to (put (2 * x + 1) ds))) here

  -- w₁, w₂ and w₃ are what the shelf means after each call
  pub halved : {ds : List ℕ} {c d : ℕ} {w₁ w₂ w₃ : View} → ds ≡ clause v p → c ≡ 2 * x → d ≡ 2 * x + 1 → w₁ ≡ after_add v p c → (Writable w₁ to ds → w₂ ≡ with_held w₁ (set w₁.held to ds)) → w₃ ≡ after_add w₂ to d → w₃ ≡ split_view v p x to
  halved {d = d} {w₁ = w₁} {w₂ = w₂} e f g one two three =
      let first : w₁ ≡ with_variable = one ∙ first_added f in
      let second : w₂ ≡ copied = two (rw (first, e) may_copy) ∙ rw (first, e) refl in
      three ∙ ap (λ (w : View). after_add w to d) second ∙ second_added g
