-- What a granted `add` tells, and one literal added to a shelf with every place free.
use Rattle.std.proofs.Common.{◌≡◌, ℕ, zero, suc, ◌/◌, ◌≤◌, Bool, true, false, cond, ◌&&◌, ltb, leb, List, [], length, get_or, set, replicate, is_ok, Ok, Err, Result, refl, ap, ◌∙◌, arith}
use Rattle.std.proofs.lemmas.List.{get_or-set_same, length-replicate}
use Rattle.std.proofs.lemmas.Bool.{both_ways, cond-true, ltb-true, leb-true, and_parts}
use Rattle.shelf.specs.Answers.{added, after_add, fitted}
use Rattle.shelf.specs.Literals.{put, stands}
use Rattle.shelf.specs.Telling.{answer_with, lone_answer, once, size_then}
use Rattle.shelf.specs.View.{View, clause}

ok_then : (b : Bool) (r : Result (Unit {0}) ℕ) (n : ℕ) → is_ok (cond b r (Err n)) ≡ true → (b ≡ true) × (is_ok r ≡ true)
ok_then true r n h = (refl, h)
ok_then false r n h = absurd (both_ways false refl h)

ok_else : (b : Bool) (r : Result (Unit {0}) ℕ) (n : ℕ) → is_ok (cond b (Err n) r) ≡ true → b ≡ false
ok_else true r n h = absurd (both_ways false refl h)
ok_else false r n h = refl

pub added_ok : (v : View) (p c : ℕ) → is_ok (added v p c) ≡ true → (1 ≤ c / 2) × (c / 2 ≤ v.highest) × (stands (c / 2) (clause v p) ≡ false)
added_ok v p c h =
    let cs = clause v p in
    let full = cond (ltb (length cs) v.longest) (Ok tt) (Err 84) in
    let known = leb 1 (c / 2) && leb (c / 2) v.highest in
    let a = ok_then (ltb p v.places) (cond known (fitted v.longest cs c) (Err 82)) 81 h in
    let b = ok_then known (fitted v.longest cs c) 82 a.1 in
    let k = and_parts (leb 1 (c / 2)) (leb (c / 2) v.highest) b.0 in
    (leb-true 1 (c / 2) k.0, leb-true (c / 2) v.highest k.1, ok_else (stands (c / 2) cs) full 83 b.1)

lone_size : (v : View) (c : ℕ) → length v.held ≡ v.places → clause v 0 ≡ [] → is_ok (added v 0 c) ≡ true → length (clause (after_add v 0 c) 0) ≡ 1
unfolding put
lone_size v c count free ok =
    let a = ltb-true 0 v.places (ok_then (ltb 0 v.places) _ 81 ok).0 in
    let one : length (put c (clause v 0)) ≡ 1 = ap (λ (cs : List ℕ). length (put c cs)) free in
    ap (λ (h : List (List ℕ)). length (get_or h 0 [])) (cond-true (is_ok (added v 0 c)) (set v.held 0 (put c (clause v 0))) v.held ok)
    ∙ ap length (get_or-set_same v.held 0 (put c (clause v 0)) [] (omega arith))
    ∙ one

freed_first : (P : ℕ) → get_or {A = List ℕ} (replicate P []) 0 [] ≡ []
freed_first zero = refl
freed_first (suc P) = refl

-- on a shelf with every place free the size is 1
pub lone_then : (v : View) (c : ℕ) → v.held ≡ replicate v.places [] → size_then v c ≡ lone_answer v c
unfolding size_then
lone_then v c free =
    let none_there : clause v 0 ≡ [] = ap (λ (h : List (List ℕ)). get_or h 0 []) free ∙ freed_first v.places in
    let one = lone_size v c (ap length free ∙ length-replicate v.places []) none_there in
    answered (added v 0 c) (length (clause (after_add v 0 c) 0)) one
  where
    answered : (r : Result (Unit {0}) ℕ) (n : ℕ) → (is_ok r ≡ true → n ≡ 1) → answer_with n r ≡ once r
    answered (Ok u) n h = ap (λ k. Ok k) (h refl)
    answered (Err e) n h = refl
