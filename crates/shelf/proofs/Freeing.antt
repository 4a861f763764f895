-- Places freed one after another.
use Rattle.std.proofs.Common.{◌≡◌, ℕ, zero, suc, ◌+◌, ◌<◌, min, List, [], ◌∷◌, ◌++◌, length, drop, set, replicate, sym, refl, ap, ◌∙◌, arith}
use Rattle.std.proofs.lemmas.List.{drop_all, append-nil, drop_min}
use Rattle.shelf.specs.View.{View, Sound, with_held, emptied, emptied_below}
use Rattle.shelf.specs.Answers.{after_wipe}

-- one place more
pub freed_more : {A : Type 0} (d : A) (xs : List A) (p : ℕ) → p < length xs → set (replicate p d ++ drop p xs) p d ≡ replicate (p + 1) d ++ drop (p + 1) xs
freed_more d [] p h = absurd (omega arith)
freed_more d (x ∷ xs) zero h = refl
freed_more d (x ∷ xs) (suc p) h = let e : suc p + 1 ≡ suc (p + 1) = omega arith in rw e (ap (λ ys. d ∷ ys) (freed_more d xs p (omega arith)))

-- v with its first p places free
abbrev pub freed : View → ℕ → View
freed v p = with_held v (replicate p [] ++ drop p v.held)

pub freed_step : (v : View) {w w' : View} (p : ℕ) → p < length v.held → w ≡ freed v p → w' ≡ after_wipe w p → w' ≡ freed v (p + 1)
freed_step v p h e f = f ∙ ap (λ x. after_wipe x p) e ∙ ap (with_held v) (freed_more [] v.held p h)

pub freed_done : (v : View) {w : View} (n : ℕ) {p : ℕ} → Sound v → p ≡ min n v.places → w ≡ freed v p → w ≡ emptied_below n v
freed_done v n s e f =
    f ∙ ap (freed v) e
    ∙ ap (λ (k : ℕ). with_held v (replicate (min n v.places) [] ++ drop (min n k) v.held)) (sym s.count)
    ∙ ap (λ h. with_held v (replicate (min n v.places) [] ++ h)) (drop_min n v.held)

pub all_freed : (v : View) → Sound v → emptied_below v.places v ≡ emptied v
all_freed v s =
    let all : min v.places v.places ≡ v.places = omega arith in
    ap (λ h. with_held v (replicate (min v.places v.places) [] ++ h)) (drop_all v.places v.held (omega (arith, s.count)))
    ∙ ap (with_held v) (append-nil (replicate (min v.places v.places) []))
    ∙ ap (λ (k : ℕ). with_held v (replicate k [])) all
