-- Questions put to the items of a list by their indices.
use Rattle.std.proofs.Common.{◌≡◌, ℕ, suc, ◌+◌, ◌<◌, Bool, ◌&&◌, ◌||◌, leb, List, [], ◌∷◌, length, get_or, sym, refl, ap, ap₂, ◌∙◌, arith}
use Rattle.std.specs.List.{list_all, list_any, range_with_len}
use Rattle.rules.specs.Plans.{makes_true, meets, bits}

-- the item after the first
after : {A : Type 0} (x : A) (xs : List A) (k : ℕ) (d : A) → get_or (x ∷ xs) (k + 1) d ≡ get_or xs k d
after x xs k d = let e : k + 1 ≡ suc k = omega arith in rw e refl

pub bits_all : (x : List ℕ) → list_all (λ b. leb b 1) x ≡ bits x
unfolding bits
bits_all [] = refl
bits_all (b ∷ bs) = ap (λ t. leb b 1 && t) (bits_all bs)

module _ (x : List ℕ) where
  met_from : (cs : List ℕ) (a : ℕ) (q : ℕ → Bool) → ((k : ℕ) → k < length cs → q (a + k) ≡ makes_true x (get_or cs k 0)) → list_any q (range_with_len a (length cs)) ≡ meets x cs
  unfolding meets
  met_from [] a q h = refl
  met_from (c ∷ cs) a q h =
      let z : a + 0 ≡ a = omega arith in
      ap₂ (λ s t. s || t) (ap q (sym z) ∙ h 0 (omega arith))
      (met_from cs (a + 1) q (λ k l. let e : a + 1 + k ≡ a + (k + 1) = omega arith in ap q e ∙ h (k + 1) (omega arith) ∙ ap (makes_true x) (after c cs k 0)))

  pub meets_any : (cs : List ℕ) → list_any (λ k. makes_true x (get_or cs k 0)) (range_with_len 0 (length cs)) ≡ meets x cs
  meets_any cs = met_from cs 0 (λ k. makes_true x (get_or cs k 0)) (λ k l. let e : 0 + k ≡ k = omega arith in ap (λ (j : ℕ). makes_true x (get_or cs j 0)) e)
