-- What is made of rising lists, code by code: a merge, a filter, and one code put in.
use Rattle.std.proofs.Common.{◌≡◌, ℕ, suc, ◌+◌, ◌<◌, ◌≤◌, Bool, true, false, cond, not, eqb, ltb, List, [], ◌∷◌, length, get_or, drop, filter, refl, ap, arith}
use Rattle.std.proofs.lemmas.Bool.{lt-ltb, le-ltb, eq-eqb, ne_eqb}
use Rattle.std.proofs.lemmas.List.{drop_more}
use Rattle.std.proofs.lemmas.List.Sums.{prefix_len-le-length}
use Rattle.std.specs.List.{insert, position, position_or_len}
use Rattle.std.specs.Option.{unwrap_or}
use Rattle.shelf.specs.Literals.{put}
use Rattle.rules.specs.Clauses.{without, into, merge}

pub merge_less : (a b : ℕ) (as' bs : List ℕ) → a < b → merge (a ∷ as') (b ∷ bs) ≡ a ∷ merge as' (b ∷ bs)
unfolding merge into
merge_less a b as' bs h = rw (lt-ltb a b h)

pub merge_same : (a b : ℕ) (as' bs : List ℕ) → a ≡ b → merge (a ∷ as') (b ∷ bs) ≡ a ∷ merge as' bs
unfolding merge into
merge_same a b as' bs h = let l : b ≤ a = omega arith in rw (le-ltb a b l, eq-eqb a b h)

pub merge_more : (a b : ℕ) (as' bs : List ℕ) → b < a → merge (a ∷ as') (b ∷ bs) ≡ b ∷ merge (a ∷ as') bs
unfolding merge into
merge_more a b as' bs h = let l : b ≤ a = omega arith in let n : a ≡ b → ⊥ = λ e. omega arith in rw (le-ltb a b l, ne_eqb a b n)

-- the same of what is left of two lists
module _ (x y : List ℕ) (i j : ℕ) (hi : i < length x) (hj : j < length y) where
  pub less_at : get_or x i 0 < get_or y j 0 → merge (drop i x) (drop j y) ≡ get_or x i 0 ∷ merge (drop (i + 1) x) (drop j y)
  less_at h = rw (drop_more x i 0 hi, drop_more y j 0 hj) (merge_less (get_or x i 0) (get_or y j 0) (drop (i + 1) x) (drop (j + 1) y) h)

  pub same_at : get_or x i 0 ≡ get_or y j 0 → merge (drop i x) (drop j y) ≡ get_or x i 0 ∷ merge (drop (i + 1) x) (drop (j + 1) y)
  same_at h = rw (drop_more x i 0 hi, drop_more y j 0 hj) (merge_same (get_or x i 0) (get_or y j 0) (drop (i + 1) x) (drop (j + 1) y) h)

  pub more_at : get_or y j 0 < get_or x i 0 → merge (drop i x) (drop j y) ≡ get_or y j 0 ∷ merge (drop i x) (drop (j + 1) y)
  more_at h = rw (drop_more x i 0 hi, drop_more y j 0 hj) (merge_more (get_or x i 0) (get_or y j 0) (drop (i + 1) x) (drop (j + 1) y) h)

-- once one list is at its end, what is left of both is what is left of the other
pub merge_left : (xs : List ℕ) → merge xs [] ≡ xs
unfolding merge into
merge_left [] = refl
merge_left (x ∷ xs) = ap (λ (l : List ℕ). x ∷ l) (merge_left xs)

pub merge_right : (ys : List ℕ) → merge [] ys ≡ ys
unfolding merge
merge_right ys = refl

pub without_filter : (c : ℕ) (xs : List ℕ) → without c xs ≡ filter (λ x. not (eqb c x)) xs
unfolding without
without_filter c [] = refl
without_filter c (x ∷ xs) = go (eqb c x) (without_filter c xs)
  where
    go : (t : Bool) → without c xs ≡ filter (λ x. not (eqb c x)) xs → cond t (without c xs) (x ∷ without c xs) ≡ cond (not t) (x ∷ filter (λ x. not (eqb c x)) xs) (filter (λ x. not (eqb c x)) xs)
    go true e = e
    go false e = ap (λ ys. x ∷ ys) e

-- put in at the first greater code, or at the end
pub put_insert : (c : ℕ) (xs : List ℕ) → put c xs ≡ insert xs (position_or_len (ltb c) xs) c
unfolding put
put_insert c [] = refl
put_insert c (x ∷ xs) = go (ltb c x) (put_insert c xs)
  where
    go : (t : Bool) → put c xs ≡ insert xs (position_or_len (ltb c) xs) c → cond t (c ∷ x ∷ xs) (x ∷ put c xs) ≡ insert (x ∷ xs) (cond (not t) (1 + position_or_len (ltb c) xs) 0) c
    go true e = refl
    go false e = let n : 1 + position_or_len (ltb c) xs ≡ suc (position_or_len (ltb c) xs) = omega arith in rw n (ap (λ ys. x ∷ ys) e)

pub place_or_end : {X : Type 0} (p : X → Bool) (xs : List X) → unwrap_or (position p xs) (length xs) ≡ position_or_len p xs
place_or_end p xs = grind (arith, prefix_len-le-length (λ x. not (p x)) xs)
