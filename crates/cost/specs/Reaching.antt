-- What reach says, in facts: a result of `reached` is the list itself or names
-- the first tier out of reach, a list of the right length is within a scale
-- exactly where no tier is out of reach, and what a row reads as is within it.
--
--   read_within, read_other   a row in reach reads as itself, and another as nothing
--   read_bounded   what a row reads as is within the scale
use Rattle.std.specs.Prelude.{◌≡◌, ℕ, zero, suc, ◌+◌, ◌<◌, true, cond, List, [], ◌∷◌, length, ℤ, pos, Some, None, Ok, Err, is_none, slice_index_or, refl}
use Rattle.std.proofs.Common.{inl, inr, arith}
use Rattle.std.proofs.lemmas.Int.{ints}
use Rattle.std.proofs.lemmas.Bool.{cases_Bool}
use Rattle.std.proofs.lemmas.List.{length-replicate}
use Rattle.std.specs.List.{AllByRecursion}
use Rattle.cost.specs.Figures.{zeros}
use Rattle.cost.specs.Laws.{ReachTells}
use Rattle.cost.specs.Reach.{Scale, near, Near, beyond, beyond_from, read_as, reached, Within}

pub near_true : (R : ℕ) (x : ℤ) → Near R x → near R x ≡ true
near_true R x p = grind (arith, ints)

pub near_parts : (R : ℕ) (x : ℤ) → near R x ≡ true → Near R x
near_parts R x e = (grind (arith, ints), grind (arith, ints))

all_near : (R t : ℕ) (xs : List ℤ) → AllByRecursion (Near R) xs → beyond_from R t xs ≡ None
all_near R t [] h = refl
all_near R t (x ∷ xs) h = rw (near_true R x h.0) (all_near R (t + 1) xs h.1)

near_all : (R t : ℕ) (xs : List ℤ) → beyond_from R t xs ≡ None → AllByRecursion (Near R) xs
near_all R t [] e = tt
near_all R t (x ∷ xs) e =
    let h : near R x ≡ true = grind (arith, ints) in
    let r : beyond_from R (t + 1) xs ≡ None = grind (arith, ints) in
    (near_parts R x h, near_all R (t + 1) xs r)

pub within_in_reach : (k : Scale) (xs : List ℤ) → Within k xs → beyond k xs ≡ None
within_in_reach k xs h = all_near k.reach 1 xs h.1

pub in_reach_within : (k : Scale) (xs : List ℤ) → length xs ≡ k.tiers → beyond k xs ≡ None → Within k xs
in_reach_within k xs l e = (l, near_all k.reach 1 xs e)

-- what a row reads as: its figures where they are in reach, else nothing, and within the scale either way

zeros_near : (R n : ℕ) → AllByRecursion (Near R) (zeros n)
zeros_near R zero = tt
zeros_near R (suc n) = ((omega (arith, ints), omega (arith, ints)), zeros_near R n)

pub read_within : (k : Scale) (xs : List ℤ) → Within k xs → read_as k xs ≡ xs
read_within k xs h = rw (within_in_reach k xs h)

pub read_other : (k : Scale) (xs : List ℤ) → length xs ≡ k.tiers → (Within k xs → ⊥) → read_as k xs ≡ zeros k.tiers
read_other k xs l out =
    elim (beyond k xs) as (λ o. beyond k xs ≡ o → cond (is_none o) xs (zeros k.tiers) ≡ zeros k.tiers) [
      | None ↦ λ e. absurd (out (in_reach_within k xs l e))
      | Some t ↦ λ e. refl
    ] refl

pub read_bounded : (k : Scale) (xs : List ℤ) → length xs ≡ k.tiers → Within k (read_as k xs)
read_bounded k xs l =
    elim (beyond k xs) as (λ o. beyond k xs ≡ o → Within k (cond (is_none o) xs (zeros k.tiers))) [
      | None ↦ λ e. in_reach_within k xs l e
      | Some t ↦ λ e. (length-replicate k.tiers (pos 0), zeros_near k.reach k.tiers)
    ] refl

-- what a result of `reached` is

pub reached_ok : (k : Scale) (xs ys : List ℤ) → Ok ys ≡ reached k xs → (ys ≡ xs) × (beyond k xs ≡ None)
reached_ok k xs ys e = (grind arith, grind arith)

pub reached_err : (k : Scale) (xs : List ℤ) (t : ℕ) → Err t ≡ reached k xs → beyond k xs ≡ Some t
reached_err k xs t e = grind arith

-- the first figure that is not near, where the first of the list counts as s
Far : ℕ → ℕ → List ℤ → ℕ → Type 0
Far R s xs t = (i : ℕ) × (t ≡ s + i) × (i < length xs) × (Near R (slice_index_or xs i (pos 0)) → ⊥) × ((j : ℕ) → j < i → Near R (slice_index_or xs j (pos 0)))

near_before : (R : ℕ) (x : ℤ) (xs : List ℤ) (i : ℕ) → Near R x → ((j : ℕ) → j < i → Near R (slice_index_or xs j (pos 0))) → (j : ℕ) → j < suc i → Near R (slice_index_or (x ∷ xs) j (pos 0))
near_before R x xs i h below zero l = h
near_before R x xs i h below (suc j) l = below j (omega arith)

far_from : (R s : ℕ) (xs : List ℤ) (t : ℕ) → beyond_from R s xs ≡ Some t → Far R s xs t
unfolding Far
far_from R s [] t e = absurd (cc)
far_from R s (x ∷ xs) t e =
    elim (cases_Bool (near R x)) [
      | inl h ↦
          let r : beyond_from R (s + 1) xs ≡ Some t = grind arith in
          let f = far_from R (s + 1) xs t r in
          (suc f.0, omega (arith, f.1), omega (arith, f.2), f.3, near_before R x xs f.0 (near_parts R x h) f.4)
      | inr h ↦
          let p : s ≡ t = grind arith in
          (0, omega arith, omega arith, λ n. absurd (cc (near_true R x n, h)), λ j l. absurd (omega arith))
    ]

pub reach_tells : ReachTells
unfolding Far
reach_tells k xs = record { none_far = within_in_reach k xs; within = in_reach_within k xs; first_far = far_from k.reach 1 xs }
