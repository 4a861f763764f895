-- Exact figures as an ordered commutative group: one lemma for each law, for
-- all lists where that is so, and else for lists of equal length. They know
-- nothing of reach or of any cost kind.
use Rattle.std.specs.Prelude.{◌≡◌, suc, List, [], ◌∷◌, length, ℤ, ◌+ℤ◌, ◌-ℤ◌, refl}
use Rattle.std.proofs.Common.{ap, arith}
use Rattle.std.specs.declared.cmp.Ordering.TheVariants.{Less, Equal}
use Rattle.std.specs.Ordering.{ordering_reverse}
use Rattle.std.proofs.Math.IntN.{+ℤ_comm, +ℤ_assoc, +ℤ_idr}
use Rattle.std.proofs.lemmas.Int.{ints}
use Rattle.cost.specs.Figures.{zeros, plus, minus, order}

-- lengths

pub plus_length : (xs ys : List ℤ) → length xs ≡ length ys → length (plus xs ys) ≡ length xs
plus_length [] ys l = refl
plus_length (x ∷ xs) [] l = absurd (omega (arith, l))
plus_length (x ∷ xs) (y ∷ ys) l = ap suc (plus_length xs ys (omega (arith, l)))

pub minus_length : (xs ys : List ℤ) → length xs ≡ length ys → length (minus xs ys) ≡ length xs
minus_length [] ys l = refl
minus_length (x ∷ xs) [] l = absurd (omega (arith, l))
minus_length (x ∷ xs) (y ∷ ys) l = ap suc (minus_length xs ys (omega (arith, l)))

-- sums

pub plus_comm : (xs ys : List ℤ) → plus xs ys ≡ plus ys xs
plus_comm [] [] = refl
plus_comm [] (y ∷ ys) = refl
plus_comm (x ∷ xs) [] = refl
plus_comm (x ∷ xs) (y ∷ ys) = cc (+ℤ_comm x y, plus_comm xs ys)

pub plus_assoc : (xs ys zs : List ℤ) → plus (plus xs ys) zs ≡ plus xs (plus ys zs)
plus_assoc [] ys zs = refl
plus_assoc (x ∷ xs) [] zs = refl
plus_assoc (x ∷ xs) (y ∷ ys) [] = refl
plus_assoc (x ∷ xs) (y ∷ ys) (z ∷ zs) = cc (+ℤ_assoc x y z, plus_assoc xs ys zs)

pub plus_zeros : (xs : List ℤ) → plus xs (zeros (length xs)) ≡ xs
plus_zeros [] = refl
plus_zeros (x ∷ xs) = cc (+ℤ_idr x, plus_zeros xs)

pub plus_minus : (xs ys : List ℤ) → length xs ≡ length ys → plus ys (minus xs ys) ≡ xs
plus_minus [] [] l = refl
plus_minus [] (y ∷ ys) l = absurd (omega (arith, l))
plus_minus (x ∷ xs) [] l = absurd (omega (arith, l))
plus_minus (x ∷ xs) (y ∷ ys) l =
    let h : y +ℤ (x -ℤ y) ≡ x = omega (arith, ints) in
    cc (h, plus_minus xs ys (omega (arith, l)))

-- the order

pub order_same : (xs : List ℤ) → order xs xs ≡ Equal
order_same [] = refl
order_same (x ∷ xs) = let h = order_same xs in grind (arith, ints)

pub order_equal : (xs ys : List ℤ) → length xs ≡ length ys → order xs ys ≡ Equal → xs ≡ ys
order_equal [] [] l e = refl
order_equal [] (y ∷ ys) l e = absurd (omega (arith, l))
order_equal (x ∷ xs) [] l e = absurd (omega (arith, l))
order_equal (x ∷ xs) (y ∷ ys) l e =
    let p : x ≡ y = grind (arith, ints) in
    let q : order xs ys ≡ Equal = grind (arith, ints) in
    cc (p, order_equal xs ys (omega (arith, l)) q)

pub order_flipped : (xs ys : List ℤ) → order ys xs ≡ ordering_reverse (order xs ys)
order_flipped [] [] = refl
order_flipped [] (y ∷ ys) = refl
order_flipped (x ∷ xs) [] = refl
order_flipped (x ∷ xs) (y ∷ ys) = let h = order_flipped xs ys in grind (arith, ints)

pub order_less : (xs ys zs : List ℤ) → order xs ys ≡ Less → order ys zs ≡ Less → order xs zs ≡ Less
order_less [] ys zs e f = absurd (cc)
order_less (x ∷ xs) [] zs e f = absurd (cc)
order_less (x ∷ xs) (y ∷ ys) [] e f = absurd (cc)
order_less (x ∷ xs) (y ∷ ys) (z ∷ zs) e f = let h = order_less xs ys zs in grind (arith, ints)

pub order_plus : (zs xs ys : List ℤ) → length zs ≡ length xs → order (plus zs xs) (plus zs ys) ≡ order xs ys
order_plus [] [] ys l = refl
order_plus [] (x ∷ xs) ys l = absurd (omega (arith, l))
order_plus (z ∷ zs) [] ys l = absurd (omega (arith, l))
order_plus (z ∷ zs) (x ∷ xs) [] l = refl
order_plus (z ∷ zs) (x ∷ xs) (y ∷ ys) l = let h = order_plus zs xs ys (omega (arith, l)) in grind (arith, ints)
