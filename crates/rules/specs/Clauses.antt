-- Clauses as rising lists of literal codes, and what the steps make of them.
--
--   rises V b cs      whether the variables of cs rise strictly, from above b
--                     up to V
--   without c cs      cs but for the code c
--   merge as bs       the union of two rising lists
--   compensations c bs   for each literal of bs in turn: the clause c with the
--                     opposite of that literal and with the later ones of bs
--   vanishes cs       whether a literal stands in cs with its opposite
--   same_codes        whether two lists are equal
use Rattle.std.specs.Prelude.{ℕ, Bool, true, false, cond, ◌&&◌, ◌||◌, List, [], ◌∷◌, ◌==◌, nat_le, nat_lt}
use Rattle.shelf.specs.Literals.{variable, opposite, among}

unfoldable pub rises : ℕ → ℕ → List ℕ → Bool
rises V b [] = true
rises V b (c ∷ cs) = nat_lt b (variable c) && (nat_le (variable c) V && rises V (variable c) cs)

unfoldable pub without : ℕ → List ℕ → List ℕ
without c [] = []
without c (d ∷ ds) = cond (c == d) (without c ds) (d ∷ without c ds)

-- a in front of bs, or behind those below it; f is what to do with the rest
unfoldable pub into : ℕ → (List ℕ → List ℕ) → List ℕ → List ℕ
into a f [] = a ∷ f []
into a f (b ∷ bs) =
    let first = a ∷ f (b ∷ bs) in
    let same = a ∷ f bs in
    let second = b ∷ into a f bs in
    cond (nat_lt a b) first (cond (a == b) same second)

unfoldable pub merge : List ℕ → List ℕ → List ℕ
merge [] bs = bs
merge (a ∷ as') bs = into a (merge as') bs

unfoldable pub compensations : List ℕ → List ℕ → List (List ℕ)
compensations c [] = []
compensations c (b ∷ bs) = merge c (opposite b ∷ bs) ∷ compensations c bs

unfoldable pub vanishes : List ℕ → Bool
vanishes [] = false
vanishes (c ∷ cs) = among (opposite c) cs || vanishes cs

unfoldable pub same_codes : List ℕ → List ℕ → Bool
same_codes [] [] = true
same_codes [] (d ∷ ds) = false
same_codes (c ∷ cs) [] = false
same_codes (c ∷ cs) (d ∷ ds) = c == d && same_codes cs ds
