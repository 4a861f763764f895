-- The results of a step: which there are, which take places, and where they go.
--
--   resolvents l p q wp wq   the results of resolving the clause p, which has the
--                 literal l, with q, which has its opposite: the rest of p with the
--                 rest of q; the compensations of p where wp; those of q where wq
--   halves x cs   the two results of splitting cs on the variable x
--   defining d ls the clauses that make d true exactly where some literal of ls is
--   kept          the results that take places: neither vanishing nor empty
--   short_enough  whether each that does not vanish has at most L literals
--   has_empty     whether one is empty
--   laid to rs ps each of rs put into its place, from the place `to` on
--   alike c rs    the cell c for each of rs
use Rattle.std.specs.Prelude.{ℕ, ◌+◌, ◌*◌, Bool, true, false, cond, ◌&&◌, ◌||◌, List, [], ◌∷◌, ◌++◌, map, length, nat_le, slice_set}
use Rattle.shelf.specs.Literals.{opposite, put, none}
use Rattle.rules.specs.Clauses.{without, merge, compensations, vanishes}

abbrev pub where_soft : Bool → List (List ℕ) → List (List ℕ)
where_soft true rs = rs
where_soft false rs = []

-- a is the rest of p, and b the rest of q
abbrev pub results : List ℕ → List ℕ → List ℕ → List ℕ → Bool → Bool → List (List ℕ)
results p q a b wp wq = merge a b ∷ (where_soft wp (compensations p b) ++ where_soft wq (compensations q a))

abbrev pub resolvents : ℕ → List ℕ → List ℕ → Bool → Bool → List (List ℕ)
resolvents l p q wp wq = results p q (without l p) (without (opposite l) q) wp wq

abbrev pub halves : ℕ → List ℕ → List (List ℕ)
halves x cs = put (2 * x) cs ∷ put (2 * x + 1) cs ∷ []

unfoldable pub implied : ℕ → List ℕ → List (List ℕ)
implied d [] = []
implied d (l ∷ ls) = put (2 * d) (opposite l ∷ []) ∷ implied d ls

abbrev pub defining : ℕ → List ℕ → List (List ℕ)
defining d ls = put (2 * d + 1) ls ∷ implied d ls

unfoldable pub kept : List (List ℕ) → List (List ℕ)
kept [] = []
kept (r ∷ rs) = cond (vanishes r || none r) (kept rs) (r ∷ kept rs)

unfoldable pub short_enough : ℕ → List (List ℕ) → Bool
short_enough L [] = true
short_enough L (r ∷ rs) = (vanishes r || nat_le (length r) L) && short_enough L rs

unfoldable pub has_empty : List (List ℕ) → Bool
has_empty [] = false
has_empty (r ∷ rs) = none r || has_empty rs

unfoldable pub laid : {X : Type 0} → ℕ → List X → List X → List X
laid to [] ps = ps
laid to (r ∷ rs) ps = laid (to + 1) rs (slice_set ps to r)

abbrev pub alike : {X : Type 0} → X → List (List ℕ) → List X
alike c rs = map (λ _. c) rs
