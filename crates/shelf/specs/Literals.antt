-- Literals by their codes, and clauses as rising lists of codes.
--
--   variable c     the variable of the code c: the literal of the variable v has
--                  the code 2 · v, and its opposite 2 · v + 1
--   opposite c     the code of the opposite literal
--   Rising V b cs  the variables of cs rise strictly, from above b up to V; so
--                  no variable stands twice
--   among c cs     whether the code c stands in cs
--   stands v cs    whether the variable v stands in cs, in either sign
--   put c cs       cs with c put in before the first greater code
--   none cs        whether cs is empty
use Rattle.std.specs.Prelude.{ℕ, ◌+◌, ◌-◌, ◌*◌, ◌/◌, ◌%◌, ◌<◌, ◌≤◌, Bool, true, false, cond, ◌||◌, List, [], ◌∷◌, ◌==◌, nat_lt}

abbrev pub variable : ℕ → ℕ
variable c = c / 2

abbrev pub opposite : ℕ → ℕ
opposite c = (c + 1) - 2 * (c % 2)

abbrev pub Rising : ℕ → ℕ → List ℕ → Type 0
Rising V b [] = Unit {0}
Rising V b (c ∷ cs) = (b < variable c) × (variable c ≤ V) × Rising V (variable c) cs

unfoldable pub among : ℕ → List ℕ → Bool
among c [] = false
among c (x ∷ xs) = x == c || among c xs

unfoldable pub stands : ℕ → List ℕ → Bool
stands v [] = false
stands v (x ∷ xs) = variable x == v || stands v xs

unfoldable pub put : ℕ → List ℕ → List ℕ
put c [] = c ∷ []
put c (x ∷ xs) = cond (nat_lt c x) (c ∷ x ∷ xs) (x ∷ put c xs)

abbrev pub none : List ℕ → Bool
none [] = true
none (c ∷ cs) = false
