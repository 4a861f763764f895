-- What show sums up place by place is the plan's cost by the clauses on the shelf:
-- amounts are summed from the left, and the cost from the right.
use Rattle.std.proofs.Common.{◌≡◌, ℕ, Bool, true, false, cond, ◌&&◌, ◌||◌, List, [], ◌∷◌, length, ℤ, sym, refl, ap, ◌∙◌}
use Rattle.shelf.specs.Literals.{none}
use Rattle.cost.proofs.Groups.{plus_assoc, plus_length, plus_zeros}
use Rattle.cost.specs.Figures.{zeros, plus}
use Rattle.rules.specs.Cells.{Cell, hard, soft, Weighted}
use Rattle.rules.specs.Plans.{meets, cost, allowed}
use Rattle.rules.specs.Showing.{hard_met, met_at, owed, owed_at, summed}
use Rattle.rules.specs.Laws.{on_shelf, Tiered}

-- the sum of a list of amounts, from the right
total : ℕ → List (List ℤ) → List ℤ
total r [] = zeros r
total r (a ∷ more) = plus a (total r more)

abbrev Long : ℕ → List (List ℤ) → Type 0
Long r [] = Unit {0}
Long r (a ∷ more) = (length a ≡ r) × Long r more

from_right : (r : ℕ) (z : List ℤ) (os : List (List ℤ)) → length z ≡ r → Long r os → summed z os ≡ plus z (total r os)
unfolding summed total
from_right r z [] l h = sym (ap (λ (n : ℕ). plus z (zeros n)) (sym l) ∙ plus_zeros z)
from_right r z (a ∷ more) l h =
    from_right r (plus z a) more (plus_length z a (l ∙ sym h.0) ∙ l) h.1 ∙ plus_assoc z a (total r more)

owed_long : (r : ℕ) (x : List ℕ) (held : List (List ℕ)) (ks : List Cell) → Tiered r ks → Long r (owed x held ks)
unfolding owed
owed_long r x [] ks h = tt
owed_long r x (c ∷ cs) [] h = tt
owed_long r x (c ∷ cs) (hard ∷ ks) h = owed_long r x cs ks h.1
owed_long r x (c ∷ cs) (soft a ∷ ks) h =
    elim (none c || meets x c) as (λ b. Long r (cond b (owed x cs ks) (a ∷ owed x cs ks))) [ true ↦ owed_long r x cs ks h.1 | false ↦ (h.0, owed_long r x cs ks h.1) ]

-- one place more: free, or with a clause
cost_one : (r : ℕ) (x c : List ℕ) (k : Cell) (rest : List (List ℤ)) (ws : List Weighted) → total r rest ≡ cost r x ws
    → total r (owed_at x c k rest) ≡ cost r x (cond (none c) ws (record { clause = c; cell = k } ∷ ws))
unfolding cost total meets
cost_one r x [] hard rest ws e = e
cost_one r x [] (soft a) rest ws e = e
cost_one r x (d ∷ ds) hard rest ws e = e
cost_one r x (d ∷ ds) (soft a) rest ws e =
    elim (meets x (d ∷ ds)) as (λ b. total r (cond b rest (a ∷ rest)) ≡ cond b (cost r x ws) (plus a (cost r x ws))) [ true ↦ e | false ↦ ap (plus a) e ]

costs_same : (r : ℕ) (x : List ℕ) (held : List (List ℕ)) (ks : List Cell) → total r (owed x held ks) ≡ cost r x (on_shelf held ks)
unfolding owed on_shelf total cost
costs_same r x [] ks = refl
costs_same r x (c ∷ cs) [] = refl
costs_same r x (c ∷ cs) (k ∷ ks) = cost_one r x c k (owed x cs ks) (on_shelf cs ks) (costs_same r x cs ks)

pub shown_costs : (r : ℕ) (x : List ℕ) (z : List ℤ) (held : List (List ℕ)) (ks : List Cell) → length z ≡ r → Tiered r ks → summed z (owed x held ks) ≡ plus z (cost r x (on_shelf held ks))
shown_costs r x z held ks l h = from_right r z (owed x held ks) l (owed_long r x held ks h) ∙ ap (plus z) (costs_same r x held ks)

met_one : (x c : List ℕ) (k : Cell) (rest : Bool) (ws : List Weighted) → rest ≡ allowed x ws → (met_at x c k && rest) ≡ allowed x (cond (none c) ws (record { clause = c; cell = k } ∷ ws))
unfolding allowed meets
met_one x [] hard rest ws e = e
met_one x [] (soft a) rest ws e = e
met_one x (d ∷ ds) hard rest ws e = ap (λ (b : Bool). meets x (d ∷ ds) && b) e
met_one x (d ∷ ds) (soft a) rest ws e = e

pub shown_allowed : (x : List ℕ) (held : List (List ℕ)) (ks : List Cell) → hard_met x held ks ≡ allowed x (on_shelf held ks)
unfolding hard_met on_shelf allowed
shown_allowed x [] ks = refl
shown_allowed x (c ∷ cs) [] = refl
shown_allowed x (c ∷ cs) (k ∷ ks) = met_one x c k (hard_met x cs ks) (on_shelf cs ks) (shown_allowed x cs ks)
