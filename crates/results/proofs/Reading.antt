-- Two places of a shelf as parents: the clauses that are read rise, so that every
-- result is spread.
use Rattle.std.proofs.Common.{◌≡◌, ℕ, ◌≤◌, Bool, List, [], length, sym, subst, inl, inr, arith}
use Rattle.std.proofs.lemmas.List.{get_or_past}
use Rattle.std.proofs.lemmas.Bool.{cases_lt}
use Rattle.rules.specs.Clauses.{without}
use Rattle.rules.specs.Results.{results}
use Rattle.shelf.specs.Literals.{Rising}
use Rattle.shelf.specs.View.{View, Sound, clause}
use Rattle.results.specs.Spread.{AllSpread}
use Rattle.results.proofs.Listing.{results_spread}
use Rattle.results.proofs.Shapes.{rising_without}

pub clause_rises : (v : View) (p : ℕ) → Sound v → Rising v.highest 0 (clause v p)
clause_rises v p s =
    elim (cases_lt p v.places) [
      | inl h ↦ (s.clauses p h).rises
      | inr h ↦ let l : length v.held ≤ p = omega (arith, s.count) in rw (get_or_past v.held p [] l) tt
    ]

-- the results of parents that are read from a shelf are spread
pub read_spread : {p q a b : List ℕ} (v : View) (i j c d : ℕ) (wp wq : Bool) → Sound v → p ≡ clause v i → q ≡ clause v j → a ≡ without c p → b ≡ without d q → AllSpread v.highest (results p q a b wp wq)
read_spread {p = p} {q = q} {a = a} {b = b} v i j c d wp wq s e f g h =
    let V = v.highest in
    let hp : Rising V 0 p = subst (Rising V 0) (sym e) (clause_rises v i s) in
    let hq : Rising V 0 q = subst (Rising V 0) (sym f) (clause_rises v j s) in
    results_spread V p q a b wp wq hp hq (subst (Rising V 0) (sym g) (rising_without V c 0 p hp)) (subst (Rising V 0) (sym h) (rising_without V d 0 q hq))
