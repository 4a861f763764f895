-- What stands at a place.
--
--   filled       whether a place is there and holds a clause
--   vacant       whether a place is there and free
--   roomy v p n  whether the n places from p on are there and free
--   Writable     the clause may be written to the place p
--   Lacks v p    the place p is not there: no clause, and nothing to free
use Rattle.std.specs.Prelude.{◌≡◌, ℕ, zero, suc, ◌+◌, ◌≤◌, Bool, true, not, ◌&&◌, List, [], length, nat_lt, slice_index_or, slice_set}
use Rattle.shelf.specs.Literals.{Rising, none}
use Rattle.shelf.specs.View.{View, clause}

abbrev pub filled : View → ℕ → Bool
filled v p = nat_lt p v.places && not (none (clause v p))

abbrev pub vacant : View → ℕ → Bool
vacant v p = nat_lt p v.places && none (clause v p)

unfoldable pub roomy : View → ℕ → ℕ → Bool
roomy v p zero = true
roomy v p (suc n) = vacant v p && roomy v (p + 1) n

pub record Writable (v : View) (p : ℕ) (cs : List ℕ) : Type 0 where
  pub is_vacant : vacant v p ≡ true
  pub rises : Rising v.highest 0 cs
  pub short : length cs ≤ v.longest

pub record Lacks (v : View) (p : ℕ) : Type 0 where
  pub place : v.places ≤ p
  pub clause : slice_index_or v.held p [] ≡ []
  pub free : slice_set v.held p [] ≡ v.held
