-- What a shelf answers, and what it holds after. Refusals are told by their
-- numbers:
--
--   81   the place is not below P
--   82   the variable is not 1 to V
--   83   the variable stands there already, in either sign
--   84   the place has L literals
--
--   number_of     the number of each case of the code's enum
--   numbered      a result with its refusal told by number
--   added, wiped  what adding a code, or wiping a place, answers
--   after_add, after_wipe   what is held then; a refusal leaves all as it was
--   after_adds    what is held after a list of codes has been added to one place
--   Did, Became   what a call that may change a shelf did, with and without an answer
use Rattle.std.specs.Prelude.{◌≡◌, ℕ, cond, ◌&&◌, List, [], ◌∷◌, length, is_ok, Ok, Err, Result, nat_le, nat_lt, slice_set}
use Rattle.shelf.specs.declared.refusal.Refusal.{Refusal}
use Rattle.shelf.specs.declared.refusal.Refusal.TheVariants.{NoSuchPlace, NoSuchVariable, VariableStands, ClauseFull}
use Rattle.shelf.specs.Literals.{variable, stands, put}
use Rattle.shelf.specs.View.{View, clause, with_held}

abbrev pub number_of : Refusal → ℕ
number_of NoSuchPlace = 81
number_of NoSuchVariable = 82
number_of VariableStands = 83
number_of ClauseFull = 84

abbrev pub numbered : Result (Unit {0}) Refusal → Result (Unit {0}) ℕ
numbered (Ok u) = Ok u
numbered (Err e) = Err (number_of e)

-- once the place and the variable are there
abbrev pub fitted : ℕ → List ℕ → ℕ → Result (Unit {0}) ℕ
fitted L cs c = cond (stands (variable c) cs) (Err 83) (cond (nat_lt (length cs) L) (Ok tt) (Err 84))

abbrev pub added : View → ℕ → ℕ → Result (Unit {0}) ℕ
added v p c =
    cond (nat_lt p v.places)
    (cond (nat_le 1 (variable c) && nat_le (variable c) v.highest) (fitted v.longest (clause v p) c) (Err 82))
    (Err 81)

abbrev pub after_add : View → ℕ → ℕ → View
after_add v p c = with_held v (cond (is_ok (added v p c)) (slice_set v.held p (put c (clause v p))) v.held)

abbrev pub wiped : View → ℕ → Result (Unit {0}) ℕ
wiped v p = cond (nat_lt p v.places) (Ok tt) (Err 81)

abbrev pub after_wipe : View → ℕ → View
after_wipe v p = with_held v (slice_set v.held p [])

-- a list of codes added to one place, one after another; a refused one changes nothing
unfoldable pub after_adds : View → ℕ → List ℕ → View
after_adds v p [] = v
after_adds v p (c ∷ cs) = after_adds (after_add v p c) p cs

-- in order after, the answer, and the view after
pub record Did {A : Type 0} (fine_after : Type 0) (r r_told : A) (v v_told : View) : Type 0 where
  pub fine : fine_after
  pub answer : r ≡ r_told
  pub view : v ≡ v_told

-- the same of a call with no answer
pub record Became (fine_after : Type 0) (v v_told : View) : Type 0 where
  pub fine : fine_after
  pub view : v ≡ v_told
