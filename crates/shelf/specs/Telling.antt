-- What calls of a shelf tell their caller, and one literal alone.
--
--   granted       a result that tells of its value only that it is there
--   told          a result with its refusal told by number
--   once          an answer with 1 for what was granted
--   answer_with n r   the number n where r grants, and else the refusal of r
--   size_then v c     what adding the code c to place 0 of a shelf that means v, and
--                     asking for the size there, tells: the size, or the number of
--                     the refusal
--   lone_answer   what adding one code to place 0 of a shelf with every place free, and
--                 asking for the size there, tells: the size, 1, or the refusal's number
use Rattle.std.specs.Prelude.{ℕ, length, Ok, Err, Result}
use Rattle.shelf.specs.declared.refusal.Refusal.{Refusal}
use Rattle.shelf.specs.Answers.{added, after_add, number_of}
use Rattle.shelf.specs.View.{View, clause}

abbrev pub granted : Result ℕ Refusal → Result (Unit {0}) ℕ
granted (Ok k) = Ok tt
granted (Err e) = Err (number_of e)

abbrev pub told : Result ℕ Refusal → Result ℕ ℕ
told (Ok n) = Ok n
told (Err e) = Err (number_of e)

abbrev pub once : Result (Unit {0}) ℕ → Result ℕ ℕ
once (Ok u) = Ok 1
once (Err e) = Err e

abbrev pub lone_answer : View → ℕ → Result ℕ ℕ
lone_answer v c = once (added v 0 c)

abbrev pub answer_with : ℕ → Result (Unit {0}) ℕ → Result ℕ ℕ
answer_with n (Ok u) = Ok n
answer_with n (Err e) = Err e

unfoldable pub size_then : View → ℕ → Result ℕ ℕ
size_then v c = answer_with (length (clause (after_add v 0 c) 0)) (added v 0 c)
