-- The results of a resolve on a shelf.
--
--   resolvents_at v i j x wi wj   the results of resolving the clauses at the
--                 places i and j on the variable x, which i has and j has the
--                 opposite of; with the compensations of i where wi, of j where wj
use Rattle.std.specs.Prelude.{ℕ, ◌*◌, Bool, List}
use Rattle.rules.specs.Results.{resolvents}
use Rattle.shelf.specs.View.{View, clause}

abbrev pub resolvents_at : View → ℕ → ℕ → ℕ → Bool → Bool → List (List ℕ)
resolvents_at v i j x wi wj = resolvents (2 * x) (clause v i) (clause v j) wi wj
