-- Two parents as the code holds them.
--
--   results_of ps   the results of the parents, in order
use Rattle.std.specs.Prelude.{ℕ, List}
use Rattle.rules.specs.Results.{results}
use Rattle.results.specs.declared.parents.Parents.{Parents}

abbrev pub results_of : Parents → List (List ℕ)
results_of ps =
    results ps.first.clause.items ps.second.clause.items ps.first.rest.items ps.second.rest.items ps.first.wanted ps.second.wanted
