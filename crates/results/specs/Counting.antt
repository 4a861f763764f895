-- What is counted of results.
--
--   tally_of L rs     the tally of the results rs, where a clause may have L
--                     literals
--   tally_one L r t   the tally t with the result r more
use Rattle.std.specs.Prelude.{ℕ, ◌+◌, true, cond, ◌&&◌, List, length, nat_le}
use Rattle.rules.specs.Clauses.{vanishes}
use Rattle.rules.specs.Results.{kept, short_enough, has_empty}
use Rattle.shelf.specs.Literals.{none}
use Rattle.results.specs.declared.tallies.Tally.{Tally}

abbrev pub tally_of : ℕ → List (List ℕ) → Tally
tally_of L rs = record { kept = length (kept rs); empty = has_empty rs; short = short_enough L rs }

abbrev pub tally_one : ℕ → List ℕ → Tally → Tally
tally_one L r t =
    cond (vanishes r) t
    (cond (none r) (record { kept = t.kept; empty = true; short = t.short })
    (record { kept = t.kept + 1; empty = t.empty; short = t.short && nat_le (length r) L }))
