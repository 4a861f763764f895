use Rattle.std.proofs.Common.{◌≡◌, ◌≤◌, not, eqb, length, take, filter}
use Rattle.results.proofs.codes.without.Given as goal

abbrev pub invariant-loop-c : goal.invariant-loop-c
invariant-loop-c l = (length l.rest.items ≤ l.c-index) × (l.rest.items ≡ filter (λ c. not (eqb l.code c)) (take l.c-index l.codes.items))
