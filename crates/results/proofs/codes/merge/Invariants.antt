use Rattle.std.proofs.Common.{◌≡◌, ◌+◌, ◌-◌, ◌≤◌, ◌++◌, length, drop}
use Rattle.rules.specs.Clauses.{merge as union}
use Rattle.results.proofs.codes.merge.Given as goal

abbrev pub invariant-loop-i : goal.invariant-loop-i
invariant-loop-i l =
    let xs = l.x.items in
    let ys = l.y.items in
    (l.i ≤ length xs) × (l.j ≤ length ys) × (length l.both.items ≤ l.i + l.j) × (l.both.items ++ union (drop l.i xs) (drop l.j ys) ≡ union xs ys)

abbrev pub decreases-loop-i : goal.decreases-loop-i
decreases-loop-i l = (length l.x.items - l.i) + (length l.y.items - l.j)
