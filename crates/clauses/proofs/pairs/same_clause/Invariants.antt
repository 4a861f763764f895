use Rattle.std.proofs.Common.{◌≡◌, drop}
use Rattle.rules.specs.Clauses.{same_codes}
use Rattle.shelf.specs.View.{clause}
use Rattle.clauses.proofs.pairs.same_clause.Given as goal

abbrev pub invariant-loop-k : goal.invariant-loop-k
invariant-loop-k g l =
    let v = g.S.Shelf.view l.shelf in
    g.S.Shelf.fine l.shelf → same_codes (drop l.k (clause v l.i)) (drop l.k (clause v l.j)) ≡ same_codes (clause v l.i) (clause v l.j)
