use Rattle.std.proofs.Common.{◌≡◌, length, take}
use Rattle.shelf.specs.View.{clause}
use Rattle.shelf.proofs.places.read_codes.Given as goal

abbrev pub invariant-loop-k : goal.invariant-loop-k
invariant-loop-k g l =
    let s = g.S.Shelf in
    (length l.codes.items ≡ l.k) × (s.fine l.shelf → l.codes.items ≡ take l.k (clause (s.view l.shelf) l.place))
