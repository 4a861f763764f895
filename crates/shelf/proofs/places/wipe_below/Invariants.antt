use Rattle.std.proofs.Common.{◌≡◌}
use Rattle.shelf.proofs.Freeing.{freed}
use Rattle.shelf.proofs.places.wipe_below.Given as goal

abbrev pub invariant-loop-place : goal.invariant-loop-place
invariant-loop-place g l = let s = g.S.Shelf in s.fine l.initial.shelf → s.fine l.shelf × (s.view l.shelf ≡ freed (s.view l.initial.shelf) l.place)
