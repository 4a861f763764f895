use Rattle.std.proofs.Common.{◌≡◌, drop}
use Rattle.shelf.specs.Answers.{after_adds}
use Rattle.shelf.specs.Room.{Writable}
use Rattle.shelf.proofs.Writing.{part}
use Rattle.shelf.proofs.places.write_codes.Given as goal

abbrev pub invariant-loop-c : goal.invariant-loop-c
invariant-loop-c g l =
    let s = g.S.Shelf in
    let v = s.view l.initial.shelf in
    s.fine l.initial.shelf
    → (s.fine l.shelf)
    × (after_adds (s.view l.shelf) l.place (drop l.c-index l.codes) ≡ after_adds v l.place l.codes)
    × (Writable v l.place l.codes → s.view l.shelf ≡ part v l.place l.codes l.c-index)
