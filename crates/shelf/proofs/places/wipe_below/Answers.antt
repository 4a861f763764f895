use Rattle.std.proofs.Common.{arith}
use Rattle.shelf.proofs.Freeing.{freed_step}
use Rattle.shelf.proofs.places.wipe_below.Goals as goal

pub loop-place-preserved : goal.loop-place-preserved
loop-place-preserved g c h =
    let v = g.S.Shelf.view c.args.shelf.now in
    let i = c.loop-place.invariant h in
    let w = c.wipe.ensures.did i.0 in
    (w.fine, freed_step v c.loop-place.place (omega (arith, (g.S.Shelf.sound _ h).count, c.place_count.ensures.is h)) i.1 w.view)
