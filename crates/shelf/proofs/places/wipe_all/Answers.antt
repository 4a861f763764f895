use Rattle.std.proofs.Common.{◌∙◌, ap}
use Rattle.shelf.specs.View.{emptied_below}
use Rattle.shelf.proofs.Freeing.{all_freed}
use Rattle.shelf.proofs.places.wipe_all.Goals as goal

pub returns : goal.returns
returns g c h =
    let v = g.S.Shelf.view c.args.shelf.now in
    let b = c.wipe_below.ensures h in
    record { fine = b.fine; view = b.view ∙ ap (λ n. emptied_below n v) (c.place_count-count.ensures.is h) ∙ all_freed v (g.S.Shelf.sound _ h) }
