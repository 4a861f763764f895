use Rattle.std.proofs.Common.{◌≡◌, rules}
use Rattle.shelf.specs.View.{emptied_below}
use Rattle.signatures.proofs.Clearing.{layered_emptied, signed_emptied}
use Rattle.signatures.proofs.SignatureLayer.new.Goals as goal

pub returns : goal.returns
returns g c h =
    let w = c.wipe_below.ensures h in
    let e : g.S.Shelf.view c.wipe_below.new.shelf ≡ emptied_below 4096 (g.S.Shelf.view c.args.below) = search (rules, w.view) in
    record {
      fine = record { below = w.fine; signed = signed_emptied (g.S.Shelf.view c.args.below) e c.new.ensures };
      view = layered_emptied (g.S.Shelf.sound c.args.below h) e;
    }
