use Rattle.std.proofs.Common.{◌+◌, drop, ap, ◌∙◌, arith}
use Rattle.shelf.specs.Answers.{after_adds}
use Rattle.shelf.specs.View.{View}
use Rattle.shelf.proofs.Writing.{part_more, part_done, adds_more, adds_done}
use Rattle.shelf.proofs.places.write_codes.Goals as goal

pub loop-c-preserved : goal.loop-c-preserved
loop-c-preserved g c h =
    let i = c.loop-c.invariant h in
    let a = c.add.ensures.did i.0 in
    let k = c.loop-c.c-index in
    let cs = c.args.codes.now in (
      a.fine,
      ap (λ (w : View). after_adds w c.args.place (drop (k + 1) cs)) a.view ∙ adds_more (g.S.Shelf.view c.loop-c.shelf) c.args.place cs k i.1 (omega arith),
      λ w. part_more (g.S.Shelf.sound _ h) w (omega arith) (i.2 w) a.view,
    )

pub returns : goal.returns
returns g c =
    let cs = c.args.codes.now in
    record {
      did = λ h. let i = c.loop-c.invariant h in record { fine = i.0; view = adds_done (g.S.Shelf.view c.loop-c.shelf) c.args.place cs c.loop-c.c-index i.1 (omega arith) };
      whole = λ h w. part_done (g.S.Shelf.view c.args.shelf.now) c.args.place cs {k = c.loop-c.c-index} ((c.loop-c.invariant h).2 w) (omega arith);
    }
