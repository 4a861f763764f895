use Rattle.std.proofs.Common.{◌∙◌}
use Rattle.results.proofs.Framing.{framed_add, framed_adds, framed_then}
use Rattle.results.proofs.Halving.{halved}
use Rattle.results.proofs.splitting.split_place.Goals as goal

pub returns : goal.returns
returns g c =
    let view = g.S.Shelf.view in
    let v = view c.args.shelf.now in
    let p = c.args.place in
    let x = c.args.variable in
    let to = c.args.to in
    record {
      did = λ h may.
          let a = c.add.ensures.did h in
          let b = c.write_codes.ensures in
          let d = c.add-2.ensures.did (b.did a.fine).fine in
          halved v p x to (g.S.Shelf.sound _ h) may (c.deref.ensures.0 ∙ c.read_codes.ensures h) c.of.ensures c.not.ensures a.view (b.whole a.fine) d.view;
      framed = λ h.
          let a = c.add.ensures.did h in
          let b = c.write_codes.ensures.did a.fine in
          let w₁ = view c.add.new.self in
          let w₂ = view c.write_codes.new.shelf in
          framed_then v w₂ _ (framed_then v w₁ w₂ (framed_add v p c.of.result.code a) (framed_adds w₁ to c.deref.result.now b)) (framed_add w₂ to c.not.result.code (c.add-2.ensures.did b.fine));
    }
