use Rattle.std.proofs.Common.{set, ap, ◌∙◌}
use Rattle.ledger.specs.Meaning.{cells_of}
use Rattle.rules.specs.Cells.{Cell}
use Rattle.steps.proofs.Splits.{splittable}
use Rattle.steps.proofs.splitting.Split.make.Goals as goal

pub returns : goal.returns
returns g c h n passed =
    let k = g.K.CostKind.kind in
    let a = c.args in
    let v = g.S.Shelf.view a.shelf.now in
    record {
      fine = (c.split_place.ensures.framed h).fine;
      view = c.split_place.ensures.did h (splittable v n a.self.place a.self.variable a.self.to (g.S.Shelf.sound _ h) passed);
      cells = c.write_cell.ensures.means ∙ ap (λ (z : Cell). set (cells_of k a.ledger.now) a.self.to z) c.read_cell-cell.ensures;
    }
