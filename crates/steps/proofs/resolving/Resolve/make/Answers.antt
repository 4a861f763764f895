use Rattle.std.proofs.Common.{List, set, ap, ◌∙◌}
use Rattle.shelf.specs.View.{View}
use Rattle.ledger.specs.Meaning.{cell_of, cells_of}
use Rattle.rules.specs.Cells.{Cell, amounts_to_nothing}
use Rattle.rules.specs.Results.{kept}
use Rattle.rules.specs.Steps.{freed_if}
use Rattle.results.specs.Resolving.{resolvents_at}
use Rattle.steps.proofs.Carrying.{laid_alike}
use Rattle.steps.proofs.resolving.Resolve.make.Goals as goal

pub returns : goal.returns
returns g c h q =
    let k = g.K.CostKind.kind in
    let r = c.args.r in
    let a = cell_of k.figures r.weighed.left_i in
    let b = cell_of k.figures r.weighed.left_j in
    let rs = resolvents_at (g.S.Shelf.view c.args.shelf.now) c.args.self.i c.args.self.j c.args.self.variable r.with_i r.with_j in
    let p = (rw c.pairing-pairing.ensures at c.place_resolve.ensures.did) h q in
    let s = c.settle.ensures p.fine in
    let t = c.settle-2.ensures s.fine in
    let placed = ap (cells_of k) p.cells ∙ laid_alike (cell_of k.back) c.args.self.to c.row_cell.result (cell_of k.figures r.weighed.common) (kept rs) c.args.ledger.now c.row_cell.ensures.means in
    record {
      fine = t.fine;
      view = t.view ∙ ap (λ (v : View). freed_if (amounts_to_nothing k.scale.tiers b) v c.args.self.j) (s.view ∙ ap (λ (v : View). freed_if (amounts_to_nothing k.scale.tiers a) v c.args.self.i) p.view);
      cells = t.cells ∙ ap (λ (l : List Cell). set l c.args.self.j b) (s.cells ∙ ap (λ (l : List Cell). set l c.args.self.i a) placed);
    }
