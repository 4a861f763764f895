use Rattle.std.proofs.Common.{set, ap, ◌∙◌}
use Rattle.std.proofs.lemmas.List.{map-set}
use Rattle.ledger.specs.Meaning.{cell_of, cells_of}
use Rattle.ledger.proofs.cells.write_cell.Goals as goal

pub returns : goal.returns
returns g c =
    let k = g.K.CostKind.kind in
    let cs = c.args.ledger.now in
    let p = c.args.place in
    record {
      is = c.put_cell.ensures ∙ ap (set cs p) c.row_cell.ensures.is;
      means = ap (cells_of k) c.put_cell.ensures ∙ map-set (cell_of k.back) cs p c.row_cell.result ∙ ap (set (cells_of k cs) p) c.row_cell.ensures.means;
    }
