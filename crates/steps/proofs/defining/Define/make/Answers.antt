use Rattle.std.proofs.Common.{ℕ, ◌+◌, refl, ap, ◌∙◌, subst}
use Rattle.clauses.specs.Codes.{codes}
use Rattle.ledger.specs.Meaning.{cell_of, cells_of}
use Rattle.ledger.specs.declared.cell.Cell.TheVariants.{Hard}
use Rattle.results.specs.Definition.{Definable}
use Rattle.results.specs.Placing.{Laid, Placeable, after_placing}
use Rattle.rules.specs.Cells.{hard}
use Rattle.rules.specs.Results.{alike, defining, kept, laid}
use Rattle.steps.proofs.Carrying.{laid_alike}
use Rattle.steps.proofs.Defines.{definable}
use Rattle.steps.proofs.defining.Define.make.Goals as goal

pub returns : goal.returns
returns g c h n e passed =
    let k = g.K.CostKind.kind in
    let a = c.args in
    let v = g.S.Shelf.view a.shelf.now in
    let ls = codes a.self.now.literals.now in
    let P : ℕ → Type 0 = λ d. Definable v d ls → Placeable v a.self.now.to (defining d ls)
    → Laid (g.S.Shelf.fine c.place_define.new.shelf) (g.S.Shelf.view c.place_define.new.shelf) (after_placing v a.self.now.to (defining d ls)) c.place_define.new.cells (laid a.self.now.to (alike Hard (kept (defining d ls))) a.ledger.now) in
    let may = definable v n a.self.now.to ls passed in
    let put = subst P e (c.place_define.ensures.did h) may.0 may.1 in
    record {
      fine = put.fine;
      view = put.view;
      cells = ap (cells_of k) put.cells ∙ laid_alike (cell_of k.back) a.self.now.to Hard hard (kept (defining (n + 1) ls)) a.ledger.now refl;
    }
