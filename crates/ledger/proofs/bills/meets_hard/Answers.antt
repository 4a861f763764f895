use Rattle.std.proofs.Common.{[], get_or, min, length, refl, rules, arith, ◌∙◌}
use Rattle.std.proofs.lemmas.List.{length-map}
use Rattle.std.proofs.lemmas.Iterator.{YieldsList-from_range}
use Rattle.std.proofs.lemmas.Iterator.Search.{all_from_yields_List}
use Rattle.cost.specs.Figures.{zeros}
use Rattle.rules.specs.Cells.{soft}
use Rattle.rules.specs.Showing.{met_at}
use Rattle.ledger.specs.Meaning.{cell_of, cells_of}
use Rattle.ledger.proofs.Billing.{met_all}
use Rattle.ledger.proofs.bills.meets_hard.Goals as goal

pub returns : goal.returns
returns g c h =
    let k = g.K.CostKind.kind in
    let x = c.args.strip.now in
    let held = (g.S.Shelf.view c.args.shelf.now).held in
    let ks = cells_of k c.args.ledger.now in
    let d = soft (zeros k.scale.tiers) in
    let m = length-map c.args.ledger.now (cell_of k.back) in
    all_from_yields_List (λ p. met_at x (get_or held p []) (get_or ks p d)) _ _ _ c.all.ensures.ran
    (YieldsList-from_range 0 _ (min (length held) (length ks)) refl (omega (arith, c.covered.ensures.is h, (g.S.Shelf.sound _ h).count))) (λ p b q t. search rules)
    ∙ met_all x held ks d
