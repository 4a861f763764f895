use Rattle.std.proofs.Common.{List, ℤ, Err, sym, ap, ◌∙◌, arith}
use Rattle.std.proofs.lemmas.List.{length-map}
use Rattle.std.proofs.lemmas.Result.{err_from_is_err_and}
use Rattle.cost.specs.Figures.{zeros}
use Rattle.rules.specs.Cells.{soft}
use Rattle.ledger.specs.Bills.{billed, bill_told}
use Rattle.ledger.specs.Meaning.{cell_of, cells_of}
use Rattle.ledger.proofs.Billing.{owed_turn, owed_end, billed_on, billed_off, billed_end}
use Rattle.ledger.proofs.bills.bill.Goals as goal

pub returns-in_err-bill : goal.returns-in_err-bill
returns-in_err-bill g c h =
    let k = g.K.CostKind.kind in
    let v = g.S.Shelf.view c.args.shelf.now in
    let ks = cells_of k c.args.ledger.now in
    let n = c.covered-p-end.ensures.is h in
    let s = (g.S.Shelf.sound _ h).count in
    let m = length-map c.args.ledger.now (cell_of k.back) in
    let b = c.loop-p.bill in
    let z = k.figures b.0 in
    let e = err_from_is_err_and c.from_residual.result c.from_residual.ensures.1 in
    ap (bill_told k.figures) e.1 ∙ ap (λ t. Err t.number) e.2 ∙ billed_off k.scale z _ b.1 _ _ (c.in_err-bill.ensures.is h)
    ∙ ap (λ (os : List (List ℤ)). billed k.scale z os b.1) (sym (owed_turn c.args.strip.now v.held ks c.loop-p.p (soft (zeros k.scale.tiers)) (omega arith) (omega arith)))
    ∙ c.loop-p.invariant.1 h

pub loop-p-preserved : goal.loop-p-preserved
loop-p-preserved g c =
    let k = g.K.CostKind.kind in
    let v = g.S.Shelf.view c.args.shelf.now in
    let ks = cells_of k c.args.ledger.now in
    let b = c.loop-p.bill in
    let t = c.in_ok-bill.bill in
    let z = k.figures b.0 in (
      omega (arith, c.in_ok-bill.ensures.one_more, c.loop-p.invariant.0),
      λ h.
          let n = c.covered-p-end.ensures.is h in
          let s = (g.S.Shelf.sound _ h).count in
          let m = length-map c.args.ledger.now (cell_of k.back) in
          billed_on k.scale z _ b.1 (k.figures t.0) t.1 _ (c.in_ok-bill.ensures.is h)
          ∙ ap (λ (os : List (List ℤ)). billed k.scale z os b.1) (sym (owed_turn c.args.strip.now v.held ks c.loop-p.p (soft (zeros k.scale.tiers)) (omega arith) (omega arith)))
          ∙ c.loop-p.invariant.1 h,
    )

pub returns : goal.returns
returns g c h =
    let k = g.K.CostKind.kind in
    let v = g.S.Shelf.view c.args.shelf.now in
    let n = c.covered-p-end.ensures.is h in
    let s = (g.S.Shelf.sound _ h).count in
    let m = length-map c.args.ledger.now (cell_of k.back) in
    let b = c.loop-p.bill in
    let here = owed_end c.args.strip.now v.held (cells_of k c.args.ledger.now) c.loop-p.p (omega arith) in
    billed_end k.scale (k.figures b.0) b.1
    ∙ ap (λ (os : List (List ℤ)). billed k.scale (k.figures b.0) os b.1) (sym here) ∙ c.loop-p.invariant.1 h
