use Rattle.std.proofs.Common.{[], Err, ap, ◌∙◌}
use Rattle.std.proofs.lemmas.Result.{err_from_is_err_and}
use Rattle.std.specs.Option.{option_to_list}
use Rattle.ledger.specs.Bills.{billed, bill_told}
use Rattle.ledger.proofs.Billing.{billed_more, billed_stop, billed_end}
use Rattle.ledger.proofs.bills.Shown.with_owed.Goals as goal

pub returns-in_err-sum-in-Some-clause-is : goal.returns-in_err-sum-in-Some-clause-is
returns-in_err-sum-in-Some-clause-is g c h =
    let k = g.K.CostKind.kind in
    let z = k.figures c.args.bill.0 in
    let n = c.args.bill.1 in
    let e = err_from_is_err_and c.from_residual.result c.from_residual.ensures.1 in
    ap (bill_told k.figures) e.1 ∙ ap (λ t. Err t.number) e.2
    ∙ billed_stop k.scale z (k.figures c.in-Some.a) _ [] n c.in_err-sum-in-Some.ensures ∙ ap (λ o. billed k.scale z (option_to_list o) n) (c.in-Some.ensures h)

pub returns-in_ok-sum-in-Some-clause-is : goal.returns-in_ok-sum-in-Some-clause-is
returns-in_ok-sum-in-Some-clause-is g c h =
    let k = g.K.CostKind.kind in
    let z = k.figures c.args.bill.0 in
    let n = c.args.bill.1 in
    billed_end k.scale _ _ ∙ billed_more k.scale z (k.figures c.in-Some.a) _ [] n c.in_ok-sum-in-Some.ensures
    ∙ ap (λ o. billed k.scale z (option_to_list o) n) (c.in-Some.ensures h)

pub returns-in-None-clause-is : goal.returns-in-None-clause-is
returns-in-None-clause-is g c h =
    let k = g.K.CostKind.kind in
    let z = k.figures c.args.bill.0 in
    let n = c.args.bill.1 in
    billed_end k.scale z n ∙ ap (λ o. billed k.scale z (option_to_list o) n) (c.in-None.ensures h)
