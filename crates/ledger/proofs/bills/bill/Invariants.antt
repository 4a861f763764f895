use Rattle.std.proofs.Common.{◌≡◌, ◌≤◌, drop}
use Rattle.rules.specs.Showing.{owed}
use Rattle.ledger.specs.Bills.{billed}
use Rattle.ledger.specs.Meaning.{cells_of}
use Rattle.ledger.proofs.bills.bill.Given as goal

abbrev pub invariant-loop-p : goal.invariant-loop-p
invariant-loop-p g l =
    let k = g.K.CostKind.kind in
    let held = (g.S.Shelf.view l.shelf).held in
    let ks = cells_of k l.ledger in
    (l.bill.1 ≤ l.p)
    × (g.S.Shelf.fine l.shelf
    → billed k.scale (k.figures l.bill.0) (owed l.strip (drop l.p held) (drop l.p ks)) l.bill.1
    ≡ billed k.scale (k.figures l.initial.bill.0) (owed l.strip held ks) 0)
