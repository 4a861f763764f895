use Rattle.std.proofs.Common.{◌≡◌, take, replicate}
use Rattle.ledger.specs.declared.cell.Cell.TheVariants.{Soft}
use Rattle.ledger.proofs.cells.clear.Given as goal

abbrev pub invariant-loop-cell : goal.invariant-loop-cell
invariant-loop-cell g l = take l.cell-index l.ledger ≡ replicate l.cell-index (Soft l.nothing)
