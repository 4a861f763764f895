use Rattle.std.proofs.Common.{arith, ◌<◌}
use Rattle.signatures.specs.Layers.{layered_at}
use Rattle.signatures.proofs.Calling.{not_held}
use Rattle.signatures.proofs.SignatureLayerShelf.holds.Goals as goal

pub returns-then-may_hold-clause-is : goal.returns-then-may_hold-clause-is
returns-then-may_hold-clause-is g c h = let first : c.args.place < 4096 = c.may_hold.ensures.covered c.if-may_hold.true in grind (arith, layered_at)

pub returns-else-may_hold-clause-is : goal.returns-else-may_hold-clause-is
returns-else-may_hold-clause-is g c h = grind (arith, not_held, g.S.Shelf.sound)
