use Rattle.signatures.specs.Layers.{layered_past}
use Rattle.signatures.proofs.SignatureLayerShelf.size.Goals as goal

pub returns-else-place-lt-COVERED-clause-is : goal.returns-else-place-lt-COVERED-clause-is
returns-else-place-lt-COVERED-clause-is g c _ = rw (layered_past (g.S.Shelf.view c.args.self.now.below) c.args.place c.if-place-lt-COVERED.false)
