use Rattle.signatures.specs.Layers.{layered_past}
use Rattle.signatures.proofs.SignatureLayerShelf.literal.Goals as goal

pub returns-else-place-lt-COVERED : goal.returns-else-place-lt-COVERED
returns-else-place-lt-COVERED g c _ = rw (layered_past (g.S.Shelf.view c.args.self.now.below) c.args.place c.if-place-lt-COVERED.false)
