use Rattle.results.proofs.Reading.{read_spread}
use Rattle.results.proofs.resolving.Pairing.read_parents.Goals as goal

pub returns-clause-spread : goal.returns-clause-spread
returns-clause-spread g c h =
    let v = g.S.Shelf.view c.args.shelf.now in
    let first = c.read_parent.ensures in
    let second = c.read_parent-2.ensures in
    read_spread v c.args.self.i c.args.self.j c.of.result.code c.not.result.code _ _ (g.S.Shelf.sound _ h) (first.whole h) (second.whole h) first.rest second.rest
