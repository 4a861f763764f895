use Rattle.std.proofs.Common.{rules}
use Rattle.std.proofs.lemmas.Result.{err_from_is_err_and}
use Rattle.signatures.specs.Layers.{InOrder}
use Rattle.signatures.specs.Signing.{Marked}
use Rattle.signatures.proofs.Calling.{signed_added}
use Rattle.signatures.proofs.Layering.{add_through}
use Rattle.signatures.proofs.SignatureLayerShelf.add.Goals as goal

-- `i` is found in `h` and the last fact of the next answer by `search`: so a `fine` that asks more is refused at
-- those who cannot show it, and not here
pub returns-in_err-add-clause-did : goal.returns-in_err-add-clause-did
returns-in_err-add-clause-did g c h =
    let i : InOrder {S = g.row.S.Denot} g.S.Shelf.fine g.S.Shelf.view c.args.self.now = search rules in
    let v = g.S.Shelf.view c.args.self.now.below in
    let e = err_from_is_err_and c.from_residual.result c.from_residual.ensures.1 in
    rw (e.1, e.2) (add_through v c.args.place c.if-place-ge-COVERED.false c.args.literal.code (c.in_err-add.ensures.did i.below) (rw c.in_err-add.ensures.refused h))

pub returns-clause-did : goal.returns-clause-did
returns-clause-did g c h =
    let i : InOrder {S = g.row.S.Denot} g.S.Shelf.fine g.S.Shelf.view c.args.self.now = search rules in
    let v = g.S.Shelf.view c.args.self.now.below in
    let first = c.if-place-ge-COVERED.false in
    let d = c.in_ok-add.ensures.did i.below in
    let m : Marked c.args.self.now.signatures.bits c.mark.new.self.bits c.args.place c.args.literal.code = search rules in
    let signed = signed_added (g.S.Shelf.sound c.args.self.now.below i.below) i.signed d.answer d.view m in
    add_through v c.args.place first c.args.literal.code d (search rules)
