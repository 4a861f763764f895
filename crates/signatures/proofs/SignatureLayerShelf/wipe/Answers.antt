use Rattle.std.proofs.Common.{rules}
use Rattle.std.proofs.lemmas.Result.{err_from_is_err_and}
use Rattle.signatures.specs.Layers.{InOrder}
use Rattle.signatures.specs.Signing.{Blanked}
use Rattle.signatures.proofs.Calling.{signed_wiped}
use Rattle.signatures.proofs.Layering.{wipe_through, wiped_past}
use Rattle.signatures.proofs.SignatureLayerShelf.wipe.Goals as goal

pub returns-then-place-ge-COVERED-clause-did : goal.returns-then-place-ge-COVERED-clause-did
returns-then-place-ge-COVERED-clause-did g c h =
    wiped_past (g.S.Shelf.view c.args.self.now.below) c.args.place c.if-place-ge-COVERED.true h

-- `i` is found in `h` and the last fact of the next answer by `search`: so a `fine` that asks more is refused at
-- those who cannot show it, and not here
pub returns-in_err-wipe-clause-did : goal.returns-in_err-wipe-clause-did
returns-in_err-wipe-clause-did g c h =
    let i : InOrder {S = g.row.S.Denot} g.S.Shelf.fine g.S.Shelf.view c.args.self.now = search rules in
    let v = g.S.Shelf.view c.args.self.now.below in
    let e = err_from_is_err_and c.from_residual.result c.from_residual.ensures.1 in
    rw (e.1, e.2) (wipe_through v c.args.place c.if-place-ge-COVERED.false (c.in_err-wipe.ensures.did i.below) (rw c.in_err-wipe.ensures.refused h))

pub returns-clause-did : goal.returns-clause-did
returns-clause-did g c h =
    let i : InOrder {S = g.row.S.Denot} g.S.Shelf.fine g.S.Shelf.view c.args.self.now = search rules in
    let v = g.S.Shelf.view c.args.self.now.below in
    let first = c.if-place-ge-COVERED.false in
    let d = c.in_ok-wipe.ensures.did i.below in
    let b : Blanked c.args.self.now.signatures.bits c.clear.new.self.bits c.args.place = search rules in
    let signed = signed_wiped (g.S.Shelf.sound c.args.self.now.below i.below) i.signed d.view b in
    wipe_through v c.args.place first d (search rules)
