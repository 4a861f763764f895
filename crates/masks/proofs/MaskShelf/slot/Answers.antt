use Rattle.std.proofs.Common.{◌≡◌, ◌/◌, ◌≤◌, false, arith}
use Rattle.std.proofs.lemmas.Grind.{common_steps}
use Rattle.std.proofs.lemmas.Option.{MatchOption-at_some}
use Rattle.shelf.specs.Literals.{stands}
use Rattle.shelf.specs.View.{clause}
use Rattle.masks.specs.Masks.{masks_view}
use Rattle.masks.proofs.Steps.{slot_granted}
use Rattle.masks.proofs.MaskShelf.slot.Goals as goal

pub returns-clause-answer : goal.returns-clause-answer
returns-clause-answer c masks =
    let s = c.args.self.now in
    let v = c.args.literal.code / 2 in
    let is = c.variable-variable.ensures in
    let shown = (c.masks.ensures masks).clause in
    let starts = MatchOption-at_some _ _ _ c.in_ok-at.ensures.ok_part c.start.ensures in
    let low : 1 ≤ v = grind (arith, common_steps) in
    let high : v ≤ 64 = grind (arith, common_steps) in
    let off : stands v (clause (masks_view s.places s.words.now) c.args.place) ≡ false = cc in
    slot_granted _ _ _ _ masks starts.place low high off
