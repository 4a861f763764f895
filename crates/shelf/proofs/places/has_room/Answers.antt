use Rattle.std.proofs.Common.{◌+◌, ◌∙◌, ap, eqb, length, refl, sym, rules, arith}
use Rattle.std.proofs.lemmas.Iterator.{YieldsList-from_range}
use Rattle.std.proofs.lemmas.Iterator.Search.{all_from_yields_List}
use Rattle.shelf.specs.Room.{roomy}
use Rattle.shelf.specs.View.{clause}
use Rattle.shelf.proofs.Writing.{roomy_all, roomy_none}
use Rattle.shelf.proofs.places.has_room.Goals as goal
use Rattle.shelf.proofs.places.has_room.Goals.{then-to-count-via-then-to-count, then-to-count-via-else-to-count+then-n-count}

pub returns-then-n-eq0 : goal.returns-then-n-eq0
unfolding roomy
returns-then-n-eq0 g c h = ap (λ n. roomy (g.S.Shelf.view c.args.shelf.now) c.args.to n) (sym c.if-n-eq0.true)

pub returns-then-to-count : goal.returns-then-to-count
returns-then-to-count g c h =
    let n = c.place_count-count.ensures.is h in
    sym (roomy_none (g.S.Shelf.view c.args.shelf.now) c.args.to c.args.n
    (elim c.then-to-count.branch [ then-to-count-via-then-to-count w ↦ omega arith | then-to-count-via-else-to-count+then-n-count w ↦ omega arith ])
    (omega arith))

pub returns : goal.returns
returns g c h =
    let v = g.S.Shelf.view c.args.shelf.now in
    all_from_yields_List (λ q. eqb (length (clause v q)) 0) _ _ _ c.all.ensures.ran (YieldsList-from_range c.args.to (c.args.to + c.args.n) c.args.n refl (omega arith)) (λ x b q k. search rules)
    ∙ roomy_all v c.args.to c.args.n (omega (arith, c.place_count-count.ensures.is h))
