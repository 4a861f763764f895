use Rattle.std.proofs.Common.{ℕ, length, Ok, ap, ◌∙◌}
use Rattle.std.proofs.lemmas.Result.{err_from_is_err_and}
use Rattle.shelf.specs.Answers.{after_add}
use Rattle.shelf.specs.View.{View, clause}
use Rattle.shelf.specs.Telling.{answer_with, size_then}
use Rattle.shelf.proofs.places.lone_literal.Goals as goal

pub returns-in_err-add : goal.returns-in_err-add
unfolding size_then
returns-in_err-add g c h =
    let v = g.S.Shelf.view c.args.shelf.now in
    let size = length (clause (after_add v 0 c.args.literal.code) 0) in
    let e = err_from_is_err_and c.from_residual.result c.from_residual.ensures.1 in
    rw (e.1, e.2) (ap (answer_with size) (c.in_err-add.ensures.did h).answer)

pub returns : goal.returns
unfolding size_then
returns g c h =
    let v = g.S.Shelf.view c.args.shelf.now in
    let size = length (clause (after_add v 0 c.args.literal.code) 0) in
    let d = c.in_ok-add.ensures.did h in
    ap (λ (n : ℕ). Ok n) (c.size.ensures.is d.fine ∙ ap (λ (x : View). length (clause x 0)) d.view) ∙ ap (answer_with size) d.answer
