use Rattle.std.proofs.Common.{length, refl, ap, ◌∙◌}
use Rattle.shelf.proofs.Adding.{lone_then}
use Rattle.shelf.specs.Telling.{size_then}
use Rattle.rows.specs.Made.{made_view}
use Rattle.rows.proofs.lone_literal.Goals as goal

pub returns : goal.returns
returns c =
    let s = c.new-shelf.ensures in
    let v = made_view (length c.args.words.now) c.args.highest c.args.longest in
    c.lone_literal.ensures s.fine ∙ ap (λ w. size_then w c.args.literal.code) s.view ∙ lone_then v c.args.literal.code refl
