use Rattle.std.proofs.Common.{refl, arith}
use Rattle.shelf.proofs.Starting.{either_way}
use Rattle.rows.proofs.Steps.{row_counted, row_found}
use Rattle.rows.proofs.RowShelf.row.Goals as goal

pub returns : goal.returns
returns c =
    let s = c.args.self.now in
    let starts = c.in_ok-at.ensures in
    let wide = c.width.ensures in
    either_way c.over.result
    (λ past rows. absurd (row_counted _ _ _ _ _ _ starts wide _ refl s.highest rows past))
    (λ row cut. row_found _ _ _ _ _ _ starts wide row.words.now cut (omega arith) row.counted)
    c.over.ensures
