use Rattle.rows.specs.Soundness.{sound_rows}
use Rattle.shelf.proofs.Holding.{lacks}
use Rattle.shelf.proofs.Starting.{either_way, past_places}
use Rattle.rows.proofs.RowShelf.start.Goals as goal

pub returns : goal.returns
returns c =
    either_way c.place_start.result (λ nowhere rows. lacks _ _ (sound_rows _ _ _ _ rows) (past_places _ _ _ _ rows.room nowhere)) (λ at starts. starts)
    (rw c.width.ensures at c.place_start.ensures)
