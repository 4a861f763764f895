use Rattle.std.proofs.Common.{arith}
use Rattle.masks.specs.Soundness.{sound_masks}
use Rattle.shelf.proofs.Holding.{lacks}
use Rattle.shelf.proofs.Starting.{either_way, past_places}
use Rattle.masks.proofs.MaskShelf.start.Goals as goal

pub returns : goal.returns
returns c =
    either_way c.place_start.result (λ nowhere masks. lacks _ _ (sound_masks _ _ masks) (past_places _ 2 _ _ (omega (arith, masks.room)) nowhere)) (λ at starts. starts)
    c.place_start.ensures
