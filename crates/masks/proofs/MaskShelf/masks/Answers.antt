use Rattle.masks.proofs.Steps.{shows_place}
use Rattle.masks.proofs.MaskShelf.masks.Goals as goal

pub returns : goal.returns
returns c h = shows_place _ _ _ _ h c.in-Some.ensures
