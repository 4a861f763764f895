use Rattle.masks.proofs.Steps.{cleared_became, cleared_blank, cleared_spare}
use Rattle.masks.proofs.MaskShelf.clear.Goals as goal

pub returns : goal.returns
returns c =
    let zeros = c.fill.ensures.after (λ y e. e) in
    record {
      became = cleared_became _ _ _ _ _ c.requires zeros;
      spare = cleared_spare _ _ _ _ _ c.requires zeros;
      zero = cleared_blank _ _ _ _ _ c.requires zeros;
    }
