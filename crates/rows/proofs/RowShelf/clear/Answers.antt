use Rattle.rows.proofs.Steps.{wiped_became, wiped_spare, wiped_zero}
use Rattle.rows.proofs.RowShelf.clear.Goals as goal

pub returns : goal.returns
returns c =
    let wide = c.width.ensures in
    let zeros = c.fill.ensures.after (λ y e. e) in
    record {
      became = wiped_became _ _ _ _ _ _ _ c.requires wide zeros _;
      spare = wiped_spare _ _ _ _ _ _ _ c.requires wide zeros;
      zero = wiped_zero _ _ _ _ _ _ _ c.requires wide zeros;
    }
