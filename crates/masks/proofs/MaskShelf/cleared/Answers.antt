use Rattle.std.proofs.Common.{◌≤◌, ◌++◌, length, drop, ap, ◌∙◌, arith}
use Rattle.shelf.specs.View.{with_held}
use Rattle.masks.specs.Masks.{masks_view, used}
use Rattle.shelf.proofs.Zeroing.{fresh_cleared, fresh_length, fresh_spare}
use Rattle.masks.proofs.Making.{fresh_masks, made_is}
use Rattle.masks.proofs.MaskShelf.cleared.Goals as goal

pub returns : goal.returns
returns c =
    let P = c.args.places in
    let ws = c.args.words.now in
    let u = used P in
    let count = c.requires in
    let fit : u ≤ length ws = omega arith in
    let is = c.from.ensures in
    let zeros = rw is at c.fill.ensures.after (λ y e. e) in
    let cleared = fresh_cleared u ws _ fit zeros in
    let same = fresh_length u ws _ fit zeros in
    let f = fresh_masks P _ (omega arith) (omega arith) cleared in
    rw is record {
      fine = f.0;
      view = ap (with_held (masks_view P (c.fill.new.self ++ drop u ws))) f.1 ∙ made_is (length ws) P count;
      cleared = cleared;
      spare_kept = fresh_spare u ws _ fit zeros;
    }
