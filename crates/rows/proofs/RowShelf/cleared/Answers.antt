use Rattle.std.proofs.Common.{◌≤◌, ◌+◌, ◌++◌, length, drop, ap, ◌∙◌, arith}
use Rattle.shelf.specs.View.{with_held}
use Rattle.rows.specs.Rows.{rows_view, used}
use Rattle.shelf.proofs.Zeroing.{fresh_cleared, fresh_spare, fresh_length}
use Rattle.rows.proofs.Making.{rows_fit, fresh_rows, made_kept}
use Rattle.rows.proofs.RowShelf.cleared.Goals as goal

pub slice_bounds-fill-end : goal.slice_bounds-fill-end
slice_bounds-fill-end c = rows_fit (length c.args.words.now) (c.from-width.result + 1) c.min-places.result (omega (arith, c.min-places.ensures))

pub returns : goal.returns
returns c =
    let V = c.args.highest in
    let L = c.args.longest in
    let P = c.min-places.result in
    let ws = c.args.words.now in
    let u = used P L in
    let is = c.from-width.ensures in
    let few = rw is at c.min-places.ensures in
    let fit : u ≤ length ws = rows_fit (length ws) (L + 1) P (omega (arith, few)) in
    let zeros = rw is at c.fill.ensures.after (λ y e. e) in
    let cleared = fresh_cleared u ws _ fit zeros in
    let same = fresh_length u ws _ fit zeros in
    let f = fresh_rows P V L _ (omega (arith, few)) (omega arith) (omega arith) (omega arith) (omega arith) (omega arith) cleared in
    rw is record {
      fine = f.0;
      view = ap (with_held (rows_view P V L (c.fill.new.self ++ drop u ws))) f.1 ∙ made_kept (length ws) V L P (omega arith) (omega arith) (omega arith) (omega arith) few;
      cleared = cleared;
      spare_kept = fresh_spare u ws _ fit zeros;
    }
