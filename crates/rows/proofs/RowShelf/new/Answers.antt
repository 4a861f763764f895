use Rattle.std.proofs.Common.{◌≡◌, false, length, refl, ap, ◌∙◌, arith}
use Rattle.std.proofs.lemmas.Grind.{common_steps}
use Rattle.shelf.specs.View.{with_held}
use Rattle.rows.specs.Made.{in_limits}
use Rattle.rows.specs.Rows.{rows_view}
use Rattle.rows.proofs.Making.{fresh_rows, made_broken}
use Rattle.rows.proofs.RowShelf.new.Goals as goal
use Rattle.rows.proofs.RowShelf.new.Goals.{then-not-contains-via-then-not-contains, then-not-contains-via-else-not-contains+then-not-contains-2}

pub returns-then-not-contains : goal.returns-then-not-contains
returns-then-not-contains c =
    let ws = c.args.words.now in
    let broken : in_limits c.args.highest c.args.longest ≡ false = elim c.then-not-contains.branch [
      | then-not-contains-via-then-not-contains w ↦ grind (arith, common_steps)
      | then-not-contains-via-else-not-contains+then-not-contains-2 w ↦ grind (arith, common_steps)
    ] in
    let f = fresh_rows 0 1 1 ws (omega arith) (omega arith) (omega arith) (omega arith) (omega arith) (omega arith) refl in
    record {
      fine = f.0;
      view = ap (with_held (rows_view 0 1 1 ws)) f.1 ∙ made_broken (length ws) c.args.highest c.args.longest broken;
      cleared = refl;
      spare_kept = refl;
    }
