use Rattle.std.proofs.Common.{refl}
use Rattle.bench.specs.Meaning.{state_of}
use Rattle.rows.specs.Shelves.{meaning, words_of}
use Rattle.piles.proofs.Blanks.{blank, zero_rows}
use Rattle.piles.proofs.row_memory.reopen_rows.Goals as goal

pub returns-clause-words : goal.returns-clause-words
returns-clause-words g c h =
    let k = g.K.CostKind.kind in
    let s = state_of k c.args.bench.now (meaning c.args.shelf.now) c.args.ledger.now in
    let t = state_of k c.open.new.self (meaning c.open.new.shelf) c.open.new.ledger in
    let w = c.open.new.shelf in
    let d = c.open.ensures.did h in
    blank k.scale s t c.args.n c.open.result (meaning w) (zero_rows w.places w.highest w.longest (words_of w) d.fine) refl d
