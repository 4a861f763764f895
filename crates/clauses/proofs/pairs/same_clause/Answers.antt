use Rattle.std.proofs.Common.{sym, ◌∙◌, arith}
use Rattle.rules.specs.Clauses.{same_codes}
use Rattle.shelf.specs.View.{clause}
use Rattle.clauses.proofs.Turns.{same_stop, same_more, same_done, unequal}
use Rattle.clauses.proofs.pairs.same_clause.Goals as goal

pub returns-then-n-size : goal.returns-then-n-size
returns-then-n-size g c h =
    let v = g.S.Shelf.view c.args.shelf.now in
    unequal (clause v c.args.i) (clause v c.args.j) (λ e. c.if-n-size.true (c.size-n.ensures.is h ∙ e ∙ sym (c.size.ensures.is h)))

pub returns-then-literal : goal.returns-then-literal
returns-then-literal g c h =
    let v = g.S.Shelf.view c.args.shelf.now in
    let xs = clause v c.args.i in
    let ys = clause v c.args.j in
    let m = c.size-n.ensures.is h in
    let n = c.size.ensures.is h in
    same_stop xs ys c.loop-k.k (same_codes xs ys) (c.loop-k.invariant h) (omega arith) (omega arith) (λ e. c.if-literal.true (c.literal.ensures h ∙ e ∙ sym (c.literal-in-loop-k.ensures h)))

pub loop-k-preserved : goal.loop-k-preserved
loop-k-preserved g c h =
    let v = g.S.Shelf.view c.args.shelf.now in
    let xs = clause v c.args.i in
    let ys = clause v c.args.j in
    let m = c.size-n.ensures.is h in
    let n = c.size.ensures.is h in
    same_more xs ys c.loop-k.k (same_codes xs ys) (c.loop-k.invariant h) (omega arith) (omega arith) (sym (c.literal.ensures h) ∙ c.if-literal.false ∙ c.literal-in-loop-k.ensures h)

pub returns : goal.returns
returns g c h =
    let v = g.S.Shelf.view c.args.shelf.now in
    let xs = clause v c.args.i in
    let ys = clause v c.args.j in
    let m = c.size-n.ensures.is h in
    let n = c.size.ensures.is h in
    same_done xs ys c.loop-k.k (same_codes xs ys) (c.loop-k.invariant h) (omega arith) (omega arith)
