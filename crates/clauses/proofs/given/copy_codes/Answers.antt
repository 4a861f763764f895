use Rattle.std.proofs.Common.{◌∙◌, arith}
use Rattle.std.proofs.lemmas.List.{length-take}
use Rattle.clauses.proofs.Turns.{taken_codes}
use Rattle.clauses.proofs.given.copy_codes.Goals as goal

pub returns : goal.returns
returns c =
    let l = length-take c.min.result c.args.clause.now in
    c.loop-literal.invariant.1 ∙ taken_codes c.args.clause.now c.loop-literal.literal-index 255 (omega (arith, c.loop-literal.auto.literal-index-end))
