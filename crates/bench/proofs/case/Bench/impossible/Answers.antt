use Rattle.std.proofs.Common.{refl}
use Rattle.std.proofs.lemmas.Result.{err_from_is_err_and}
use Rattle.rules.specs.Claims.{ended, impossible_questions, impossible_does}
use Rattle.rules.specs.Questions.{grants}
use Rattle.bench.specs.Meaning.{state_of}
use Rattle.bench.proofs.Doing.{refusing, granting}
use Rattle.bench.proofs.case.Bench.impossible.Goals as goal

pub returns-in_err-ask_impossible : goal.returns-in_err-ask_impossible
unfolding impossible_does
returns-in_err-ask_impossible g c =
    let k = g.K.CostKind.kind in
    let s = state_of k c.args.self.now (g.S.Shelf.view c.args.shelf.now) c.args.ledger.now in
    let p = err_from_is_err_and c.from_residual.result c.from_residual.ensures.1 in
    rw (p.1, p.2) (record {
      did = λ h. refusing h s (impossible_questions s) (grants (ended s)) c.in_err-ask_impossible.field-0.0 (c.in_err-ask_impossible.ensures h);
      refused = refl;
    })

pub returns : goal.returns
unfolding impossible_does
returns g c =
    let k = g.K.CostKind.kind in
    let s = state_of k c.args.self.now (g.S.Shelf.view c.args.shelf.now) c.args.ledger.now in
    record { did = λ h. granting h s (impossible_questions s) (grants (ended s)) (c.in_ok-ask_impossible.ensures h) refl refl; refused = tt }
