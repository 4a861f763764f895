use Rattle.std.proofs.Common.{refl}
use Rattle.std.proofs.lemmas.Result.{err_from_is_err_and}
use Rattle.rules.specs.Claims.{ended, cheapest_questions, cheapest_does}
use Rattle.rules.specs.Questions.{Outcome, cheapest_at}
use Rattle.bench.specs.Meaning.{state_of}
use Rattle.bench.proofs.Doing.{refusing, granting}
use Rattle.bench.proofs.case.Bench.cheapest.Goals as goal

pub returns-in_err-ask_cheapest : goal.returns-in_err-ask_cheapest
unfolding cheapest_does
returns-in_err-ask_cheapest g c =
    let k = g.K.CostKind.kind in
    let s = state_of k c.args.self.now (g.S.Shelf.view c.args.shelf.now) c.args.ledger.now in
    let o : Outcome = record { answer = cheapest_at s.bench.proved; after = ended s } in
    let p = err_from_is_err_and c.from_residual.result c.from_residual.ensures.1 in
    rw (p.1, p.2) (record {
      did = λ h. refusing h s (cheapest_questions s) o c.in_err-ask_cheapest.field-0.0 (c.in_err-ask_cheapest.ensures h);
      refused = refl;
    })

pub returns : goal.returns
unfolding cheapest_does
returns g c =
    let k = g.K.CostKind.kind in
    let s = state_of k c.args.self.now (g.S.Shelf.view c.args.shelf.now) c.args.ledger.now in
    let o : Outcome = record { answer = cheapest_at s.bench.proved; after = ended s } in
    record { did = λ h. granting h s (cheapest_questions s) o (c.in_ok-ask_cheapest.ensures h) refl refl; refused = tt }
