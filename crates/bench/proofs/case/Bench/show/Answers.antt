use Rattle.std.proofs.Common.{refl, ap, ap₂}
use Rattle.std.proofs.lemmas.Result.{err_from_is_err_and}
use Rattle.rules.specs.Questions.{shown_at}
use Rattle.rules.specs.Showing.{show_questions, show_done, show_does, with_shown}
use Rattle.bench.specs.Meaning.{state_of}
use Rattle.bench.proofs.Doing.{refusing, granting, same_state}
use Rattle.bench.proofs.case.Bench.show.Goals as goal

pub returns-in_err-cost : goal.returns-in_err-cost
unfolding show_does
returns-in_err-cost g c =
    let k = g.K.CostKind.kind in
    let s = state_of k c.args.self.now (g.S.Shelf.view c.args.shelf.now) c.args.ledger.now in
    let x = c.args.strip.now in
    let p = err_from_is_err_and c.from_residual.result c.from_residual.ensures.1 in
    rw (p.1, p.2) (record {
      did = λ h. refusing h s (show_questions k.scale s x) (show_done s x) c.in_err-cost.field-0.0 (c.in_err-cost.ensures.is h);
      refused = refl;
    })

pub returns : goal.returns
unfolding show_does
returns g c =
    let k = g.K.CostKind.kind in
    let s = state_of k c.args.self.now (g.S.Shelf.view c.args.shelf.now) c.args.ledger.now in
    let x = c.args.strip.now in
    record {
      did = λ h.
          let b = c.in_ok-cost.ensures.bill h in
          granting h s (show_questions k.scale s x) (show_done s x) (c.in_ok-cost.ensures.is h) (ap₂ shown_at b.cost_is b.count_is)
          (same_state (ap (with_shown s.bench) b.cost_is) refl refl);
      refused = tt;
    }
