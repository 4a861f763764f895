use Rattle.std.proofs.Common.{ap, ◌∙◌}
use Rattle.std.proofs.lemmas.Result.{err_from_is_err_and}
use Rattle.clauses.specs.Codes.{codes}
use Rattle.cost.specs.Figures.{plus}
use Rattle.ledger.specs.Given.{Taken, taken_told}
use Rattle.rules.specs.Filling.{amount_fits}
use Rattle.rules.specs.Questions.{passes}
use Rattle.bench.specs.Meaning.{state_of}
use Rattle.bench.proofs.Clausing.{empty_test, clause_passed, fits_whole}
use Rattle.bench.proofs.Softly.{was_taken, soft_stop, soft_out, soft_pass}
use Rattle.steps.proofs.Verdicts.{test_some}
use Rattle.bench.proofs.case.Bench.ask_soft.Goals as goal

pub returns-in_err-ask_clause : goal.returns-in_err-ask_clause
returns-in_err-ask_clause g c =
    let k = g.K.CostKind.kind in
    let s = state_of k c.args.self.now (g.S.Shelf.view c.args.shelf.now) c.args.ledger.now in
    let xs = c.args.figures.now in
    let cs = codes c.args.clause.now in
    let p = err_from_is_err_and c.from_residual.result c.from_residual.ensures.1 in
    rw (p.1, p.2) (record {
      is = λ h. soft_stop k.scale s c.args.place xs cs _ _ (c.in_err-ask_clause.ensures h);
      accepted = λ h. tt;
    })

pub returns-in_err-proved : goal.returns-in_err-proved
returns-in_err-proved g c =
    let k = g.K.CostKind.kind in
    let s = state_of k c.args.self.now (g.S.Shelf.view c.args.shelf.now) c.args.ledger.now in
    let xs = c.args.figures.now in
    let cs = codes c.args.clause.now in
    let p = err_from_is_err_and c.from_residual-in_err-proved.result c.from_residual-in_err-proved.ensures.1 in
    let t = test_some (amount_fits k.scale s.bench.total xs) (record { amount = xs; total = plus s.bench.total xs }) _ (ap (taken_told k.figures) (was_taken _ _ c.in_ok-amount.ensures.value) ∙ c.take_amount.ensures) in
    let e = c.is_empty.result in
    rw (p.1, p.2) (record {
      is = λ h.
          soft_out k.scale s c.args.place xs cs (c.in_ok-ask_clause.ensures h) t.0 (k.figures c.in_ok-amount.amount) e (ap (λ (y : Taken). y.amount) t.1) (c.is_empty.ensures ∙ empty_test c.args.clause.now) _ c.in_err-proved.ensures;
      accepted = λ h. tt;
    })

pub returns : goal.returns
returns g c =
    let k = g.K.CostKind.kind in
    let s = state_of k c.args.self.now (g.S.Shelf.view c.args.shelf.now) c.args.ledger.now in
    let xs = c.args.figures.now in
    let cs = codes c.args.clause.now in
    let t = test_some (amount_fits k.scale s.bench.total xs) (record { amount = xs; total = plus s.bench.total xs }) _ (ap (taken_told k.figures) (was_taken _ _ c.in_ok-amount.ensures.value) ∙ c.take_amount.ensures) in
    let e = c.is_empty.result in
    record {
      is = λ h.
          (soft_pass k.scale s c.args.place xs cs (c.in_ok-ask_clause.ensures h) t.0 (k.figures c.in_ok-amount.amount) e (ap (λ (y : Taken). y.amount) t.1) (c.is_empty.ensures ∙ empty_test c.args.clause.now) _ c.in_ok-proved.ensures).0;
      accepted = λ h. record {
        copied =
            let q = clause_passed s c.args.place cs passes (c.in_ok-ask_clause.ensures h) in
            fits_whole s.bench.n s.shelf cs q.0 (g.S.Shelf.sound _ h).longest_high;
        amount_is = ap (λ (y : Taken). y.amount) t.1;
        total_is = ap (λ (y : Taken). y.total) t.1;
        proved_is =
            (soft_pass k.scale s c.args.place xs cs (c.in_ok-ask_clause.ensures h) t.0 (k.figures c.in_ok-amount.amount) e (ap (λ (y : Taken). y.amount) t.1) (c.is_empty.ensures ∙ empty_test c.args.clause.now) _ c.in_ok-proved.ensures).1;
      };
    }
