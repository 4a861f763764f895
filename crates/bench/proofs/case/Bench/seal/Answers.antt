use Rattle.std.proofs.Common.{refl, ◌∙◌}
use Rattle.std.proofs.lemmas.Result.{err_from_is_err_and}
use Rattle.rules.specs.Case.{sealed, with_phase}
use Rattle.rules.specs.Filling.{seal_questions, seal_does, with_bench}
use Rattle.rules.specs.Questions.{grants}
use Rattle.bench.specs.Meaning.{state_of}
use Rattle.bench.proofs.Doing.{refusing, granting, fitting_state}
use Rattle.bench.proofs.case.Bench.seal.Goals as goal

pub returns-in_err-ask_state : goal.returns-in_err-ask_state
unfolding seal_does
returns-in_err-ask_state g c =
    let s = state_of g.K.CostKind.kind c.args.self.now (g.S.Shelf.view c.args.shelf.now) c.args.ledger.now in
    let p = err_from_is_err_and c.from_residual.result c.from_residual.ensures.1 in
    rw (p.1, p.2) (record {
      did = λ h. refusing h s (seal_questions s) (grants (with_bench s (with_phase s.bench sealed))) c.in_err-ask_state.field-0.0 (c.in_err-ask_state.ensures h ∙ fitting_state s c.is_filling.ensures);
      refused = refl;
    })

pub returns : goal.returns
unfolding seal_does
returns g c =
    let s = state_of g.K.CostKind.kind c.args.self.now (g.S.Shelf.view c.args.shelf.now) c.args.ledger.now in
    record {
      did = λ h. granting h s (seal_questions s) (grants (with_bench s (with_phase s.bench sealed))) (c.in_ok-ask_state.ensures h ∙ fitting_state s c.is_filling.ensures) refl refl;
      refused = tt;
    }
