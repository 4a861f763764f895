use Rattle.std.proofs.Common.{refl}
use Rattle.std.proofs.lemmas.Result.{err_from_is_err_and}
use Rattle.bench.proofs.Doing.{same_state}
use Rattle.bench.proofs.Stepping.{define_step, refused_first, refused_then, step_granted, defined_case}
use Rattle.bench.specs.Meaning.{case_of}
use Rattle.bench.proofs.case.Bench.define.Goals as goal

pub returns-in_err-ask_step : goal.returns-in_err-ask_step
returns-in_err-ask_step g c =
    let p = err_from_is_err_and c.from_residual.result c.from_residual.ensures.1 in
    rw (p.1, p.2) (record { did = λ h. refused_first h (define_step _ _ _ _) c.in_err-ask_step.field-0.0 (c.in_err-ask_step.ensures h); refused = (refl, refl, refl) })

pub returns-in_err-next : goal.returns-in_err-next
returns-in_err-next g c =
    let p = err_from_is_err_and c.from_residual-in_err-next.result c.from_residual-in_err-next.ensures.1 in
    rw (p.1, p.2) (record { did = λ h. refused_then h (define_step _ _ _ _) (c.in_ok-ask_step.ensures h) c.in_err-next.field-0.0 (c.in_err-next.ensures.is h); refused = (refl, refl, refl) })

pub returns : goal.returns
returns g c =
    record {
      did = λ h.
          let passed = c.in_ok-next.ensures.is h in
          let next = c.in_ok-next.ensures.next in
          let put = c.make.ensures h c.args.self.now.current next passed in
          step_granted put.fine (define_step _ _ _ _) (c.in_ok-ask_step.ensures h) passed (same_state (defined_case (case_of g.K.CostKind.kind c.args.self.now) next) put.view put.cells);
      refused = tt;
    }
