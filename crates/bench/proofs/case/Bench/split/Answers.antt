use Rattle.std.proofs.Common.{refl}
use Rattle.std.proofs.lemmas.Result.{err_from_is_err_and}
use Rattle.bench.proofs.Doing.{same_state}
use Rattle.bench.proofs.Stepping.{split_step, refused_first, refused_then, step_granted}
use Rattle.bench.proofs.case.Bench.split.Goals as goal

pub returns-in_err-ask_step : goal.returns-in_err-ask_step
returns-in_err-ask_step g c =
    let p = err_from_is_err_and c.from_residual.result c.from_residual.ensures.1 in
    rw (p.1, p.2) (record { did = λ h. refused_first h (split_step _ _ _ _ _) c.in_err-ask_step.field-0.0 (c.in_err-ask_step.ensures h); refused = (refl, refl, refl) })

pub returns-in_err-ask : goal.returns-in_err-ask
returns-in_err-ask g c =
    let p = err_from_is_err_and c.from_residual-in_err-ask.result c.from_residual-in_err-ask.ensures.1 in
    rw (p.1, p.2) (record { did = λ h. refused_then h (split_step _ _ _ _ _) (c.in_ok-ask_step.ensures h) c.in_err-ask.field-0.0 (c.in_err-ask.ensures h); refused = (refl, refl, refl) })

pub returns : goal.returns
returns g c =
    record {
      did = λ h.
          let passed = c.in_ok-ask.ensures h in
          let put = c.make.ensures h c.args.self.now.current passed in
          step_granted put.fine (split_step _ _ _ _ _) (c.in_ok-ask_step.ensures h) passed (same_state refl put.view put.cells);
      refused = tt;
    }
