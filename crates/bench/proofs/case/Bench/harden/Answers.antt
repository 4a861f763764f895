use Rattle.std.proofs.Common.{refl}
use Rattle.std.proofs.lemmas.Result.{err_from_is_err_and}
use Rattle.bench.proofs.Doing.{same_state}
use Rattle.bench.proofs.Stepping.{harden_step, refused_first, refused_then, step_granted}
use Rattle.bench.proofs.case.Bench.harden.Goals as goal

pub returns-in_err-ask_step : goal.returns-in_err-ask_step
returns-in_err-ask_step g c =
    let p = err_from_is_err_and c.from_residual.result c.from_residual.ensures.1 in
    rw (p.1, p.2) (record { did = λ h. refused_first h (harden_step _ _ _) c.in_err-ask_step.field-0.0 (c.in_err-ask_step.ensures h); refused = (refl, refl) })

pub returns-in_err-ask_harden : goal.returns-in_err-ask_harden
returns-in_err-ask_harden g c =
    let p = err_from_is_err_and c.from_residual-in_err-ask_harden.result c.from_residual-in_err-ask_harden.ensures.1 in
    rw (p.1, p.2) (record { did = λ h. refused_then h (harden_step _ _ _) (c.in_ok-ask_step.ensures h) c.in_err-ask_harden.field-0.0 (c.in_err-ask_harden.ensures h); refused = (refl, refl) })

pub returns : goal.returns
returns g c =
    record {
      did = λ h. step_granted h (harden_step _ _ _) (c.in_ok-ask_step.ensures h) (c.in_ok-ask_harden.ensures h) (same_state refl refl c.write_cell.ensures.means);
      refused = tt;
    }
