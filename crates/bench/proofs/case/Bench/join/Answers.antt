use Rattle.std.proofs.Common.{refl}
use Rattle.std.proofs.lemmas.Result.{err_from_is_err_and}
use Rattle.bench.proofs.Stepping.{join_step, refused_first, refused_then, step_granted, joined_state}
use Rattle.bench.specs.Meaning.{state_of}
use Rattle.bench.proofs.case.Bench.join.Goals as goal

pub returns-in_err-ask_step : goal.returns-in_err-ask_step
returns-in_err-ask_step g c =
    let p = err_from_is_err_and c.from_residual.result c.from_residual.ensures.1 in
    rw (p.1, p.2) (record { did = λ h. refused_first h (join_step _ _ _ _) c.in_err-ask_step.field-0.0 (c.in_err-ask_step.ensures h); refused = (refl, refl, refl) })

pub returns-in_err-sum : goal.returns-in_err-sum
returns-in_err-sum g c =
    let p = err_from_is_err_and c.from_residual-in_err-sum.result c.from_residual-in_err-sum.ensures.1 in
    rw (p.1, p.2) (record { did = λ h. refused_then h (join_step _ _ _ _) (c.in_ok-ask_step.ensures h) c.in_err-sum.field-0.0 (c.in_err-sum.ensures.is h); refused = (refl, refl, refl) })

pub returns : goal.returns
returns g c =
    let k = g.K.CostKind.kind in
    let s = state_of k c.args.self.now (g.S.Shelf.view c.args.shelf.now) c.args.ledger.now in
    record {
      did = λ h.
          let put = c.make.ensures h in
          step_granted put.fine (join_step _ _ _ _) (c.in_ok-ask_step.ensures h) (c.in_ok-sum.ensures.is h)
          (joined_state k.scale s c.args.i c.args.j _ _ _ c.in_ok-sum.ensures.sum put.view put.cells);
      refused = tt;
    }
