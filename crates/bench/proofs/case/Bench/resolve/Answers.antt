use Rattle.std.proofs.Common.{ℕ, Bool, ◌&&◌, ◌||◌, List, sym, refl, ap, ◌∙◌, subst}
use Rattle.std.proofs.lemmas.Result.{err_from_is_err_and}
use Rattle.ledger.specs.Dues.{dues_of}
use Rattle.ledger.specs.Meaning.{cell_of}
use Rattle.results.specs.Placing.{Placeable}
use Rattle.rules.specs.Cells.{is_hard}
use Rattle.rules.specs.Steps.{cell_in}
use Rattle.steps.proofs.Resolved.{placeable, same_results}
use Rattle.bench.proofs.Stepping.{resolve_step, refused_first, refused_then, step_granted, resolved_state}
use Rattle.bench.specs.Meaning.{state_of}
use Rattle.bench.proofs.case.Bench.resolve.Goals as goal

pub returns-in_err-ask_step : goal.returns-in_err-ask_step
returns-in_err-ask_step g c =
    let p = err_from_is_err_and c.from_residual.result c.from_residual.ensures.1 in
    rw (p.1, p.2) (record { did = λ h. refused_first h (resolve_step _ _ _ _ _ _) c.in_err-ask_step.field-0.0 (c.in_err-ask_step.ensures h); refused = (refl, refl, refl) })

pub returns-in_err-r : goal.returns-in_err-r
returns-in_err-r g c =
    let p = err_from_is_err_and c.from_residual-in_err-r.result c.from_residual-in_err-r.ensures.1 in
    rw (p.1, p.2) (record { did = λ h. refused_then h (resolve_step _ _ _ _ _ _) (c.in_ok-ask_step.ensures h) c.in_err-r.field-0.0 (c.in_err-r.ensures.is h); refused = (refl, refl, refl) })

pub returns : goal.returns
returns g c =
    let k = g.K.CostKind.kind in
    let v = g.S.Shelf.view c.args.shelf.now in
    let s = state_of k c.args.self.now v c.args.ledger.now in
    let i = c.args.i in
    let j = c.args.j in
    let x = c.args.variable in
    let to = c.args.to in
    record {
      did = λ h.
          let r = c.in_ok-r.r in
          let passed = c.in_ok-r.ensures.is h in
          let res = c.in_ok-r.ensures.resolution h in
          let P : List (List ℕ) → Type 0 = λ rs. Placeable v to rs in
          let may = subst P (sym (same_results v i j x res.with_i_is res.with_j_is)) (placeable k.scale v (cell_in k.scale s i) (cell_in k.scale s j) s.bench.proved i j x to passed) in
          let put = c.make.ensures h may in
          step_granted put.fine (resolve_step _ _ _ _ _ _) (c.in_ok-ask_step.ensures h) passed
          (resolved_state k.scale s i j x to (dues_of k.figures r.weighed) r.with_i r.with_j c.mark_after-mark.result _ _
          res.dues_are res.with_i_is res.with_j_is
          (c.mark_after-mark.ensures ∙ ap (λ (e : Bool). s.bench.impossible || (e && is_hard (cell_of k.figures r.weighed.common))) res.empty_is)
          put.view put.cells);
      refused = tt;
    }
