use Rattle.std.proofs.Common.{refl}
use Rattle.std.proofs.lemmas.Result.{err_from_is_err_and}
use Rattle.rules.specs.Filling.{open_questions, open_done, open_does}
use Rattle.rules.specs.Questions.{grants}
use Rattle.bench.specs.Meaning.{state_of}
use Rattle.bench.proofs.Doing.{refusing, granting, opened}
use Rattle.bench.proofs.case.Bench.open.Goals as goal

pub returns-in_err-ask_open : goal.returns-in_err-ask_open
unfolding open_does
returns-in_err-ask_open g c =
    let k = g.K.CostKind.kind in
    let s = state_of k c.args.self.now (g.S.Shelf.view c.args.shelf.now) c.args.ledger.now in
    let p = err_from_is_err_and c.from_residual.result c.from_residual.ensures.1 in
    rw (p.1, p.2) (record {
      did = λ h. refusing h s (open_questions s c.args.n) (grants (open_done k.scale s c.args.n)) c.in_err-ask_open.field-0.0 (c.in_err-ask_open.ensures h);
      refused = (refl, refl, refl);
      cleared = tt;
    })

pub returns : goal.returns
unfolding open_does
returns g c =
    let k = g.K.CostKind.kind in
    let s = state_of k c.args.self.now (g.S.Shelf.view c.args.shelf.now) c.args.ledger.now in
    record {
      did = λ h.
          granting (c.wipe_all.ensures h).fine s (open_questions s c.args.n) (grants (open_done k.scale s c.args.n)) (c.in_ok-ask_open.ensures h) refl
          (opened c.args.n c.nothing-nothing.ensures (c.wipe_all.ensures h).view c.clear.ensures.means);
      refused = tt;
      cleared = c.clear.ensures.is;
    }
