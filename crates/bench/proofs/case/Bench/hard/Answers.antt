use Rattle.std.proofs.Common.{Bool, cond, sym, refl, ap, ◌∙◌}
use Rattle.std.proofs.lemmas.Result.{err_from_is_err_and}
use Rattle.clauses.specs.Codes.{codes}
use Rattle.ledger.specs.Meaning.{cells_of}
use Rattle.rules.specs.Cells.{hard}
use Rattle.rules.specs.Filling.{clause_questions, marked, placed, with_bench, hard_done, hard_does}
use Rattle.rules.specs.Questions.{passes, grants}
use Rattle.bench.specs.Meaning.{state_of}
use Rattle.bench.proofs.Clausing.{none_given, some_given, clause_passed, may_write}
use Rattle.bench.proofs.Doing.{refusing, granting, same_state}
use Rattle.bench.proofs.case.Bench.hard.Goals as goal

pub returns-in_err-ask_clause : goal.returns-in_err-ask_clause
unfolding hard_does
returns-in_err-ask_clause g c =
    let k = g.K.CostKind.kind in
    let s = state_of k c.args.self.now (g.S.Shelf.view c.args.shelf.now) c.args.ledger.now in
    let cs = codes c.args.clause.now in
    let p = err_from_is_err_and c.from_residual.result c.from_residual.ensures.1 in
    rw (p.1, p.2) (record {
      did = λ h. refusing h s (clause_questions s c.args.place cs) (grants (hard_done s c.args.place cs)) c.in_err-ask_clause.field-0.0 (c.in_err-ask_clause.ensures h);
      refused = (refl, refl, refl);
    })

pub returns-then-is_empty : goal.returns-then-is_empty
unfolding hard_does
returns-then-is_empty g c =
    let k = g.K.CostKind.kind in
    let s = state_of k c.args.self.now (g.S.Shelf.view c.args.shelf.now) c.args.ledger.now in
    let cs = codes c.args.clause.now in
    let p = c.args.place in
    let n = none_given c.args.clause.now c.is_empty.ensures c.if-is_empty.true in
    record {
      did = λ h.
          granting h s (clause_questions s p cs) (grants (hard_done s p cs)) (c.in_ok-ask_clause.ensures h) refl
          (ap (λ (b : Bool). cond b (with_bench s (marked s.bench)) (placed s p cs hard)) (sym n));
      refused = tt;
    }

pub returns-else-is_empty : goal.returns-else-is_empty
unfolding hard_does
returns-else-is_empty g c =
    let k = g.K.CostKind.kind in
    let v = g.S.Shelf.view c.args.shelf.now in
    let l = cells_of k c.args.ledger.now in
    let s = state_of k c.args.self.now v c.args.ledger.now in
    let cs = codes c.args.clause.now in
    let p = c.args.place in
    let n = some_given c.args.clause.now c.is_empty.ensures c.if-is_empty.false in
    record {
      did = λ h.
          let passed = c.in_ok-ask_clause.ensures h in
          let q = clause_passed s p cs passes passed in
          let put = c.put_clause.ensures h (may_write s p cs q.0 q.1 n) in
          granting put.fine s (clause_questions s p cs) (grants (hard_done s p cs)) passed refl
          (same_state refl put.view put.cells ∙ ap (λ (b : Bool). cond b (with_bench s (marked s.bench)) (placed s p cs hard)) (sym n));
      refused = tt;
    }
