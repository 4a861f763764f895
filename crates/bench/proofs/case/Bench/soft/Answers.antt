use Rattle.std.proofs.Common.{Bool, cond, List, set, ℤ, sym, refl, ap, ◌∙◌}
use Rattle.std.proofs.lemmas.Result.{err_from_is_err_and}
use Rattle.clauses.specs.Codes.{codes}
use Rattle.shelf.specs.Literals.{none}
use Rattle.cost.specs.Figures.{plus}
use Rattle.ledger.specs.Meaning.{cells_of}
use Rattle.rules.specs.Cells.{soft, paid}
use Rattle.rules.specs.Filling.{with_bench, with_sums, placed, soft_questions, soft_done, soft_does}
use Rattle.rules.specs.Questions.{grants}
use Rattle.bench.specs.Meaning.{state_of}
use Rattle.bench.proofs.Clausing.{none_given, some_given, clause_passed, may_write}
use Rattle.bench.proofs.Doing.{refusing, granting, same_state}
use Rattle.bench.proofs.Softly.{soft_sums}
use Rattle.bench.proofs.case.Bench.soft.Goals as goal

pub returns-in_err-accepted : goal.returns-in_err-accepted
unfolding soft_does
returns-in_err-accepted g c =
    let k = g.K.CostKind.kind in
    let s = state_of k c.args.self.now (g.S.Shelf.view c.args.shelf.now) c.args.ledger.now in
    let xs = c.args.figures.now in
    let cs = codes c.args.clause.now in
    let p = err_from_is_err_and c.from_residual.result c.from_residual.ensures.1 in
    rw (p.1, p.2) (record {
      did = λ h. refusing h s (soft_questions k.scale s c.args.place xs cs) (grants (soft_done s c.args.place xs cs)) c.in_err-accepted.field-0.0 (c.in_err-accepted.ensures.is h);
      refused = (refl, refl, refl);
    })

pub returns-then-not-is_empty : goal.returns-then-not-is_empty
unfolding soft_does
returns-then-not-is_empty g c =
    let k = g.K.CostKind.kind in
    let v = g.S.Shelf.view c.args.shelf.now in
    let l = cells_of k c.args.ledger.now in
    let s = state_of k c.args.self.now v c.args.ledger.now in
    let xs = c.args.figures.now in
    let cs = codes c.args.clause.now in
    let p = c.args.place in
    let a = c.in_ok-accepted.accepted in
    let given = with_bench s (with_sums s.bench (plus s.bench.total xs) (paid (none cs) (soft xs) s.bench.proved)) in
    let n = some_given c.args.clause.now c.is_empty.ensures c.if-not-is_empty.true in
    record {
      did = λ h.
          let passed = c.in_ok-accepted.ensures.is h in
          let took = c.in_ok-accepted.ensures.accepted h in
          let q = clause_passed s p cs _ passed in
          let put = c.put_clause.ensures h (may_write s p cs q.0 q.1 n) in
          granting put.fine s (soft_questions k.scale s p xs cs) (grants (soft_done s p xs cs)) passed refl
          (same_state (soft_sums s.bench xs (k.figures a.total) (k.figures a.proved) cs took.total_is took.proved_is) put.view (put.cells ∙ ap (λ (y : List ℤ). set l p (soft y)) took.amount_is)
          ∙ ap (λ (b : Bool). cond b given (placed given p cs (soft xs))) (sym n));
      refused = tt;
    }

pub returns-else-not-is_empty : goal.returns-else-not-is_empty
unfolding soft_does
returns-else-not-is_empty g c =
    let k = g.K.CostKind.kind in
    let v = g.S.Shelf.view c.args.shelf.now in
    let l = cells_of k c.args.ledger.now in
    let s = state_of k c.args.self.now v c.args.ledger.now in
    let xs = c.args.figures.now in
    let cs = codes c.args.clause.now in
    let p = c.args.place in
    let a = c.in_ok-accepted.accepted in
    let given = with_bench s (with_sums s.bench (plus s.bench.total xs) (paid (none cs) (soft xs) s.bench.proved)) in
    let n = none_given c.args.clause.now c.is_empty.ensures c.if-not-is_empty.false in
    record {
      did = λ h.
          let passed = c.in_ok-accepted.ensures.is h in
          let took = c.in_ok-accepted.ensures.accepted h in
          granting h s (soft_questions k.scale s p xs cs) (grants (soft_done s p xs cs)) passed refl
          (same_state (soft_sums s.bench xs (k.figures a.total) (k.figures a.proved) cs took.total_is took.proved_is) refl refl
          ∙ ap (λ (b : Bool). cond b given (placed given p cs (soft xs))) (sym n));
      refused = tt;
    }
