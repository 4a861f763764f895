use Rattle.std.proofs.Common.{ℕ, ◌+◌, ◌/◌, drop, map, sym, ap, ◌∙◌, arith}
use Rattle.std.proofs.lemmas.List.{length-map}
use Rattle.rules.specs.Clauses.{rises}
use Rattle.clauses.proofs.Turns.{coded_at, rises_low, rises_high, rises_more, rises_done}
use Rattle.clauses.proofs.given.rises.Goals as goal
use Rattle.clauses.proofs.given.rises.Goals.{then-variable-last-via-then-variable-last, then-variable-last-via-else-variable-last+then-variable-highest}

pub returns-then-variable-last : goal.returns-then-variable-last
returns-then-variable-last g c =
    let V = c.args.highest in
    let f = g.C.Coded.code_of in
    let cs = map f c.args.clause.now in
    let k = c.loop-c.c-index in
    let n = length-map c.args.clause.now f in
    let e = coded_at f c.args.clause.now k c.loop-c-test.true c.c-item.is c.code.ensures in
    elim c.then-variable-last.branch [
      | then-variable-last-via-then-variable-last w ↦ rises_low V cs c.loop-c.last k (rises V 0 cs) c.loop-c.invariant (omega arith) (omega (arith, w.if-variable-last.true))
      | then-variable-last-via-else-variable-last+then-variable-highest w ↦ rises_high V cs c.loop-c.last k (rises V 0 cs) c.loop-c.invariant (omega arith) (omega (arith, w.if-variable-highest.true))
    ]

pub loop-c-preserved : goal.loop-c-preserved
loop-c-preserved g c =
    let V = c.args.highest in
    let f = g.C.Coded.code_of in
    let cs = map f c.args.clause.now in
    let k = c.loop-c.c-index in
    let n = length-map c.args.clause.now f in
    let e = coded_at f c.args.clause.now k c.loop-c-test.true c.c-item.is c.code.ensures in
    ap (λ (x : ℕ). rises V (x / 2) (drop (k + 1) cs)) (sym e)
    ∙ rises_more V cs c.loop-c.last k (rises V 0 cs) c.loop-c.invariant (omega arith) (omega (arith, c.if-variable-last.false)) (omega (arith, c.if-variable-highest.false))

pub returns : goal.returns
returns g c =
    let f = g.C.Coded.code_of in
    let cs = map f c.args.clause.now in
    let n = length-map c.args.clause.now f in
    rises_done c.args.highest cs c.loop-c.last c.loop-c.c-index (rises c.args.highest 0 cs) c.loop-c.invariant (omega arith)
