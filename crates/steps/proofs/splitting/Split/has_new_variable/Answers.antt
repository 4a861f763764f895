use Rattle.std.proofs.Common.{ℕ, sym, ap, ◌∙◌, arith}
use Rattle.shelf.specs.Literals.{among}
use Rattle.shelf.specs.View.{clause}
use Rattle.steps.proofs.Splits.{held_not_new, new_told}
use Rattle.steps.proofs.splitting.Split.has_new_variable.Goals as goal

pub returns-then-holds : goal.returns-then-holds
returns-then-holds g c h =
    let v = g.S.Shelf.view c.args.shelf.now in
    let cs = clause v c.args.self.place in
    held_not_new v c.args.current c.args.self.place c.args.self.variable (ap (λ (z : ℕ). among z cs) (sym c.of.ensures) ∙ sym (c.holds.ensures h) ∙ c.if-holds.true)

pub returns : goal.returns
returns g c h =
    let v = g.S.Shelf.view c.args.shelf.now in
    let cs = clause v c.args.self.place in
    let k = c.known_variables.ensures h in
    new_told v c.args.current c.args.self.place c.args.self.variable (omega arith) (omega arith)
    (ap (λ (z : ℕ). among z cs) (sym c.of.ensures) ∙ sym (c.holds.ensures h) ∙ c.if-holds.false)
    (c.holds-2.ensures h ∙ ap (λ (z : ℕ). among z cs) c.not.ensures)
