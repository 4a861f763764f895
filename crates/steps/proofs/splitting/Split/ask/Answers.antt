use Rattle.std.proofs.Common.{sym, ◌∙◌, arith}
use Rattle.steps.proofs.Splits.{split_long, split_crowded, split_passes}
use Rattle.steps.proofs.splitting.Split.ask.Goals as goal

pub returns-then-size-longest_clause : goal.returns-then-size-longest_clause
returns-then-size-longest_clause g c h =
    let a = c.args in
    let v = g.S.Shelf.view a.shelf.now in
    let s = c.size.ensures.is h in
    let l = c.longest_clause.ensures.is h in
    split_long v a.current a.self.place a.self.variable a.self.to (g.S.Shelf.sound _ h) (sym (c.is_filled.ensures h) ∙ c.if-not-is_filled.false) (sym (c.has_new_variable.ensures h) ∙ c.if-not-has_new_variable.false) (omega arith)

pub returns-then-not-is_vacant : goal.returns-then-not-is_vacant
returns-then-not-is_vacant g c h =
    let a = c.args in
    let v = g.S.Shelf.view a.shelf.now in
    let s = c.size.ensures.is h in
    let l = c.longest_clause.ensures.is h in
    split_crowded v a.current a.self.place a.self.variable a.self.to (g.S.Shelf.sound _ h) (sym (c.is_filled.ensures h) ∙ c.if-not-is_filled.false) (sym (c.has_new_variable.ensures h) ∙ c.if-not-has_new_variable.false) (omega arith) (sym (c.is_vacant.ensures h) ∙ c.if-not-is_vacant.true)

pub returns : goal.returns
returns g c h =
    let a = c.args in
    let v = g.S.Shelf.view a.shelf.now in
    let s = c.size.ensures.is h in
    let l = c.longest_clause.ensures.is h in
    split_passes v a.current a.self.place a.self.variable a.self.to (g.S.Shelf.sound _ h) (sym (c.is_filled.ensures h) ∙ c.if-not-is_filled.false) (sym (c.has_new_variable.ensures h) ∙ c.if-not-has_new_variable.false) (omega arith) (sym (c.is_vacant.ensures h) ∙ c.if-not-is_vacant.false)
