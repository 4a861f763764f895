use Rattle.std.proofs.Common.{ℕ, ◌+◌, sym, refl, ap, ◌∙◌, arith}
use Rattle.clauses.specs.Codes.{codes}
use Rattle.clauses.proofs.Turns.{codes_length}
use Rattle.shelf.specs.Room.{roomy}
use Rattle.steps.proofs.Defines.{fits_tested, define_long, define_crowded, define_passes}
use Rattle.steps.proofs.defining.Define.ask.Goals as goal

pub returns-then-self-longest_clause : goal.returns-then-self-longest_clause
returns-then-self-longest_clause g c =
    let v = g.S.Shelf.view c.args.shelf.now in
    let literals = c.args.self.now.literals.now in
    let n = codes_length literals in
    record {
      is = λ h.
          let t = c.highest_variable.ensures.is h in
          let l = c.longest_clause.ensures.is h in
          let fits = fits_tested v c.args.current c.args.self.now.to literals c.is_empty.ensures c.if-is_empty.false (sym c.if-not-rises.false ∙ c.rises.ensures) (c.known_variables.ensures h) (omega arith) in
          define_long v c.args.current c.args.self.now.to (codes literals) fits (omega arith);
      next = tt;
    }

pub returns-then-not-has_room : goal.returns-then-not-has_room
returns-then-not-has_room g c =
    let v = g.S.Shelf.view c.args.shelf.now in
    let literals = c.args.self.now.literals.now in
    let n = codes_length literals in
    record {
      is = λ h.
          let t = c.highest_variable.ensures.is h in
          let l = c.longest_clause.ensures.is h in
          let fits = fits_tested v c.args.current c.args.self.now.to literals c.is_empty.ensures c.if-is_empty.false (sym c.if-not-rises.false ∙ c.rises.ensures) (c.known_variables.ensures h) (omega arith) in
          define_crowded v c.args.current c.args.self.now.to (codes literals) fits (omega arith) (sym c.if-not-has_room.true ∙ c.has_room.ensures h ∙ ap (λ (z : ℕ). roomy v c.args.self.now.to (z + 1)) (sym n));
      next = tt;
    }

pub returns : goal.returns
returns g c =
    let v = g.S.Shelf.view c.args.shelf.now in
    let literals = c.args.self.now.literals.now in
    let n = codes_length literals in
    record {
      is = λ h.
          let t = c.highest_variable.ensures.is h in
          let l = c.longest_clause.ensures.is h in
          let fits = fits_tested v c.args.current c.args.self.now.to literals c.is_empty.ensures c.if-is_empty.false (sym c.if-not-rises.false ∙ c.rises.ensures) (c.known_variables.ensures h) (omega arith) in
          define_passes v c.args.current c.args.self.now.to (codes literals) fits (omega arith) (sym c.if-not-has_room.false ∙ c.has_room.ensures h ∙ ap (λ (z : ℕ). roomy v c.args.self.now.to (z + 1)) (sym n));
      next = refl;
    }
