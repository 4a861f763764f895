use Rattle.std.proofs.Common.{◌≡◌, ℕ, List, set, ◌∙◌, subst, rules}
use Rattle.clauses.specs.Codes.{codes}
use Rattle.shelf.specs.Room.{Writable}
use Rattle.shelf.specs.View.{with_held}
use Rattle.bench.proofs.Clausing.{copied}
use Rattle.bench.proofs.case.filling.put_clause.Goals as goal

pub returns : goal.returns
returns g c h w =
    let v = g.S.Shelf.view c.args.shelf.now in
    let p = c.args.place in
    let e : c.deref.result.now ≡ codes c.args.clause.now = c.deref.ensures.0 ∙ copied c.args.clause.now c.copy_codes.ensures w.short (g.S.Shelf.sound _ h).longest_high in
    let F : List ℕ → Type 0 = λ xs. Writable v p xs → g.S.Shelf.view c.write_codes.new.shelf ≡ with_held v (set v.held p xs) in
    record {
      fine = (c.write_codes.ensures.did h).fine;
      view = subst F e (c.write_codes.ensures.whole h) w;
      cells = search rules;
    }
