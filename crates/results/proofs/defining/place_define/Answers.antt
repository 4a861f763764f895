use Rattle.std.proofs.Common.{◌≡◌, ℕ, List, sym, ◌∙◌, subst, arith}
use Rattle.std.proofs.lemmas.List.{take_all}
use Rattle.clauses.specs.Codes.{codes}
use Rattle.rules.specs.Results.{defining}
use Rattle.results.specs.Placing.{Placeable}
use Rattle.results.specs.Spread.{AllSpread}
use Rattle.results.proofs.Defined.{defining_spread}
use Rattle.results.proofs.defining.place_define.Goals as goal

pub returns-clause-did : goal.returns-clause-did
returns-clause-did g c h a b =
    let v = g.S.Shelf.view c.args.shelf.now in
    let d = c.args.variable in
    let ls = c.args.literals.now in
    let low = (g.S.Shelf.sound _ h).longest_high in
    let short = a.short in
    let e : c.copy_codes.new.codes.items ≡ codes ls = c.copy_codes.ensures ∙ take_all 255 (codes ls) (omega arith) in
    let spread = subst (λ (xs : List ℕ). AllSpread v.highest (defining d xs)) (sym e) (defining_spread v.highest d a.some a.known (codes ls) a.rises a.new) in
    let may = subst (λ (xs : List ℕ). Placeable v c.args.to (defining d xs)) (sym e) b in
    rw (← e) (c.place_all.ensures.did h spread may)
