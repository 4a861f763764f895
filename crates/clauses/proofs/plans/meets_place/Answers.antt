use Rattle.std.proofs.Common.{get_or, length, refl, rules, arith, ◌∙◌}
use Rattle.std.proofs.lemmas.Iterator.{YieldsList-from_range}
use Rattle.std.proofs.lemmas.Iterator.Search.{any_from_yields_List}
use Rattle.rules.specs.Plans.{makes_true}
use Rattle.shelf.specs.View.{clause}
use Rattle.clauses.proofs.Indexing.{meets_any}
use Rattle.clauses.proofs.plans.meets_place.Goals as goal

pub returns : goal.returns
returns g c h =
    let cs = clause (g.S.Shelf.view c.args.shelf.now) c.args.place in
    any_from_yields_List (λ k. makes_true c.args.strip.now (get_or cs k 0)) _ _ _ c.any.ensures.ran (YieldsList-from_range 0 _ (length cs) refl (omega (arith, c.size.ensures.is h))) (λ x b q k. search rules)
    ∙ meets_any c.args.strip.now cs
