use Rattle.std.proofs.Common.{leb, length, ◌&&◌, rules, ap, sym, ◌∙◌}
use Rattle.std.proofs.lemmas.Bool.{eq-eqb}
use Rattle.std.proofs.lemmas.Iterator.{YieldsList-from_slice}
use Rattle.std.proofs.lemmas.Iterator.Search.{all_from_yields_List}
use Rattle.rules.specs.Plans.{bits}
use Rattle.clauses.proofs.Indexing.{bits_all}
use Rattle.clauses.proofs.plans.is_plan.Goals as goal

pub returns-then-strip-n : goal.returns-then-strip-n
returns-then-strip-n c =
    all_from_yields_List (λ b. leb b 1) _ _ _ c.all.ensures.ran (YieldsList-from_slice c.args.strip.now c.iter.ensures.rest) (λ x b q k. search rules)
    ∙ bits_all c.args.strip.now
    ∙ ap (λ t. t && bits c.args.strip.now) (sym (eq-eqb (length c.args.strip.now) c.args.n c.if-strip-n.true))
