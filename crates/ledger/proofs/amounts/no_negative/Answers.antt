use Rattle.std.proofs.Common.{◌≡◌, ◌&&◌, List, [], ◌∷◌, ℤ, pos, refl, ap, rules, ◌∙◌}
use lib.Signed.{le_z}
use Rattle.std.specs.List.{list_all}
use Rattle.std.proofs.lemmas.Iterator.{YieldsList-from_slice}
use Rattle.std.proofs.lemmas.Iterator.Search.{all_from_yields_List}
use Rattle.rules.specs.Filling.{none_negative}
use Rattle.ledger.proofs.amounts.no_negative.Goals as goal

none_all : (xs : List ℤ) → list_all (λ x. le_z (pos 0) x) xs ≡ none_negative xs
unfolding none_negative
none_all [] = refl
none_all (x ∷ xs) = ap (λ t. le_z (pos 0) x && t) (none_all xs)

pub returns : goal.returns
returns c =
    all_from_yields_List (λ x. le_z (pos 0) x) _ _ _ c.all.ensures.ran (YieldsList-from_slice c.args.figures.now c.iter.ensures.rest) (λ x b q k. search rules)
    ∙ none_all c.args.figures.now
