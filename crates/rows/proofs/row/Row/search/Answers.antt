use Rattle.std.proofs.Common.{◌/◌, nat_cmp, rules}
use Rattle.std.specs.List.Sorted.{IsBinarySearchResult}
use Rattle.std.proofs.lemmas.List.Sorted.{answers_always}
use Rattle.rows.proofs.Puts.{found_there, searched}
use Rattle.rows.proofs.row.Row.search.Goals as goal

pub returns : goal.returns
returns c =
    let code = c.args.literal.code in
    let r = c.binary_search_by_key.result in
    let bound = c.binary_search_by_key.ensures.bound in
    let at_key : IsBinarySearchResult (λ x. nat_cmp (x / 2) c.variable.result) c.codes.result.now r = c.binary_search_by_key.ensures.position (λ x. x / 2) (answers_always _ _ _ (λ f a r g called. search rules)) in
    let by_variable = rw c.variable.ensures at at_key in
    rw (← c.codes.ensures.codes) record {
      within = bound;
      found = found_there code _ r by_variable;
      stands = λ V rises. (searched V code _ r rises bound by_variable).0;
      goes = λ V rises. (searched V code _ r rises bound by_variable).1;
    }
