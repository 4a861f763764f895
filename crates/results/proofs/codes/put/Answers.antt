use Rattle.std.proofs.Common.{◌≡◌, ltb, length, sym, ◌∙◌, ap, ap₂, rules}
use Rattle.std.proofs.lemmas.Iterator.{YieldsList-from_slice}
use Rattle.std.proofs.lemmas.Iterator.Search.{position_from_yields_List}
use Rattle.std.specs.List.{insert}
use Rattle.std.specs.Option.{unwrap_or}
use Rattle.results.proofs.Merging.{put_insert, place_or_end}
use Rattle.results.proofs.codes.put.Goals as goal

pub returns : goal.returns
returns c =
    let codes = c.args.codes.now in
    let code = c.args.code in
    let all : c.try_extend_from_slice.new.self.items ≡ codes = search rules in
    let found = position_from_yields_List (ltb code) _ _ c.position.result c.position.ensures.ran (YieldsList-from_slice codes cc) (λ x b q k. search rules) in
    let at = c.unwrap_or-at.ensures ∙ ap (λ r. unwrap_or r (length codes)) found ∙ place_or_end (ltb code) codes in
    c.insert.ensures.items ∙ ap₂ (λ xs k. insert xs k code) all at ∙ sym (put_insert code codes)
