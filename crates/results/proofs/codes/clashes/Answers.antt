use Rattle.std.proofs.Common.{MatchBool, rules}
use Rattle.std.proofs.iter.runs.Made.{chains}
use Rattle.results.proofs.Clashing.{Clash, NoClash, clash_told}
use Rattle.results.proofs.codes.clashes.Goals as goal

pub returns : goal.returns
returns c top s =
    let codes = c.args.codes.now in
    let told : MatchBool c.any.result (Clash codes) (NoClash codes) = search (rules, chains) in
    clash_told top 2 codes c.any.result s told
