use Rattle.std.proofs.Common.{rules}
use Rattle.results.proofs.Clashing.{opposed_told}
use Rattle.results.proofs.codes.opposed.Goals as goal

pub returns : goal.returns
returns c = search (rules, opposed_told)
