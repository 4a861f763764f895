use Rattle.std.proofs.Common.{arith}
use Rattle.std.proofs.lemmas.Grind.{common_steps}
use Rattle.results.proofs.Merging.{without_filter}
use Rattle.results.proofs.codes.without.Goals as goal

pub returns : goal.returns
returns c = grind (arith, common_steps, without_filter)
