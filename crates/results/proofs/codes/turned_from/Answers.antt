use Rattle.std.proofs.Common.{arith}
use Rattle.std.proofs.lemmas.Grind.{common_steps}
use Rattle.std.proofs.lemmas.List.{take_rest}
use Rattle.results.specs.Turned.{turned}
use Rattle.results.proofs.codes.turned_from.Goals as goal

pub returns-in-len1-up : goal.returns-in-len1-up
unfolding turned
returns-in-len1-up c = grind (arith, common_steps, take_rest)
