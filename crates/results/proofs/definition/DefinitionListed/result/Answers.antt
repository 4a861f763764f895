use Rattle.std.proofs.Common.{arith}
use Rattle.std.proofs.lemmas.Grind.{common_steps}
use Rattle.results.proofs.Defined.{at_defining, past_defining}
use Rattle.results.proofs.definition.DefinitionListed.result.Goals as goal

pub returns-in_default-get : goal.returns-in_default-get
returns-in_default-get c = grind (arith, common_steps, past_defining)

pub returns : goal.returns
returns c = grind (arith, common_steps, at_defining)
