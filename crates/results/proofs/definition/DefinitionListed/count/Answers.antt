use Rattle.std.proofs.Common.{arith}
use Rattle.results.proofs.Defined.{length_implied}
use Rattle.results.proofs.definition.DefinitionListed.count.Goals as goal

pub returns-clause-is : goal.returns-clause-is
returns-clause-is c = omega (arith, length_implied)
