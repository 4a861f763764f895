use Rattle.std.proofs.Common.{arith}
use Rattle.results.proofs.Listing.{length_results}
use Rattle.results.proofs.parents.ParentsListed.count.Goals as goal

pub returns-clause-is : goal.returns-clause-is
returns-clause-is c = grind (arith, length_results)
