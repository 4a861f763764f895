use Rattle.std.proofs.Common.{arith}
use Rattle.results.proofs.Listing.{at_first, at_second, at_none}
use Rattle.results.proofs.parents.ParentsListed.result.Goals as goal

pub returns-then-k-firsts : goal.returns-then-k-firsts
returns-then-k-firsts c = grind (arith, at_first)

pub returns-then-k-compensation_count : goal.returns-then-k-compensation_count
returns-then-k-compensation_count c = grind (arith, at_second)

pub returns : goal.returns
returns c = grind (arith, at_none)
