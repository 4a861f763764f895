use Rattle.std.proofs.Common.{arith}
use Rattle.std.proofs.lemmas.Grind.{common_steps}
use Rattle.std.proofs.lemmas.List.{drop_all}
use Rattle.results.proofs.Merging.{less_at, same_at, more_at, merge_left, merge_right}
use Rattle.results.proofs.codes.merge.Goals as goal

pub loop-i-preserved-then-a-b : goal.loop-i-preserved-then-a-b
loop-i-preserved-then-a-b c = grind (arith, common_steps, less_at)

pub loop-i-preserved-then-a-b-2 : goal.loop-i-preserved-then-a-b-2
loop-i-preserved-then-a-b-2 c = grind (arith, common_steps, same_at)

pub loop-i-preserved : goal.loop-i-preserved
loop-i-preserved c = grind (arith, common_steps, more_at)

pub returns : goal.returns
returns c = grind (arith, common_steps, merge_left, merge_right, drop_all)
