use Rattle.cost.specs.Reaching.{reach_tells}
use Rattle.cost.proofs.laws.reach_stands.Goals as goal

pub returns : goal.returns
returns c = reach_tells
