use Rattle.rules.proofs.Framing.{only_held}
use Rattle.rules.proofs.Shown.{shown_costs, shown_allowed}
use Rattle.rules.proofs.rules_stand.Goals as goal

pub returns : goal.returns
returns c = record { shown = record { costs = shown_costs; allows = shown_allowed }; held = only_held }
