use Rattle.std.proofs.Common.{◌∙◌, ap₂}
use Rattle.results.specs.Counting.{tally_of}
use Rattle.results.proofs.resolving.Pairing.survey_resolve.Goals as goal

pub returns-clause-is : goal.returns-clause-is
returns-clause-is g c h = let ps = c.read_parents.ensures in c.survey.ensures.is _ (ps.spread h) ∙ ap₂ tally_of (c.longest_clause.ensures.is h) (ps.is h)
