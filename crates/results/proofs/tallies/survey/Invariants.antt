use Rattle.std.proofs.Common.{◌≡◌, ℕ, ◌≤◌, take}
use Rattle.results.specs.Counting.{tally_of}
use Rattle.results.specs.Spread.{AllSpread}
use Rattle.results.proofs.tallies.survey.Given as goal

abbrev pub invariant-loop-t : goal.invariant-loop-t
invariant-loop-t g l =
    let rs = g.R.Listed.listed l.rs in
    (l.tally.kept ≤ l.t) × ((top : ℕ) → AllSpread top rs → l.tally ≡ tally_of l.longest (take l.t rs))
