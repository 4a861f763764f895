use Rattle.std.proofs.Common.{◌≡◌, length, take}
use Rattle.clauses.specs.Codes.{codes}
use Rattle.clauses.proofs.given.copy_codes.Given as goal

abbrev pub invariant-loop-literal : goal.invariant-loop-literal
invariant-loop-literal l = (length l.codes.items ≡ l.literal-index) × (l.codes.items ≡ take l.literal-index (codes l.clause))
