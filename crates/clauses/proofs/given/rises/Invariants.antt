use Rattle.std.proofs.Common.{◌≡◌, drop, map}
use Rattle.rules.specs.Clauses.{rises}
use Rattle.clauses.proofs.given.rises.Given as goal

abbrev pub invariant-loop-c : goal.invariant-loop-c
invariant-loop-c g l = let codes = map g.C.Coded.code_of l.clause in rises l.highest l.last (drop l.c-index codes) ≡ rises l.highest 0 codes
