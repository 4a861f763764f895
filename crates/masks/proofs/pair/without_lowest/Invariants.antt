use Rattle.std.proofs.Common.{◌≡◌, ◌^◌, ◌<◌, drop}
use Rattle.masks.specs.Digits.{variables}
use Rattle.masks.proofs.pair.without_lowest.Given as goal

abbrev pub invariant-loop : goal.invariant-loop
invariant-loop l = (l.left < 2 ^ 64) × (variables 64 1 l.left ≡ drop l.counter (variables 64 1 l.mask))
