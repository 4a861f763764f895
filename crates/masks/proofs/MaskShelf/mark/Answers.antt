use Rattle.std.proofs.Common.{◌-◌, ◌<◌, arith}
use Rattle.std.proofs.lemmas.Nat.{one_shl}
use Rattle.masks.proofs.Steps.{marked_became}
use Rattle.masks.proofs.MaskShelf.mark.Goals as goal

pub returns-clause-became : goal.returns-clause-became
returns-clause-became c =
    let v = c.variable.ensures in
    let fits : c.variable.result - 1 < 64 = omega (arith, c.requires.low, c.requires.high) in
    marked_became _ _ _ _ _ _ _ c.requires (omega arith) (one_shl _ 64 fits)
