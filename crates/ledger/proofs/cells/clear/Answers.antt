use Rattle.std.proofs.Common.{◌≡◌, ℕ, zero, suc, ◌≤◌, ◌∷◌, map, length, replicate, sym, refl, ap, ◌∙◌, arith}
use Rattle.std.proofs.lemmas.List.{take_all, length-map}
use Rattle.cost.specs.Figures.{zeros}
use Rattle.rules.specs.Cells as rules
use Rattle.ledger.specs.declared.cell.Cell.TheVariants.{Soft}
use Rattle.ledger.specs.Meaning.{cell_of, cells_of}
use Rattle.ledger.proofs.cells.clear.Goals as goal

map-replicate : {X Y : Type 0} (f : X → Y) (n : ℕ) (x : X) → map f (replicate n x) ≡ replicate n (f x)
map-replicate f zero x = refl
map-replicate f (suc n) x = ap (λ ys. f x ∷ ys) (map-replicate f n x)

pub returns : goal.returns
returns g c =
    let k = g.K.CostKind.kind in
    let law = g.met.K.CostKind.lawful in
    let old = c.args.ledger.now in
    let h : length c.loop-cell.ledger ≤ c.loop-cell.cell-index = omega arith in
    let n : c.loop-cell.cell-index ≡ length c.args.ledger.now = omega arith in
    let all = sym (take_all c.loop-cell.cell-index c.loop-cell.ledger h) ∙ c.loop-cell.invariant ∙ ap (λ i. replicate i (Soft c.row-nothing.result)) n in
    let read = ap k.back c.row-nothing.ensures ∙ law.own_row c.nothing.result ∙ c.nothing.ensures in
    record {
      is = λ a e.
          all ∙ ap (λ w. replicate (length old) (Soft w)) (c.row-nothing.ensures ∙ ap k.row (law.one c.nothing.result a (c.nothing.ensures ∙ sym e)));
      means =
          ap (cells_of k) all ∙ map-replicate (cell_of k.back) (length old) (Soft c.row-nothing.result) ∙ ap (λ z. replicate (length old) (rules.soft z)) read
          ∙ ap (λ (i : ℕ). replicate i (rules.soft (zeros k.scale.tiers))) (sym (length-map old (cell_of k.back)));
    }
