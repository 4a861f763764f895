use Rattle.std.proofs.Common.{◌≡◌, ℕ, ◌+◌, ◌-◌, ◌*◌, ◌≤◌, List, length, take, drop, sym, refl, ap, subst, arith}
use Rattle.rows.specs.Finding.{Gap}
use Rattle.rows.specs.Rows.{row_at}
use Rattle.shelf.specs.Memory.{Starts}
use Rattle.rows.proofs.Rowing.{part_row, spare_kept}
use Rattle.rows.proofs.Steps.{added_became}
use Rattle.rows.proofs.RowShelf.insert.Goals as goal

-- the row that the call hands on is that of the place
part : (w L p : ℕ) (ws : List ℕ) → w ≡ L + 1 → row_at (L + 1) ws p ≡ take (p * w + w - p * w) (drop (p * w) ws)
part w L p ws wide = sym (part_row (L + 1) w p (p * w) ws wide (ap (λ (n : ℕ). p * n) wide))

pub slip-requires : goal.slip-requires
slip-requires c =
    let e = part _ _ _ _ c.width-width.ensures in
    record {
      gap = subst (λ (row : List ℕ). Gap row c.args.literal.code c.args.k) e c.requires.gap;
      short = subst (λ (row : List ℕ). length row ≤ 256) e c.requires.row.short;
    }

pub returns : goal.returns
returns c =
    let s = c.args.self.now in
    let p = c.args.place in
    let w = c.width-width.result in
    let wide = c.width-width.ensures in
    let f = c.requires.row in
    let at : p * w ≡ p * (s.longest + 1) = ap (λ (n : ℕ). p * n) wide in
    let starts : Starts s.places (s.longest + 1) (length s.words.now) p (p * w) = record { place = f.place; at = at; room = omega (arith, f.room) } in
    let gap = subst (λ (row : List ℕ). Gap row c.args.literal.code c.args.k) (part _ _ _ _ wide) c.requires.gap in
    record {
      became = λ rows. added_became _ _ _ _ _ _ _ _ starts wide c.slip.auto.row rows _ _ _ refl gap c.slip.ensures.count c.slip.ensures.codes c.slip.ensures.beyond;
      spare = spare_kept _ _ _ _ _ _ _ starts wide c.slip.auto.row;
    }
