use Rattle.std.proofs.Common.{◌≡◌, ℕ, ◌+◌, ◌-◌, ◌<◌, ◌≤◌, length, get_or, take, drop, refl, arith, rules}
use Rattle.std.proofs.lemmas.List.{places}
use Rattle.rows.proofs.Slips.{slip_codes}
use Rattle.rows.proofs.row.slip.Goals as goal

pub returns-clause-codes : goal.returns-clause-codes
returns-clause-codes c =
    let row = c.args.row.now in
    let k = c.args.k in
    let m = get_or row 0 0 + 2 - (k + 1) in
    let mid = c.rotate_right.new.self in
    let long : length mid ≡ m = search (rules, places) in
    let turned : (i : ℕ) → 1 ≤ i → i < m → get_or mid i 0 ≡ get_or (take m (drop (k + 1) row)) (i - 1) 0 = λ i h l. c.rotate_right.ensures.by_index.1 i 0 h (omega (arith, c.rotate_right.ensures.len)) in
    slip_codes row mid _ k _ m refl c.requires.gap.room c.requires.gap.within refl long turned
