use Rattle.std.proofs.Common.{◌≡◌, ◌+◌, length, take}
use Rattle.rules.specs.Results.{alike, kept, laid}
use Rattle.results.specs.Placing.{Framed, Laid, Placeable, after_placing}
use Rattle.results.specs.Spread.{AllSpread}
use Rattle.results.proofs.placing.place_all.Given as goal

abbrev pub invariant-loop-t : goal.invariant-loop-t
invariant-loop-t g l =
    let s = g.S.Shelf in
    let v = s.view l.initial.shelf in
    let rs = g.R.Listed.listed l.rs in
    let so_far = take l.t rs in
    s.fine l.initial.shelf
    → Framed (s.fine l.shelf) v (s.view l.shelf)
    × (AllSpread v.highest rs → Placeable v l.to rs
    → (l.place ≡ l.to + length (kept so_far)) × Laid (s.fine l.shelf) (s.view l.shelf) (after_placing v l.to so_far) l.cells (laid l.to (alike l.m (kept so_far)) l.initial.cells))
