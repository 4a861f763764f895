-- Results put into places, and a cell beside each.
--
--   Placeable v to rs      the results rs may be placed from the place `to` on:
--                          each is short enough, and there is room for them
--   after_placing v to rs  the view with them placed
--   Laid                   what a call that places did: the shelf is in order
--                          after it, what it means then, and the cells then
--   Placed f v w to rs m cs ds   the results rs, if they may be placed from `to` on, are
--                          laid there, each with the cell m: what meant v means w, the
--                          cells cs are ds, and the shelf is in order by f
--   Framed f v w           the shelf is in order by f, and of what it means only what is
--                          held may have changed
use Rattle.std.specs.Prelude.{◌≡◌, ℕ, true, List, length}
use Rattle.rules.specs.Results.{alike, kept, short_enough, laid}
use Rattle.shelf.specs.Answers.{Became}
use Rattle.shelf.specs.Room.{roomy}
use Rattle.shelf.specs.View.{View, with_held}

pub record Placeable (v : View) (to : ℕ) (rs : List (List ℕ)) : Type 0 where
  pub fits : short_enough v.longest rs ≡ true
  pub room : roomy v to (length (kept rs)) ≡ true

abbrev pub after_placing : View → ℕ → List (List ℕ) → View
after_placing v to rs = with_held v (laid to (kept rs) v.held)

pub record Laid {C : Type 0} (fine_after : Type 0) (v v_told : View) (cs cs_told : List C) : Type 0 where
  pub fine : fine_after
  pub view : v ≡ v_told
  pub cells : cs ≡ cs_told

abbrev pub Placed : {C : Type 0} → Type 0 → View → View → ℕ → List (List ℕ) → C → List C → List C → Type 0
Placed fine_after v w to rs m cs ds = Placeable v to rs → Laid fine_after w (after_placing v to rs) ds (laid to (alike m (kept rs)) cs)

abbrev pub Framed : Type 0 → View → View → Type 0
Framed fine_after v w = Became fine_after w (with_held v w.held)
