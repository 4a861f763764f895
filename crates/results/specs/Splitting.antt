-- When a clause may be split, and what the shelf holds then.
--
--   split_view v p x to   the shelf once its clause at p is split on x: with x it stays
--                  there, and with the opposite it goes to the place `to`
--   Splittable v p x to   the clause at the place p may be split on the variable x:
--                  there is one, x is a variable of the shelf that does not stand in
--                  it, it has room for one literal more, and the place `to` is free
use Rattle.std.specs.Prelude.{◌≡◌, ℕ, ◌+◌, ◌*◌, ◌<◌, ◌≤◌, true, false, length, slice_set}
use Rattle.shelf.specs.Literals.{put, stands}
use Rattle.shelf.specs.Room.{filled, vacant}
use Rattle.shelf.specs.View.{View, clause, with_held}

abbrev pub split_view : View → ℕ → ℕ → ℕ → View
split_view v p x to = with_held v (slice_set (slice_set v.held p (put (2 * x) (clause v p))) to (put (2 * x + 1) (clause v p)))

pub record Splittable (v : View) (p x to : ℕ) : Type 0 where
  pub there : filled v p ≡ true
  pub some : 1 ≤ x
  pub known : x ≤ v.highest
  pub new : stands x (clause v p) ≡ false
  pub short : length (clause v p) < v.longest
  pub room : vacant v to ≡ true
