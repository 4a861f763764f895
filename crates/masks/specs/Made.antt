-- A shelf as it is made, over n words.
--
--   made_places     as many places as there is room for, at most 65,535
--   made_view       those, every one free, with variables and clauses up to 64
use Rattle.std.specs.Prelude.{ℕ, ◌/◌, min, [], replicate}
use Rattle.shelf.specs.View.{View}

abbrev pub made_places : ℕ → ℕ
made_places n = min (n / 2) 65535

abbrev pub made_view : ℕ → View
made_view n = record { places = made_places n; highest = 64; longest = 64; held = replicate (made_places n) []; remainder = [] }
