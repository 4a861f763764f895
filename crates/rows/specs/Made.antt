-- A shelf as it is made, over n words for a highest variable V and clauses of at
-- most L literals.
--
--   in_limits V L   whether V is 1 to 65,535 and L is 1 to 255
--   made_places     as many places as there is room for, at most 65,535; none
--                   where the limits are not kept
--   made_highest, made_longest   V and L; 1 where the limits are not kept
--   made_view       those measures with every place free
use Rattle.std.specs.Prelude.{ℕ, ◌+◌, ◌/◌, min, Bool, cond, ◌&&◌, [], replicate, nat_le}
use Rattle.shelf.specs.View.{View}

abbrev pub in_limits : ℕ → ℕ → Bool
in_limits V L = (nat_le 1 V && nat_le V 65535) && (nat_le 1 L && nat_le L 255)

abbrev pub made_places : ℕ → ℕ → ℕ → ℕ
made_places n V L = cond (in_limits V L) (min (n / (L + 1)) 65535) 0

abbrev pub made_highest : ℕ → ℕ → ℕ
made_highest V L = cond (in_limits V L) V 1

abbrev pub made_longest : ℕ → ℕ → ℕ
made_longest V L = cond (in_limits V L) L 1

abbrev pub made_view : ℕ → ℕ → ℕ → View
made_view n V L =
    record {
      places = made_places n V L;
      highest = made_highest V L;
      longest = made_longest V L;
      held = replicate (made_places n V L) [];
      remainder = [];
    }
