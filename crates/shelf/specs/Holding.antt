-- The clauses at the places below P, where `at` tells each.
--
--   held_by at P   the list of them
--   held_length    there are as many clauses as places
--   held_at        the clause at a place is what `at` tells
--   held_past      past the last place there is none
use Rattle.std.specs.Prelude.{◌≡◌, ℕ, ◌<◌, ◌≤◌, List, [], map, length, slice_index_or}
use Rattle.std.specs.List.{range_with_len}
use Rattle.std.proofs.Common.{zero-add, arith}
use Rattle.std.proofs.lemmas.List.{get_or_past}
use Rattle.std.proofs.lemmas.List.FromFn.{length-map-range_with_len, get_or-map-range_with_len}

unfoldable pub held_by : (ℕ → List ℕ) → ℕ → List (List ℕ)
held_by at P = map at (range_with_len 0 P)

module _ (at : ℕ → List ℕ) (P : ℕ) where
  pub held_length : length (held_by at P) ≡ P
  unfolding held_by
  held_length = length-map-range_with_len at 0 P

  pub held_at : (p : ℕ) → p < P → slice_index_or (held_by at P) p [] ≡ at p
  unfolding held_by
  held_at p h = get_or-map-range_with_len at 0 P p p [] h (zero-add p)

  pub held_past : (p : ℕ) → P ≤ p → slice_index_or (held_by at P) p [] ≡ []
  held_past p h = let e = held_length in get_or_past (held_by at P) p [] (omega arith)
