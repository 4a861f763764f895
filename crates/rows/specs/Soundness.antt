-- The proof that a shelf of rows in order is sound, which its `impl` of `Shelf`
-- hands on.
--
--   codes_short   a row has no more codes than its count says
--   sound_rows    all that `Sound` asks
use Rattle.std.specs.Prelude.{ℕ, ◌+◌, ◌≤◌, List, length, slice_index}
use Rattle.std.proofs.Common.{sym, subst, arith}
use Rattle.std.proofs.lemmas.List.{length-take}
use Rattle.shelf.specs.Holding.{held_at, held_length}
use Rattle.shelf.specs.View.{Clause, Sound}
use Rattle.rows.specs.Rows.{codes_at, codes_of, row_at, Rows, rows_view}

pub codes_short : (row : List ℕ) → length (codes_of row) ≤ slice_index row 0
unfolding codes_of
codes_short row = simp length-take (omega arith)

pub sound_rows : (P V L : ℕ) (ws : List ℕ) → Rows P V L ws → Sound (rows_view P V L ws)
sound_rows P V L ws r =
    record {
      count = held_length (codes_at L ws) P;
      places_few = r.places_few;
      highest_low = r.highest_low;
      highest_high = r.highest_high;
      longest_low = r.longest_low;
      longest_high = r.longest_high;
      clauses = λ p h.
          let row = row_at (L + 1) ws p in
          let s = codes_short row in
          let c : Clause V L (codes_of row) = record { rises = (r.each p h).rises; short = omega (arith, (r.each p h).count) } in
          subst (Clause V L) (sym (held_at (codes_at L ws) P p h)) c;
    }
