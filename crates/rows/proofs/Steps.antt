-- What the methods find and change, over the measures and the words.
use Rattle.std.proofs.Common.{◌≡◌, ℕ, ◌+◌, ◌-◌, ◌*◌, ◌/◌, ◌<◌, ◌≤◌, true, false, List, length, get_or, take, drop, set, replicate, is_ok, Ok, sym, ap, ◌∙◌, subst, arith}
use borrow.Rule.Slice.PartMut.{put_mid}
use Rattle.std.specs.List.{insert}
use Rattle.std.proofs.lemmas.List.{length-replicate}
use Rattle.std.proofs.lemmas.Bool.{cond-true}
use Rattle.shelf.proofs.Adding.{added_ok}
use Rattle.shelf.specs.Holding.{held_at}
use Rattle.shelf.specs.Memory.{Starts}
use Rattle.shelf.specs.Answers.{Became, added, after_add, after_wipe}
use Rattle.shelf.specs.Literals.{Rising, put, stands}
use Rattle.shelf.specs.View.{View, clause, with_held}
use Rattle.rows.specs.Finding.{Found, Gap}
use Rattle.rows.specs.Rows.{Row, Rows, codes_at, codes_of, held_in, row_at, rows_view, used}
use Rattle.rows.proofs.Puts.{rising_put}
use Rattle.rows.proofs.Rowing.{row_length, part_row, held_changed, row_here, row_wide, rows_changed, spare_kept}
use Rattle.rows.proofs.Writings.{zeros_codes, zeros_row}

-- ---- questions, at a row that was found

-- the w words from a on, where the row of p begins
module _ (P L : ℕ) (ws : List ℕ) (p a w : ℕ) (starts : Starts P (L + 1) (length ws) p a) (wide : w ≡ L + 1) (row : List ℕ) (cut : row ≡ take (a + w - a) (drop a ws)) where
  row_is : row ≡ row_at (L + 1) ws p
  row_is = cut ∙ part_row (L + 1) w p a ws wide starts.at

  room : p * (L + 1) + (L + 1) ≤ length ws
  room = omega (arith, starts.at, starts.room)

  row_long : length row ≡ L + 1
  row_long = ap length row_is ∙ row_length (L + 1) ws p room

  pub row_counted : (V : ℕ) → Rows P V L ws → length row ≤ get_or row 0 0 → ⊥
  row_counted V rows past =
      let e = ap (λ (r : List ℕ). get_or r 0 0) row_is in let l = row_long in omega (arith, (rows.each p starts.place).count)

  pub row_found : L ≤ 255 → get_or row 0 0 < length row → Found P L ws p row
  row_found narrow count =
      record {
        place = starts.place;
        room = room;
        words = row_is;
        long = row_long;
        short = let l = row_long in omega arith;
        count = count;
        clause = held_at (codes_at L ws) P p starts.place ∙ ap codes_of (sym row_is);
      }

-- ---- changes: the words ys are written over the row of p, which are the w words from a on

-- zeros
module _ (P L p a w : ℕ) (ws ys : List ℕ) (starts : Starts P (L + 1) (length ws) p a) (wide : w ≡ L + 1) (zeros : ys ≡ replicate (length (take (a + w - a) (drop a ws))) 0) where
  long : length ys ≡ length (take (a + w - a) (drop a ws))
  long = ap length zeros ∙ length-replicate _ 0

  row_zeros : ys ≡ replicate (L + 1) 0
  row_zeros = zeros ∙ ap (λ (n : ℕ). replicate n 0) (sym long ∙ row_wide P L p a w ws ys starts wide long)

  pub wiped_zero : row_at (L + 1) (put_mid a (a + w - a) ws ys) p ≡ replicate (L + 1) 0
  wiped_zero = row_here P L p a w ws ys starts wide long ∙ row_zeros

  pub wiped_spare : drop (used P L) (put_mid a (a + w - a) ws ys) ≡ drop (used P L) ws
  wiped_spare = spare_kept P L p a w ws ys starts wide long

  pub wiped_became : (V : ℕ) → Rows P V L ws → Became (Rows P V L (put_mid a (a + w - a) ws ys)) (rows_view P V L (put_mid a (a + w - a) ws ys)) (after_wipe (rows_view P V L ws) p)
  wiped_became V rows =
      record {
        fine = rows_changed P L p a w ws ys starts wide long V rows (subst (Row V L) (sym row_zeros) (zeros_row V L (L + 1)));
        view = ap (with_held (rows_view P V L ws))
            (held_changed P L p a w ws ys starts wide long ∙ ap (set (held_in P L ws) p) (ap codes_of row_zeros ∙ zeros_codes (L + 1)));
      }

-- a code more
module _ (P V L p a w : ℕ) (ws ys : List ℕ) (starts : Starts P (L + 1) (length ws) p a) (wide : w ≡ L + 1) (long : length ys ≡ length (take (a + w - a) (drop a ws))) (rows : Rows P V L ws) where
  abbrev before : View
  before = rows_view P V L ws

  abbrev after : List ℕ
  after = put_mid a (a + w - a) ws ys

  module _ (row : List ℕ) (c k : ℕ) (cut : row ≡ take (a + w - a) (drop a ws)) (gap : Gap row c k) (count : get_or ys 0 0 ≡ get_or row 0 0 + 1) (codes : codes_of ys ≡ insert (codes_of row) k c) (beyond : (j : ℕ) → get_or row 0 0 + 1 < j → get_or ys j 0 ≡ get_or row j 0) (answer : Ok tt ≡ added before p c) where
    was : row ≡ row_at (L + 1) ws p
    was = cut ∙ part_row (L + 1) w p a ws wide starts.at

    ok : is_ok (added before p c) ≡ true
    ok = ap is_ok (sym answer)

    clause_was : clause before p ≡ codes_of row
    clause_was = held_at (codes_at L ws) P p starts.place ∙ ap codes_of (sym was)

    row_was : Row V L row
    row_was = subst (Row V L) (sym was) (rows.each p starts.place)

    codes_put : codes_of ys ≡ put c (codes_of row)
    codes_put = codes ∙ sym (gap.goes V row_was.rises)

    row_after : Row V L ys
    row_after =
        let t = added_ok before p c ok in
        let l : length row ≡ L + 1 = ap length was ∙ row_length (L + 1) ws p (omega (arith, starts.at, starts.room)) in
        record {
          count = omega (arith, gap.room);
          rises = subst (Rising V 0) (sym codes_put) (rising_put V 0 c (codes_of row) row_was.rises t.0 t.1 (subst (λ (cs : List ℕ). stands (c / 2) cs ≡ false) clause_was t.2));
          blank = λ j h. beyond j (omega arith) ∙ row_was.blank j (omega arith);
        }

    pub added_became : Became (Rows P V L after) (rows_view P V L after) (after_add before p c)
    added_became =
        record {
          fine = rows_changed P L p a w ws ys starts wide long V rows row_after;
          view = ap (with_held before)
              (held_changed P L p a w ws ys starts wide long
              ∙ ap (set (held_in P L ws) p) (codes_put ∙ ap (put c) (sym clause_was))
              ∙ sym (cond-true (is_ok (added before p c)) (set (held_in P L ws) p (put c (clause before p))) (held_in P L ws) ok));
        }
