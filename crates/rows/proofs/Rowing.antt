-- Rows in a list of words: their codes, their places, and one row rewritten.
use Rattle.std.proofs.Common.{◌≡◌, ℕ, ◌+◌, ◌-◌, ◌*◌, ◌<◌, ◌≤◌, List, [], length, get_or, take, drop, set, sym, ap, ◌∙◌, subst, inl, inr, add_comm, arith}
use borrow.Rule.Slice.PartMut.{put_mid}
use Rattle.std.proofs.lemmas.List.{length-append, length-take, length-drop, get_or-take, get_or-drop, drop-take}
use Rattle.std.proofs.lemmas.Slice.{take-put_mid_below, drop-put_mid, between-put_mid}
use Rattle.std.proofs.lemmas.Bool.{cases_order, cases_eq}
use Rattle.rows.specs.Rows.{codes_at, codes_of, row_at, Row, Rows, used, held_in}
use Rattle.shelf.proofs.Holding.{changed_at}
use Rattle.shelf.proofs.Starting.{places_apart}
use Rattle.shelf.specs.Memory.{Starts}

pub codes_length : (row : List ℕ) → get_or row 0 0 < length row → length (codes_of row) ≡ get_or row 0 0
unfolding codes_of
codes_length row h = simp (length-take, length-drop) (omega arith)

pub codes_getD : (row : List ℕ) (k : ℕ) → k < get_or row 0 0 → get_or (codes_of row) k 0 ≡ get_or row (k + 1) 0
unfolding codes_of
codes_getD row k h =
    get_or-take (get_or row 0 0) (drop 1 row) k 0 h ∙ get_or-drop 1 row k 0 ∙ ap (λ (i : ℕ). get_or row i 0) (add_comm 1 k)

pub codes_none : (row : List ℕ) → get_or row 0 0 ≡ 0 → codes_of row ≡ []
unfolding codes_of
codes_none row e = ap (λ (n : ℕ). take n (drop 1 row)) e

pub row_length : (w : ℕ) (ws : List ℕ) (p : ℕ) → p * w + w ≤ length ws → length (row_at w ws p) ≡ w
unfolding row_at
row_length w ws p h = simp (length-take, length-drop) (omega arith)

pub row_getD : (w : ℕ) (ws : List ℕ) (p k : ℕ) → k < w → get_or (row_at w ws p) k 0 ≡ get_or ws (p * w + k) 0
unfolding row_at
row_getD w ws p k h = get_or-take w (drop (p * w) ws) k 0 h ∙ get_or-drop (p * w) ws k 0

pub row_fits : {P V L : ℕ} {ws : List ℕ} → Rows P V L ws → (p : ℕ) → p < P → p * (L + 1) + (L + 1) ≤ length ws
row_fits {P} {V} {L} r p h = omega (arith, places_apart (L + 1) p P h, r.room)

-- `&s[a..a + w]` is a row where a is its start
pub part_row : (w n p a : ℕ) (ws : List ℕ) → n ≡ w → a ≡ p * w → take (a + n - a) (drop a ws) ≡ row_at w ws p
unfolding row_at
part_row w n p a ws is e =
    let m : a + n - a ≡ w = omega arith in
    ap (λ (x : ℕ). take x (drop a ws)) m ∙ ap (λ (x : ℕ). take w (drop x ws)) e

-- the words ys are written over the w words from a on, where the row of p begins
module _ (P L p a w : ℕ) (ws ys : List ℕ) (starts : Starts P (L + 1) (length ws) p a) (wide : w ≡ L + 1) (long : length ys ≡ length (take (a + w - a) (drop a ws))) where
  abbrev after : List ℕ
  after = put_mid a (a + w - a) ws ys

  part : a + w - a ≡ L + 1
  part = omega arith

  pub row_wide : length ys ≡ L + 1
  row_wide = long ∙ simp (length-take, length-drop) (omega (arith, starts.room))

  pub length_kept : length after ≡ length ws
  length_kept = let h = row_wide in simp (length-append, length-take, length-drop) (omega (arith, starts.room))

  pub row_here : row_at (L + 1) after p ≡ ys
  unfolding row_at
  row_here =
      let e : L + 1 ≡ a + (L + 1) - a = omega arith in
      let m : length ys ≡ a + (L + 1) - a = row_wide ∙ e in
      ap (λ (i : ℕ). take (L + 1) (drop i after)) (sym starts.at)
      ∙ ap (λ (n : ℕ). take n (drop a after)) e
      ∙ between-put_mid a (a + w - a) ws ys (a + (L + 1)) (omega (arith, starts.room)) m

  row_other : (q : ℕ) → (q ≡ p → ⊥) → row_at (L + 1) after q ≡ row_at (L + 1) ws q
  unfolding row_at
  row_other q ne =
      let n = L + 1 in
      elim (cases_order q p) as (λ _. take n (drop (q * n) after) ≡ take n (drop (q * n) ws)) [
        | inl e ↦ absurd (ne e)
        | inr (inl lt) ↦
            let b = places_apart n q p lt in
            sym (drop-take (q * n) n after) ∙ ap (drop (q * n)) (take-put_mid_below a (a + w - a) ws ys (q * n + n) (omega (arith, starts.at)) (omega (arith, starts.room))) ∙ drop-take (q * n) n ws
        | inr (inr gt) ↦ let b = places_apart n p q gt in ap (take n) (drop-put_mid a (a + w - a) ws ys (q * n) (omega (arith, starts.at)) (omega (arith, starts.room)) (row_wide ∙ sym part))
      ]

  pub spare_kept : drop (used P L) after ≡ drop (used P L) ws
  spare_kept =
      let b = places_apart (L + 1) p P starts.place in
      drop-put_mid a (a + w - a) ws ys (used P L) (omega (arith, starts.at)) (omega (arith, starts.room)) (row_wide ∙ sym part)

  pub held_changed : held_in P L after ≡ set (held_in P L ws) p (codes_of ys)
  held_changed =
      changed_at (codes_at L ws) (codes_at L after) P p (codes_of ys) (ap codes_of row_here)
      (λ q ne. ap codes_of (row_other q ne))

  pub rows_changed : (V : ℕ) → Rows P V L ws → Row V L ys → Rows P V L after
  rows_changed V r here =
      record {
        places_few = r.places_few;
        highest_low = r.highest_low;
        highest_high = r.highest_high;
        longest_low = r.longest_low;
        longest_high = r.longest_high;
        room = let same = length_kept in omega (arith, r.room);
        each = λ q h. elim (cases_eq q p) as (λ _. Row V L (row_at (L + 1) after q)) [
          | inl e ↦ subst (λ (x : ℕ). Row V L (row_at (L + 1) after x)) (sym e) (subst (Row V L) (sym row_here) here)
          | inr ne ↦ subst (Row V L) (sym (row_other q ne)) (r.each q h)
        ];
      }
