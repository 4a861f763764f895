-- A shelf as it is made: its rows, and what it means.
use Rattle.std.proofs.Common.{◌≡◌, ℕ, ◌+◌, ◌*◌, ◌/◌, ◌<◌, ◌≤◌, min, Bool, true, false, cond, ◌&&◌, leb, List, [], length, take, replicate, sym, ap, ◌∙◌, subst, arith}
use Rattle.std.proofs.lemmas.Nat.{mul-le, div-add-mod'}
use Rattle.std.proofs.lemmas.Bool.{le-leb, and_from}
use Rattle.shelf.specs.View.{View}
use Rattle.rows.specs.Made.{in_limits, made_view}
use Rattle.rows.specs.Rows.{Row, Rows, codes_at, codes_of, held_in, row_at, used}
use Rattle.shelf.proofs.Holding.{free_at}
use Rattle.shelf.proofs.Starting.{places_apart}
use Rattle.rows.proofs.Writings.{zeros_codes, zeros_row, zeros_row_at}

-- there is room for as many rows as the division gives
pub rows_fit : (n w P : ℕ) → P ≤ n / w → P * w ≤ n
rows_fit n w P h = omega (arith, mul-le P w (n / w) w h (omega arith), div-add-mod' n w)

pub fresh_rows : (P V L : ℕ) (ws : List ℕ) → P ≤ 65535 → 1 ≤ V → V ≤ 65535 → 1 ≤ L → L ≤ 255 → used P L ≤ length ws → take (used P L) ws ≡ replicate (used P L) 0 → Rows P V L ws × (held_in P L ws ≡ replicate P [])
fresh_rows P V L ws few vl vh ll lh room zeros =
    let at : (p : ℕ) → p < P → row_at (L + 1) ws p ≡ replicate (L + 1) 0 = λ p h. zeros_row_at (L + 1) (used P L) ws p zeros (places_apart (L + 1) p P h) in (
      record {
        places_few = few;
        highest_low = vl;
        highest_high = vh;
        longest_low = ll;
        longest_high = lh;
        room = room;
        each = λ p h. subst (Row V L) (sym (at p h)) (zeros_row V L (L + 1));
      },
      free_at (codes_at L ws) P (λ p h. ap codes_of (at p h) ∙ zeros_codes (L + 1)),
    )

abbrev made_by : Bool → ℕ → ℕ → ℕ → View
made_by b n V L =
    record {
      places = cond b (min (n / (L + 1)) 65535) 0;
      highest = cond b V 1;
      longest = cond b L 1;
      held = replicate (cond b (min (n / (L + 1)) 65535) 0) [];
      remainder = [];
    }

pub made_kept : (n V L P : ℕ) → 1 ≤ V → V ≤ 65535 → 1 ≤ L → L ≤ 255 → P ≡ min (n / (L + 1)) 65535 → record { places = P; highest = V; longest = L; held = replicate P []; remainder = [] } ≡ made_view n V L
made_kept n V L P vl vh ll lh e =
    let b : in_limits V L ≡ true = and_from (leb 1 V && leb V 65535) (leb 1 L && leb L 255) (and_from (leb 1 V) (leb V 65535) (le-leb 1 V vl) (le-leb V 65535 vh)) (and_from (leb 1 L) (leb L 255) (le-leb 1 L ll) (le-leb L 255 lh)) in
    ap (λ (P : ℕ). record { places = P; highest = V; longest = L; held = replicate P []; remainder = [] }) e ∙ ap (λ (b : Bool). made_by b n V L) (sym b)

pub made_broken : (n V L : ℕ) → in_limits V L ≡ false → record { places = 0; highest = 1; longest = 1; held = []; remainder = [] } ≡ made_view n V L
made_broken n V L b = ap (λ (b : Bool). made_by b n V L) (sym b)
