-- One code more in one row.
use Rattle.std.proofs.Common.{◌≡◌, ℕ, ◌+◌, ◌-◌, ◌<◌, ◌≤◌, List, length, get_or, take, drop, set, sym, ap, ◌∙◌, inl, inr, arith, rules}
use borrow.Rule.Slice.PartMut.{put_mid}
use Rattle.std.specs.List.{insert}
use Rattle.std.proofs.lemmas.List.Edits.{length-insert, get_or-insert_below, get_or-insert_at, get_or-insert_above}
use Rattle.std.proofs.lemmas.List.{ext_get_or, places}
use Rattle.std.proofs.lemmas.Bool.{cases_order}
use Rattle.rows.specs.Rows.{codes_of}
use Rattle.rows.proofs.Rowing.{codes_length, codes_getD}

-- `mid` is the part of the row from k + 1 up to n + 2, turned by one
module _ (row mid : List ℕ) (n k c m : ℕ) (count : get_or row 0 0 ≡ n) (room : n + 1 < length row) (within : k ≤ n) (much : m ≡ n + 2 - (k + 1)) (long : length mid ≡ m) (turned : (i : ℕ) → 1 ≤ i → i < m → get_or mid i 0 ≡ get_or (take m (drop (k + 1) row)) (i - 1) 0) where
  abbrev moved : List ℕ
  moved = put_mid (k + 1) m row mid

  abbrev after : List ℕ
  after = set (set moved (k + 1) c) 0 (n + 1)

  same : length moved ≡ length row
  same = search (rules, places)

  -- the codes before the new one, it, and those after it
  low : (j : ℕ) → j < k → get_or after (j + 1) 0 ≡ get_or row (j + 1) 0
  low j h = search (rules, places)

  here : get_or after (k + 1) 0 ≡ c
  here = let s = same in search (rules, places)

  high : (j : ℕ) → k ≤ j → j < n → get_or after (j + 2) 0 ≡ get_or row (j + 1) 0
  high j h l = let t = turned (j + 1 - k) (omega arith) (omega arith) in search (rules, places)

  pub slip_codes : codes_of after ≡ insert (codes_of row) k c
  slip_codes =
      let cs = codes_of row in
      let s = same in
      let after_count : get_or after 0 0 ≡ n + 1 = search (rules, places) in
      let after_long : length after ≡ length row = search (rules, places) in
      let l : length cs ≡ n = codes_length row (omega arith) ∙ count in
      let m : length (codes_of after) ≡ n + 1 = codes_length after (omega arith) ∙ after_count in
      let i = length-insert cs k c (omega arith) in
      ext_get_or 0 (codes_of after) (insert cs k c) (omega arith)
      (λ j h.
      codes_getD after j (omega arith)
      ∙ elim (cases_order j k) as (λ _. get_or after (j + 1) 0 ≡ get_or (insert cs k c) j 0) [
        | inl e ↦ rw e (here ∙ sym (get_or-insert_at cs k c 0 (omega arith)))
        | inr (inl lt) ↦ low j lt ∙ sym (codes_getD row j (omega arith)) ∙ sym (get_or-insert_below cs k c 0 j lt (omega arith))
        | inr (inr gt) ↦
            let i = j - 1 in
            let p : i + 1 ≡ j = omega arith in
            let q : i + 2 ≡ j + 1 = omega arith in
            rw (← q) (high i (omega arith) (omega arith) ∙ sym (codes_getD row i (omega arith)) ∙ sym (get_or-insert_above cs k c 0 i (omega arith) (omega arith)) ∙ ap (λ (x : ℕ). get_or (insert cs k c) x 0) p)
      ])
