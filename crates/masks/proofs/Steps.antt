-- What the methods find and change, over the number of places and the words.
use Rattle.std.proofs.Common.{◌≡◌, ℕ, ◌+◌, ◌-◌, ◌*◌, ◌/◌, ◌%◌, ◌^◌, ◌<◌, ◌≤◌, true, false, ◌&&◌, ltb, leb, List, length, get_or, take, drop, set, replicate, is_ok, Ok, sym, refl, ap, ◌∙◌, subst, ap₂, inl, inr, one-mul, zero-mul, arith, rules}
use borrow.Rule.Slice.PartMut.{put_mid}
use lib.Bits.{bit_or, or_zero_r}
use Rattle.std.proofs.lemmas.List.{drop-set-lt, get_or-replicate, get_or-set_other, get_or-set_same, length-drop, length-replicate, length-set, length-take, places}
use Rattle.std.proofs.lemmas.Slice.{drop-put_mid}
use Rattle.std.proofs.lemmas.Bool.{and_from, cases_eq, cases_lt, cond-false, cond-true, le-leb, lt-ltb}
use Rattle.shelf.proofs.Adding.{added_ok}
use Rattle.shelf.specs.Answers.{Became, added, after_add, after_wipe}
use Rattle.shelf.specs.Literals.{put, stands}
use Rattle.shelf.specs.View.{View, clause, with_held}
use Rattle.masks.specs.Digits.{bit}
use Rattle.masks.specs.Finding.{Blank, Shows, Slot}
use Rattle.masks.specs.Masks.{Masks, codes_at, codes_of, held_in, mask_at, masks_view, used}
use Rattle.shelf.specs.Holding.{held_at}
use Rattle.shelf.specs.Memory.{Starts}
use Rattle.shelf.specs.Room.{Lacks}
use Rattle.masks.proofs.Bits.{neither_bit}
use Rattle.masks.proofs.Codes.{codes_none, codes_stand}
use Rattle.masks.proofs.Masking.{empty_pair, held_changed, masks_changed}
use Rattle.masks.proofs.Puts.{codes_put, pair_put, room_left}

-- ---- questions

pub shows_none : (P : ℕ) (ws : List ℕ) (p : ℕ) → Lacks (masks_view P ws) p → Shows P ws p 0 0
shows_none P ws p none = record { pair = empty_pair; clause = none.clause ∙ sym (codes_none 64 1) }

pub shows_place : (P : ℕ) (ws : List ℕ) (p a : ℕ) → Masks P ws → Starts P 2 (length ws) p a → Shows P ws p (get_or ws a 0) (get_or ws (a + 1) 0)
shows_place P ws p a m s =
    let i : 2 * p + 0 ≡ a = omega (arith, s.at) in
    let j : 2 * p + 1 ≡ a + 1 = omega (arith, s.at) in
    let there : Shows P ws p (mask_at ws p 0) (mask_at ws p 1) = record { pair = m.each p s.place; clause = held_at (codes_at ws) P p s.place } in
    subst (λ (x : ℕ). Shows P ws p (get_or ws x 0) (get_or ws (a + 1) 0)) i
    (subst (λ (x : ℕ). Shows P ws p (mask_at ws p 0) (get_or ws x 0)) j there)

-- the bits of a variable that does not stand
lacked_bits : (a b u : ℕ) → 1 ≤ u → u ≤ 64 → stands u (codes_of a b) ≡ false → (bit (u - 1) a ≡ 0) × (bit (u - 1) b ≡ 0)
lacked_bits a b u low high off = neither_bit (u - 1) a b (sym (codes_stand 64 1 (u - 1) a b u (omega arith) (omega arith)) ∙ off)

pub slot_granted : (P : ℕ) (ws : List ℕ) (p c : ℕ) → Masks P ws → p < P → 1 ≤ c / 2 → c / 2 ≤ 64 → stands (c / 2) (clause (masks_view P ws) p) ≡ false → Ok tt ≡ added (masks_view P ws) p c
slot_granted P ws p c masks place low high off =
    let cs = clause (masks_view P ws) p in
    let is = held_at (codes_at ws) P p place in
    let z = lacked_bits (mask_at ws p 0) (mask_at ws p 1) (c / 2) low high (ap (stands (c / 2)) (sym is) ∙ off) in
    let room : length cs < 64 = rw is (room_left (c / 2 - 1) _ _ (omega arith) (masks.each p place) z.0 z.1) in
    sym
    (cond-true (ltb p P) _ _ (lt-ltb p P place)
    ∙ cond-true (leb 1 (c / 2) && leb (c / 2) 64) _ _ (and_from (leb 1 (c / 2)) (leb (c / 2) 64) (le-leb 1 (c / 2) low) (le-leb (c / 2) 64 high))
    ∙ cond-false (stands (c / 2) cs) _ _ off
    ∙ cond-true (ltb (length cs) 64) _ _ (lt-ltb (length cs) 64 room))

-- ---- changes

-- x, the bit k, of the variable of the code c, is set in the word i
module _ (P : ℕ) (ws : List ℕ) (p c i k x : ℕ) (slot : Slot P ws p c i) (is : k ≡ c / 2 - 1) (power : x ≡ 2 ^ k) where
  abbrev marked : List ℕ
  marked = set ws i (bit_or (get_or ws i 0) x)

  pub marked_spare : drop (used P) marked ≡ drop (used P) ws
  marked_spare = drop-set-lt (used P) ws i (bit_or (get_or ws i 0) x) (omega (arith, slot.place, slot.at))

  mask_marked : (s : ℕ) → c % 2 ≡ s → mask_at marked p s ≡ bit_or (mask_at ws p s) (1 * 2 ^ k)
  mask_marked s e =
      let j : 2 * p + s ≡ i = omega (arith, slot.at) in
      ap (λ (n : ℕ). get_or marked n 0) j
      ∙ get_or-set_same ws i (bit_or (get_or ws i 0) x) 0 (omega (arith, slot.at, slot.room))
      ∙ ap₂ (λ (n y : ℕ). bit_or (get_or ws n 0) y) (sym j) (power ∙ sym (one-mul (2 ^ k)))

  mask_kept : (q s : ℕ) → (2 * q + s ≡ i → ⊥) → mask_at marked q s ≡ mask_at ws q s
  mask_kept q s ne = get_or-set_other ws i (2 * q + s) (bit_or (get_or ws i 0) x) 0 ne

  mask_unmarked : (s : ℕ) → (c % 2 ≡ s → ⊥) → mask_at marked p s ≡ bit_or (mask_at ws p s) (0 * 2 ^ k)
  mask_unmarked s ne =
      mask_kept p s (λ e. ne (omega (arith, slot.at)))
      ∙ sym (or_zero_r (mask_at ws p s))
      ∙ ap (bit_or (mask_at ws p s)) (sym (zero-mul (2 ^ k)))

  module _ (masks : Masks P ws) (answer : Ok tt ≡ added (masks_view P ws) p c) where
    abbrev before : View
    before = masks_view P ws

    ok : is_ok (added before p c) ≡ true
    ok = ap is_ok (sym answer)

    lacked : (bit k (mask_at ws p 0) ≡ 0) × (bit k (mask_at ws p 1) ≡ 0)
    lacked =
        let off : stands (c / 2) (codes_at ws p) ≡ false = ap (stands (c / 2)) (sym (held_at (codes_at ws) P p slot.place)) ∙ (added_ok before p c ok).2 in
        let z = lacked_bits (mask_at ws p 0) (mask_at ws p 1) (c / 2) slot.low slot.high off in
        (ap (λ (j : ℕ). bit j (mask_at ws p 0)) is ∙ z.0, ap (λ (j : ℕ). bit j (mask_at ws p 1)) is ∙ z.1)

    became : (d e : ℕ) → d + e ≡ 1 → e ≡ c % 2 → mask_at marked p 0 ≡ bit_or (mask_at ws p 0) (d * 2 ^ k) → mask_at marked p 1 ≡ bit_or (mask_at ws p 1) (e * 2 ^ k) → Became (Masks P marked) (masks_view P marked) (after_add before p c)
    became d e one sign literals opposites =
        let a = mask_at ws p 0 in
        let b = mask_at ws p 1 in
        let fits : k < 64 = omega (arith, slot.low, slot.high) in
        let code : 2 * (1 + k) + e ≡ c = omega (arith, slot.low) in
        let pair = masks.each p slot.place in
        let others : (q s : ℕ) → s ≤ 1 → (q ≡ p → ⊥) → mask_at marked q s ≡ mask_at ws q s = λ q s h ne. mask_kept q s (λ e. ne (omega (arith, slot.at))) in
        record {
          fine = masks_changed P p (bit_or a (d * 2 ^ k)) (bit_or b (e * 2 ^ k)) ws marked literals opposites others masks (length-set ws i (bit_or (get_or ws i 0) x)) (pair_put k d e a b fits one pair lacked.0 lacked.1);
          view = ap (with_held before)
              (held_changed P p (bit_or a (d * 2 ^ k)) (bit_or b (e * 2 ^ k)) ws marked literals opposites others
              ∙ ap (set (held_in P ws) p) (codes_put 64 1 k d e a b c fits one pair.apart lacked.0 lacked.1 code ∙ ap (put c) (sym (held_at (codes_at ws) P p slot.place)))
              ∙ sym (cond-true (is_ok (added before p c)) (set (held_in P ws) p (put c (clause before p))) (held_in P ws) ok));
        }

    pub marked_became : Became (Masks P marked) (masks_view P marked) (after_add before p c)
    marked_became =
        elim (cases_eq (c % 2) 0) as (λ _. Became (Masks P marked) (masks_view P marked) (after_add before p c)) [
          | inl e ↦ became 1 0 refl (sym e) (mask_marked 0 e) (mask_unmarked 1 (λ o. omega arith))
          | inr ne ↦ became 0 1 refl (omega arith) (mask_unmarked 0 ne) (mask_marked 1 (omega arith))
        ]

-- both words of p, from a on, are written over by zeros
module _ (P : ℕ) (ws ys : List ℕ) (p a : ℕ) (starts : Starts P 2 (length ws) p a) (zeros : ys ≡ replicate (length (take (a + 2 - a) (drop a ws))) 0) where
  abbrev cleared : List ℕ
  cleared = put_mid a (a + 2 - a) ws ys

  two : length (take (a + 2 - a) (drop a ws)) ≡ 2
  two = let room = starts.room in simp (length-take, length-drop) (omega arith)

  ys_two : length ys ≡ a + 2 - a
  ys_two = let n = two in ap length zeros ∙ length-replicate _ 0 ∙ omega arith

  kept_length : length cleared ≡ length ws
  kept_length = let room = starts.room in let n = ys_two in search (rules, places)

  pub cleared_spare : drop (used P) cleared ≡ drop (used P) ws
  cleared_spare = drop-put_mid a (a + 2 - a) ws ys (used P) (omega (arith, starts.place, starts.at)) (omega (arith, starts.room)) ys_two

  zero_at : (s : ℕ) → s < 2 → mask_at cleared p s ≡ 0
  zero_at s h =
      let n = two in
      let l = ys_two in
      let room = starts.room in
      let at : 2 * p + s ≡ a + s = omega (arith, starts.at) in
      let here : get_or cleared (a + s) 0 ≡ get_or ys s 0 = search (rules, places) in
      ap (λ (i : ℕ). get_or cleared i 0) at ∙ here ∙ ap (λ (l : List ℕ). get_or l s 0) zeros ∙ get_or-replicate _ s 0 0 (omega arith)

  pub cleared_blank : Blank cleared p
  cleared_blank = record { literals = zero_at 0 (omega arith); opposites = zero_at 1 (omega arith) }

  others : (q s : ℕ) → s ≤ 1 → (q ≡ p → ⊥) → mask_at cleared q s ≡ mask_at ws q s
  others q s h ne =
      let l = ys_two in
      let room = starts.room in
      elim (cases_lt q p) as (λ _. mask_at cleared q s ≡ mask_at ws q s) [
        | inl lt ↦ let before : 2 * q + s < a = omega (arith, starts.at) in search (rules, places)
        | inr ge ↦ let after : a + 2 ≤ 2 * q + s = omega (arith, starts.at) in search (rules, places)
      ]

  pub cleared_became : Masks P ws → Became (Masks P cleared) (masks_view P cleared) (after_wipe (masks_view P ws) p)
  cleared_became masks =
      let z = cleared_blank in
      record {
        fine = masks_changed P p 0 0 ws cleared z.literals z.opposites others masks kept_length empty_pair;
        view = ap (with_held (masks_view P ws))
            (held_changed P p 0 0 ws cleared z.literals z.opposites others ∙ ap (set (held_in P ws) p) (codes_none 64 1));
      }
