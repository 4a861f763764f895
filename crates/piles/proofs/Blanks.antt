-- A granted open leaves a shelf of which every place is free, and so of which every
-- word is 0: rows and masks in order are written in one way only.
use Rattle.std.proofs.Common.{◌≡◌, ℕ, ◌≤◌, List, [], length, take, replicate, OnOk, Ok, Err, Result, sym, ap, ◌∙◌, arith}
use Rattle.std.proofs.lemmas.List.{length-replicate, take_all}
use Rattle.shelf.specs.View.{View, emptied, with_held}
use Rattle.cost.specs.Reach.{Scale}
use Rattle.masks.proofs.Making.{fresh_masks}
use Rattle.masks.proofs.Writings.{one_writing as masks_writing}
use Rattle.masks.specs.Masks as masks
use Rattle.masks.specs.Masks.{Masks, masks_view}
use Rattle.rows.proofs.Making.{fresh_rows}
use Rattle.rows.proofs.Writings.{one_writing as rows_writing}
use Rattle.rows.specs.Rows as rows
use Rattle.rows.specs.Rows.{Rows, rows_view}
use Rattle.rules.specs.Case.{State}
use Rattle.rules.specs.Filling.{open_questions, open_done, open_does}
use Rattle.rules.specs.Questions.{Verdict, passes, stops, first_no, granted, outcome, grants}
use Rattle.bench.specs.Meaning.{granted_told, Done}
use Rattle.faults.specs.declared.fault.Fault.{Fault}
use Rattle.piles.specs.Memory.{Zeroed}

freed : (s t u : State) (v : Verdict) → granted ≡ (outcome v s (grants u)).answer → t ≡ (outcome v s (grants u)).after → t ≡ u
freed s t u passes a h = h
freed s t u (stops q n) a h = cc

-- the shelf after a granted open
opened : {F : Type 0} (k : Scale) (s t : State) (n : ℕ) → Done F granted t (open_does k s n) → t.shelf ≡ emptied s.shelf
unfolding open_does
opened k s t n d = ap (λ (u : State). u.shelf) (freed s t (open_done k s n) (first_no (open_questions s n)) d.answer d.after)

-- what a granted open says of the clauses that are held
emptied_held : {F : Type 0} (k : Scale) (s t : State) (n : ℕ) (w : View) → t.shelf ≡ w → Done F granted t (open_does k s n) → w.held ≡ replicate w.places []
emptied_held k s t n w e d =
    let o = sym e ∙ opened k s t n d in
    ap (λ (v : View). v.held) o ∙ ap (λ (i : ℕ). replicate i []) (sym (ap (λ (v : View). v.places) o))

-- what a granted open leaves where a shelf with every place free is all zeros
pub blank : {F : Type 0} {Zeros : Type 0} (k : Scale) (s t : State) (n : ℕ) (r : Result (Unit {0}) Fault) (w : View) → (w.held ≡ replicate w.places [] → Zeros) → t.shelf ≡ w
    → Done F (granted_told r) t (open_does k s n) → OnOk r Zeros
blank k s t n (Ok u) w zeros e d = zeros (emptied_held k s t n w e d)
blank k s t n (Err x) w zeros e d = tt

-- words in order that mean no clause are zeros, where such words mean none and are written
-- in one way only
module _ (u : ℕ) (order : List ℕ → Type 0) (held : List ℕ → List (List ℕ)) (free : List (List ℕ)) (fresh : (ws : List ℕ) → u ≤ length ws → take u ws ≡ replicate u 0 → order ws × (held ws ≡ free)) (one : (ws us : List ℕ) → order ws → order us → held ws ≡ held us → take u ws ≡ take u us) where
  zeros : (ws : List ℕ) → order ws → held ws ≡ free → take u ws ≡ replicate u 0
  zeros ws o e =
      let us : List ℕ = replicate u 0 in
      let long : length us ≡ u = length-replicate u 0 in
      let all : take u us ≡ us = take_all u us (omega arith) in
      let f = fresh us (omega arith) all in
      one ws us o f.0 (e ∙ sym f.1) ∙ all

pub zero_rows : (P V L : ℕ) (ws : List ℕ) → Rows P V L ws → rows.held_in P L ws ≡ replicate P [] → Zeroed ws P L
zero_rows P V L ws r =
    zeros (rows.used P L) (Rows P V L) (rows.held_in P L) (replicate P [])
    (λ us. fresh_rows P V L us r.places_few r.highest_low r.highest_high r.longest_low r.longest_high)
    (λ us vs a b e. rows_writing P V L us vs a b (ap (with_held (rows_view P V L us)) e)) ws r

pub zero_masks : (P : ℕ) (ws : List ℕ) → Masks P ws → masks.held_in P ws ≡ replicate P [] → take (masks.used P) ws ≡ replicate (masks.used P) 0
zero_masks P ws m =
    zeros (masks.used P) (Masks P) (masks.held_in P) (replicate P []) (λ us. fresh_masks P us m.places_few)
    (λ us vs a b e. masks_writing P us vs a b (ap (with_held (masks_view P us)) e)) ws m
