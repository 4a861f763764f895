-- The clauses at the places below P, where `at` tells each: one of them changed, and all
-- of them free; and a place that is not there.
use Rattle.std.proofs.Common.{◌≡◌, ℕ, ◌<◌, ◌≤◌, List, [], get_or, length, set, replicate, sym, ◌∙◌, inl, inr, arith}
use Rattle.std.proofs.lemmas.Bool.{cases_eq}
use Rattle.std.proofs.lemmas.List.{get_or_past, get_or-replicate, get_or-set_other, get_or-set_same, length-replicate, length-set, set_past}
use Rattle.std.proofs.lemmas.List.FromFn.{fill_by_all}
use Rattle.shelf.specs.Holding.{held_at, held_by, held_length}
use Rattle.shelf.specs.Room.{Lacks}
use Rattle.shelf.specs.View.{Sound, View}

pub changed_at : (at after : ℕ → List ℕ) (P p : ℕ) (x : List ℕ) → after p ≡ x → ((q : ℕ) → (q ≡ p → ⊥) → after q ≡ at q) → held_by after P ≡ set (held_by at P) p x
unfolding held_by
changed_at at after P p x here other =
    let held = held_by at P in
    let n = held_length at P in
    sym
    (fill_by_all after (set held p x) P [] (length-set held p x ∙ n)
    (λ q h.
    elim (cases_eq q p) as (λ _. get_or (set held p x) q [] ≡ after q) [
      | inl e ↦ rw e (get_or-set_same held p x [] (omega arith) ∙ sym here)
      | inr ne ↦ get_or-set_other held p q x [] ne ∙ held_at at P q h ∙ sym (other q ne)
    ]))

pub free_at : (at : ℕ → List ℕ) (P : ℕ) → ((p : ℕ) → p < P → at p ≡ []) → held_by at P ≡ replicate P []
unfolding held_by
free_at at P free =
    sym (fill_by_all at (replicate P []) P [] (length-replicate P []) (λ p h. get_or-replicate P p [] [] h ∙ sym (free p h)))

pub lacks : (v : View) (p : ℕ) → Sound v → v.places ≤ p → Lacks v p
lacks v p sound h =
    let past : length v.held ≤ p = omega (arith, sound.count) in
    record { place = h; clause = get_or_past v.held p [] past; free = set_past v.held p [] past }
