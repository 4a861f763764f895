-- Results counted one by one: the tally of what is counted so far, and of one more.
use Rattle.std.proofs.Common.{◌≡◌, ℕ, ◌+◌, Bool, true, false, ◌&&◌, ◌||◌, leb, List, [], ◌∷◌, ◌++◌, length, sym, refl, ap, ◌∙◌, arith}
use Rattle.std.proofs.lemmas.List.{length-append}
use Rattle.std.proofs.lemmas.List.Recursion.{or_push, and_push}
use Rattle.std.proofs.lemmas.Bool.{le-leb}
use mathlib.Core.Bool.{or-true, or-false, and-true}
use Rattle.shelf.specs.Literals.{none}
use Rattle.rules.specs.Clauses.{vanishes}
use Rattle.rules.specs.Results.{kept, short_enough, has_empty}
use Rattle.results.specs.Counting.{tally_of, tally_one}
use Rattle.results.specs.declared.tallies.Tally.{Tally}
use Rattle.results.proofs.Laying.{kept_append}

same_tally : {k k' : ℕ} {e e' s s' : Bool} → k ≡ k' → e ≡ e' → s ≡ s' → ◌≡◌ {A = Tally} (record { kept = k; empty = e; short = s }) (record { kept = k'; empty = e'; short = s' })
same_tally {k' = k'} {e = e} {e' = e'} {s = s} p q r =
    ap (λ (x : ℕ). record { kept = x; empty = e; short = s }) p ∙ ap (λ (x : Bool). record { kept = k'; empty = x; short = s }) q ∙ ap (λ (x : Bool). record { kept = k'; empty = e'; short = x }) r

nothing_vanishes : vanishes [] ≡ false
unfolding vanishes
nothing_vanishes = refl

pub tally_more : (n : ℕ) (rs : List (List ℕ)) (r : List ℕ) → tally_one n r (tally_of n rs) ≡ tally_of n (rs ++ r ∷ [])
unfolding short_enough has_empty kept
tally_more n rs r =
    let k = ap length (kept_append rs (r ∷ [])) ∙ length-append (kept rs) (kept (r ∷ [])) in
    let e = or_push has_empty none refl (λ _ _. refl) rs r in
    let s = and_push (short_enough n) (λ x. vanishes x || leb (length x) n) refl (λ _ _. refl) rs r in
    rw (k, e, s) (go r (vanishes r) refl)
  where
    go : (x : List ℕ) (t : Bool) → vanishes x ≡ t → tally_one n x (tally_of n rs) ≡ record { kept = length (kept rs) + length (kept (x ∷ [])); empty = has_empty rs || none x; short = short_enough n rs && (vanishes x || leb (length x) n) }
    go [] t h = rw nothing_vanishes (same_tally (omega arith) (sym (or-true (has_empty rs))) (sym (ap (λ (b : Bool). short_enough n rs && b) (le-leb 0 n (omega arith)) ∙ and-true (short_enough n rs))))
    go (c ∷ cs) true h = rw h (same_tally (omega arith) (sym (or-false (has_empty rs))) (sym (and-true (short_enough n rs))))
    go (c ∷ cs) false h = rw h (same_tally refl (sym (or-false (has_empty rs))) refl)

pub tally_none : (n : ℕ) → tally_of n [] ≡ record { kept = 0; empty = false; short = true }
unfolding kept short_enough has_empty
tally_none n = refl
