-- Places that lie one after another, each with w words.
use Rattle.std.proofs.Common.{◌≡◌, ℕ, ◌+◌, ◌*◌, ◌<◌, ◌≤◌, None, Some, Option, MatchOption, refl, ap, ◌∙◌, inl, inr, add-mul, one-mul, arith}
use Rattle.std.proofs.lemmas.Bool.{cases_lt}
use Rattle.std.proofs.lemmas.Nat.{mul-le}
use Rattle.shelf.specs.Memory.{StartsNowhere}

-- an answer told in other words, where there is none and where there is one
pub either_way : {A : Type 0} (o : Option A) {P P' : Type 0} {Q Q' : A → Type 0} → (P → P') → ((x : A) → Q x → Q' x) → MatchOption o P Q → MatchOption o P' Q'
either_way None f g h = f h
either_way (Some x) f g h = g x h

-- the words of p end before those of q begin
pub places_apart : (w p q : ℕ) → p < q → p * w + w ≤ q * w
places_apart w p q h =
    let m : (p + 1) * w ≤ q * w = mul-le (p + 1) w q w (omega arith) (omega arith) in
    let e : (p + 1) * w ≡ p * w + w = add-mul p 1 w ∙ ap (λ (x : ℕ). p * w + x) (one-mul w) in
    omega arith

-- where there is room for all places, only one that is not there starts nowhere
pub past_places : (P w n p : ℕ) → P * w ≤ n → StartsNowhere P w n p → P ≤ p
past_places P w n p room nowhere =
    elim (cases_lt p P) [
      | inl h ↦
          let fits = places_apart w p P h in absurd (nowhere (p * w) (record { place = h; at = refl; room = omega arith }))
      | inr h ↦ h
    ]
