-- Calls one after another: what each did ties the state and the answer of the code to
-- those of the machine, so a refusal ends the sequence and a grant goes on with it.
use Rattle.std.proofs.Common.{◌≡◌, ℕ, List, [], ◌∷◌, ℤ, ap, ◌∙◌}
use Rattle.bench.specs.Meaning.{Done}
use Rattle.cost.specs.Reach.{Scale}
use Rattle.rules.specs.Case.{State}
use Rattle.rules.specs.Machine.{Call, does}
use Rattle.rules.specs.Questions.{Answer, granted, shown_at, refused}
use Rattle.piles.specs.Sequence.{unless_refused, final}

module _ {F : Type 0} (k : Scale) (s t : State) (c : Call) where
  pub ends : {a : Answer} → Done F a t (does k s c) → a ≡ final k s c []
  unfolding final
  ends d = d.answer

  pub stops_here : (ds : List Call) {q n : ℕ} → Done F (refused q n) t (does k s c) → refused q n ≡ final k s c ds
  unfolding final
  stops_here [] d = d.answer
  stops_here (e ∷ es) d = ap (λ a. unless_refused a (final k (does k s c).after e es)) d.answer

  goes : {a : Answer} (e : Call) (es : List Call) → Done F a t (does k s c) → unless_refused a (final k t e es) ≡ final k s c (e ∷ es)
  unfolding final
  goes {a} e es d = ap (λ u. unless_refused a (final k u e es)) d.after ∙ ap (λ b. unless_refused b (final k (does k s c).after e es)) d.answer

  pub goes_on : (e : Call) (es : List Call) → Done F granted t (does k s c) → final k t e es ≡ final k s c (e ∷ es)
  goes_on e es d = goes e es d

  pub goes_on_shown : (e : Call) (es : List Call) (z : List ℤ) (n : ℕ) → Done F (shown_at z n) t (does k s c) → final k t e es ≡ final k s c (e ∷ es)
  goes_on_shown e es z n d = goes e es d
