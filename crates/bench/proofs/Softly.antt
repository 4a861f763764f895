-- The verdict on a soft clause: first what hard is asked too, then its amount.
use Rattle.std.proofs.Common.{◌≡◌, ℕ, Bool, true, false, List, [], ◌∷◌, ℤ, Some, None, Ok, Err, Option, Result, sym, refl, ap, ◌∙◌}
use Rattle.std.specs.Option.{ok_or}
use Rattle.shelf.specs.Literals.{none}
use Rattle.cost.specs.Figures.{plus}
use Rattle.cost.specs.Reach.{Scale}
use Rattle.ledger.specs.Dues.{told_by}
use Rattle.rules.specs.Case.{Case, State}
use Rattle.rules.specs.Cells.{soft, paid, paid_news}
use Rattle.rules.specs.Filling.{amount_fits, with_sums, clause_questions, soft_questions}
use Rattle.rules.specs.Questions.{Reply, Question, asks, passes, stops, reply_of, after_reply, reach_reply, first_no}
use Rattle.steps.proofs.Verdicts.{stop_early, go_on, told_ok, told_err}

-- an amount that was taken, or was not, and then stands for a fault
pub not_taken : {X E : Type 0} (o : Option X) (e : E) {f : E} → Err f ≡ ok_or o e → (None ≡ o) × (f ≡ e)
not_taken None e h = (refl, cc)
not_taken (Some x) e h = (cc, cc)

pub was_taken : {X E : Type 0} (o : Option X) (e : E) {x : X} → Ok x ≡ ok_or o e → Some x ≡ o
was_taken None e h = cc
was_taken (Some y) e h = cc

module _ (k : Scale) (s : State) (p : ℕ) (xs : List ℤ) (cs : List ℕ) where
  abbrev reply : Reply
  reply = reach_reply k (paid_news (none cs) (soft xs) s.bench.proved)

  abbrev amount_questions : List Question
  amount_questions = asks 6 (amount_fits k s.bench.total xs) ∷ record { number = 13; reply = reply } ∷ []

  pub soft_stop : (q t : ℕ) → stops q t ≡ first_no (clause_questions s p cs) → stops q t ≡ first_no (soft_questions k s p xs cs)
  soft_stop q t h = stop_early (clause_questions s p cs) amount_questions q t h

  pub soft_unfit : passes ≡ first_no (clause_questions s p cs) → amount_fits k s.bench.total xs ≡ false → stops 6 0 ≡ first_no (soft_questions k s p xs cs)
  soft_unfit h f = ap (λ (b : Bool). after_reply 6 (reply_of b) (after_reply 13 reply passes)) (sym f) ∙ go_on (clause_questions s p cs) amount_questions h

  module _ (h : passes ≡ first_no (clause_questions s p cs)) (f : amount_fits k s.bench.total xs ≡ true) (a : List ℤ) (e : Bool) (same : a ≡ xs) (empty : e ≡ none cs) where
    abbrev told : List ℤ → Bool → Result (List ℤ) ℕ
    told b d = told_by (reach_reply k (paid_news d (soft b) s.bench.proved)) (paid d (soft b) s.bench.proved)

    told_here : told a e ≡ told xs (none cs)
    told_here = ap (λ (b : List ℤ). told b e) same ∙ ap (told xs) empty

    asked : after_reply 13 reply passes ≡ first_no (soft_questions k s p xs cs)
    asked = ap (λ (b : Bool). after_reply 6 (reply_of b) (after_reply 13 reply passes)) (sym f) ∙ go_on (clause_questions s p cs) amount_questions h

    pub soft_out : (t : ℕ) → Err t ≡ told a e → stops 13 t ≡ first_no (soft_questions k s p xs cs)
    soft_out t r = told_err reply (paid (none cs) (soft xs) s.bench.proved) t 13 passes (r ∙ told_here) ∙ asked

    pub soft_pass : (w : List ℤ) → Ok w ≡ told a e → (passes ≡ first_no (soft_questions k s p xs cs)) × (w ≡ paid (none cs) (soft xs) s.bench.proved)
    soft_pass w r =
        let q = told_ok reply (paid (none cs) (soft xs) s.bench.proved) w (r ∙ told_here) in
        (ap (λ (y : Reply). after_reply 13 y passes) (sym q.0) ∙ asked, q.1)

-- the case with the sums of a soft clause
pub soft_sums : (b : Case) (xs t z : List ℤ) (cs : List ℕ) → t ≡ plus b.total xs → z ≡ paid (none cs) (soft xs) b.proved → with_sums b t z ≡ with_sums b (plus b.total xs) (paid (none cs) (soft xs) b.proved)
soft_sums b xs t z cs p q = cc
