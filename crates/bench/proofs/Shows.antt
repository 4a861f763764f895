-- The verdict on a shown plan, once the first questions are affirmed.
use Rattle.std.proofs.Common.{◌≡◌, ℕ, ◌+◌, Bool, true, false, not, ◌&&◌, List, [], ◌∷◌, length, Ok, Err, sym, ap, ◌∙◌, zero-add}
use Rattle.std.proofs.lemmas.Bool.{and_left, and_right, and_from}
use Rattle.cost.specs.Reach.{Scale}
use Rattle.ledger.specs.Bills.{Bill, billed}
use Rattle.rules.specs.Case.{State, at_sealed}
use Rattle.rules.specs.Plans.{is_whole_plan}
use Rattle.rules.specs.Questions.{Reply, Question, asks, passes, stops, reply_of, after_reply, reach_reply, first_no}
use Rattle.rules.specs.Showing.{hard_met, partial_sums, summed, owed_in, show_questions}
use Rattle.steps.proofs.Verdicts.{stop_early, yes, no_at, go_on, told_ok, told_err}
use Rattle.bench.proofs.Doing.{state_questions}

pub planned : (x : List ℕ) {n m : ℕ} {b : Bool} → m ≡ n → b ≡ is_whole_plan m x → b ≡ true → is_whole_plan n x ≡ true
planned x e h t = ap (λ i. is_whole_plan i x) (sym e) ∙ sym h ∙ t

module _ (k : Scale) (s : State) (x : List ℕ) where
  abbrev reply : Reply
  reply = reach_reply k (partial_sums s.bench.proved (owed_in s x))

  abbrev met : Bool
  met = hard_met x s.shelf.held s.ledger

  -- what show is asked after the state
  abbrev later : List Question
  later = asks 7 (is_whole_plan s.bench.n x) ∷ asks 8 (met && not s.bench.impossible) ∷ record { number = 13; reply = reply } ∷ []

  abbrev first : List Question
  first = state_questions s (at_sealed s.bench.phase)

  pub show_stop : (q t : ℕ) → stops q t ≡ first_no first → stops q t ≡ first_no (show_questions k s x)
  show_stop q t h = stop_early first later q t h

  module _ (h : passes ≡ first_no first) where
    pub show_unfit : is_whole_plan s.bench.n x ≡ false → stops 7 0 ≡ first_no (show_questions k s x)
    show_unfit e = no_at 7 (is_whole_plan s.bench.n x) _ e ∙ go_on first later h

    module _ (a₇ : is_whole_plan s.bench.n x ≡ true) where
      asked : after_reply 8 (reply_of (met && not s.bench.impossible)) (after_reply 13 reply passes) ≡ first_no (show_questions k s x)
      asked = yes 7 (is_whole_plan s.bench.n x) _ a₇ ∙ go_on first later h

      pub show_unmet : met ≡ false → stops 8 0 ≡ first_no (show_questions k s x)
      show_unmet e = no_at 8 (met && not s.bench.impossible) (after_reply 13 reply passes) (and_left met (not s.bench.impossible) e) ∙ asked

      pub show_marked : s.bench.impossible ≡ true → stops 8 0 ≡ first_no (show_questions k s x)
      show_marked e = no_at 8 (met && not s.bench.impossible) (after_reply 13 reply passes) (and_right met (not s.bench.impossible) (ap not e)) ∙ asked

      module _ (e : met ≡ true) (m : s.bench.impossible ≡ false) where
        both : (met && not s.bench.impossible) ≡ true
        both = and_from met (not s.bench.impossible) e (ap not m)

        pub show_out : (t : ℕ) → Err t ≡ billed k s.bench.proved (owed_in s x) 0 → stops 13 t ≡ first_no (show_questions k s x)
        show_out t r = told_err reply _ t 13 passes r ∙ yes 8 (met && not s.bench.impossible) _ both ∙ asked

        pub show_pass : (b : Bill) → Ok b ≡ billed k s.bench.proved (owed_in s x) 0
            → (passes ≡ first_no (show_questions k s x)) × (b.cost ≡ summed s.bench.proved (owed_in s x)) × (b.count ≡ length (owed_in s x))
        show_pass b r =
            let q = told_ok reply (record { cost = summed s.bench.proved (owed_in s x); count = 0 + length (owed_in s x) }) b r in (
              ap (λ (y : Reply). after_reply 13 y passes) (sym q.0) ∙ yes 8 (met && not s.bench.impossible) _ both ∙ asked,
              ap (λ (y : Bill). y.cost) q.1,
              ap (λ (y : Bill). y.count) q.1 ∙ zero-add (length (owed_in s x)),
            )
