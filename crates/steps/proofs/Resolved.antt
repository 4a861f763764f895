-- The verdict on a resolve: its sources, its results, and the new amounts, each part
-- put only where the ones before were affirmed.
use Rattle.std.proofs.Common.{◌≡◌, ℕ, ◌+◌, ◌*◌, Bool, not, ◌&&◌, List, [], ◌∷◌, ◌++◌, length, ℤ, Ok, Err, Result, sym, ap, ◌∙◌, ap₂}
use Rattle.shelf.specs.Literals.{among}
use Rattle.shelf.specs.Room.{filled, roomy}
use Rattle.shelf.specs.View.{View, clause}
use Rattle.cost.specs.Reach.{Scale}
use Rattle.ledger.specs.Dues.{told_by, Dues, dues}
use Rattle.results.specs.Placing.{Placeable}
use Rattle.rules.specs.Cells.{Cell, is_hard}
use Rattle.rules.specs.Questions.{Reply, Question, passes, stops, after_reply, reach_reply, first_no}
use Rattle.rules.specs.Results.{kept, short_enough, has_empty}
use Rattle.rules.specs.Steps.{source_questions, result_questions, resolve_news}
use Rattle.results.specs.Resolving.{resolvents_at}
use Rattle.steps.specs.Asks.{resolve_asks}
use Rattle.steps.proofs.Verdicts.{stop_early, go_on, told_ok, told_err, yes_then}

module _ (k : Scale) (v : View) (a b : Cell) (z : List ℤ) (i j x to : ℕ) where
  abbrev rs : List (List ℕ)
  rs = resolvents_at v i j x (not (is_hard a)) (not (is_hard b))

  abbrev due : Dues
  due = dues (has_empty rs) a b z

  abbrev reply : Reply
  reply = reach_reply k (resolve_news (has_empty rs) a b z)

  abbrev amounts : List Question
  amounts = record { number = 13; reply = reply } ∷ []

  abbrev results : List Question
  results = result_questions v to rs

  abbrev sources : List Question
  sources = source_questions v i j x

  pub stop_sources : (q t : ℕ) → stops q t ≡ first_no sources → stops q t ≡ first_no (resolve_asks k v a b z i j x to)
  stop_sources q t h = stop_early sources (results ++ amounts) q t h

  module _ (h₁ : passes ≡ first_no sources) where
    so_far : first_no (results ++ amounts) ≡ first_no (resolve_asks k v a b z i j x to)
    so_far = go_on sources (results ++ amounts) h₁

    pub stop_results : (q t : ℕ) → stops q t ≡ first_no results → stops q t ≡ first_no (resolve_asks k v a b z i j x to)
    stop_results q t h = stop_early results amounts q t h ∙ so_far

    module _ (h₂ : passes ≡ first_no results) where
      asked : after_reply 13 reply passes ≡ first_no (resolve_asks k v a b z i j x to)
      asked = go_on results amounts h₂ ∙ so_far

      pub stop_amounts : (t : ℕ) → Err t ≡ told_by reply due → stops 13 t ≡ first_no (resolve_asks k v a b z i j x to)
      stop_amounts t h = told_err reply due t 13 passes h ∙ asked

      pub all_passed : (d : Dues) → Ok d ≡ told_by reply due → (passes ≡ first_no (resolve_asks k v a b z i j x to)) × (d ≡ due)
      all_passed d h =
          let q = told_ok reply due d h in
          (ap (λ (y : Reply). after_reply 13 y passes) (sym q.0) ∙ asked, q.1)

  -- the results may be placed
  pub placeable : passes ≡ first_no (resolve_asks k v a b z i j x to) → Placeable v to rs
  placeable h =
      let q₉ = yes_then 9 (filled v i && filled v j) _ h in
      let q₁₀ = yes_then 10 (among (2 * x) (clause v i) && among (2 * x + 1) (clause v j)) _ q₉.1 in
      let q₁₁ = yes_then 11 (short_enough v.longest rs) _ q₁₀.1 in
      let q₁₂ = yes_then 12 (roomy v to (length (kept rs))) (after_reply 13 reply passes) q₁₁.1 in
      record { fits = q₁₁.0; room = q₁₂.0 }

-- the same results, with the flags told otherwise
pub same_results : (v : View) (i j x : ℕ) {a b c d : Bool} → a ≡ c → b ≡ d → resolvents_at v i j x a b ≡ resolvents_at v i j x c d
same_results v i j x p q = ap₂ (resolvents_at v i j x) p q

-- what is told of the amounts
abbrev pub told_dues : Scale → List ℤ → Bool → Cell → Cell → Result Dues ℕ
told_dues k z e a b = told_by (reach_reply k (resolve_news e a b z)) (dues e a b z)

pub same_dues : (k : Scale) (z : List ℤ) {e f : Bool} {a b c d : Cell} → e ≡ f → a ≡ c → b ≡ d → told_dues k z e a b ≡ told_dues k z f c d
same_dues k z {e} {f} {a} {b} {c} {d} p q r = ap (λ (y : Bool). told_dues k z y a b) p ∙ ap (λ (y : Cell). told_dues k z f y b) q ∙ ap (told_dues k z f c) r
