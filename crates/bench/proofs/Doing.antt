-- A call asks all its questions without change and then does all that it does: so
-- its outcome follows from the verdict, and from the effect where it is granted.
use Rattle.std.proofs.Common.{◌≡◌, ℕ, Bool, false, List, [], ◌∷◌, ℤ, None, ap, ◌∙◌}
use Rattle.shelf.specs.View.{View}
use Rattle.rules.specs.Cells.{Cell}
use Rattle.rules.specs.Case.{Case, State, filling}
use Rattle.rules.specs.Filling.{ledger_long}
use Rattle.rules.specs.Questions.{Question, asks, passes, stops, first_no, Answer, refused, Outcome, outcome}
use Rattle.faults.specs.declared.fault.Fault.{Fault}
use Rattle.faults.specs.Faults.{number_of, tier_of}
use Rattle.bench.specs.Meaning.{Done}

module _ {F : Type 0} (f : F) (s : State) (qs : List Question) (o : Outcome) where
  pub refusing : (e : Fault) → stops (number_of e) (tier_of e) ≡ first_no qs → Done F (refused (number_of e) (tier_of e)) s (outcome (first_no qs) s o)
  refusing e h = record { fine = f; answer = ap (λ v. (outcome v s o).answer) h; after = ap (λ v. (outcome v s o).after) h }

  pub granting : {a : Answer} {t : State} → passes ≡ first_no qs → a ≡ o.answer → t ≡ o.after → Done F a t (outcome (first_no qs) s o)
  granting h p q = record { fine = f; answer = p ∙ ap (λ v. (outcome v s o).answer) h; after = q ∙ ap (λ v. (outcome v s o).after) h }

-- questions 1 and 2, where the code's test of the phase is the rules'
abbrev pub state_questions : State → Bool → List Question
state_questions s b = asks 1 (ledger_long s) ∷ asks 2 b ∷ []

pub fitting_state : (s : State) {b d : Bool} → b ≡ d → first_no (state_questions s b) ≡ first_no (state_questions s d)
fitting_state s e = ap (λ b. first_no (state_questions s b)) e

-- three parts that are equal make equal states
pub opened : {z w : List ℤ} {v v' : View} {l l' : List Cell} (n : ℕ) → z ≡ w → v ≡ v' → l ≡ l'
    → ◌≡◌ {A = State} (record { bench = record { phase = filling; n = n; current = n; total = z; proved = z; impossible = false; shown = None }; shelf = v; ledger = l })
    (record { bench = record { phase = filling; n = n; current = n; total = w; proved = w; impossible = false; shown = None }; shelf = v'; ledger = l' })
opened n p q r = cc

pub same_state : {b b' : Case} {v v' : View} {l l' : List Cell} → b ≡ b' → v ≡ v' → l ≡ l'
    → ◌≡◌ {A = State} (record { bench = b; shelf = v; ledger = l }) (record { bench = b'; shelf = v'; ledger = l' })
same_state p q r = cc
