-- Questions, answers and outcomes. A call is put its questions by rising
-- number, and the first "no" refuses it with that number; with none it is granted.
--
--   Reply       affirmed: yes; denied: no; beyond_tier t: no, since the tier t of
--               a new amount is out of reach
--   Question    a number and the reply to it
--   asks q b    the question q, affirmed where b
--   Verdict     passes: no question was denied; stops q t: the question q was the
--               first, with the tier t (0 if none)
--   first_no    the verdict of a list of questions; after_reply, of a reply and the
--               verdict on those after it
--   reach_reply the reply about new amounts, in their order: the first that is
--               out of reach is told by its first such tier
--   Answer      granted; shown_at with cost and count; cheapest_at with the cost;
--               or refused with a number and a tier
--   Outcome     the answer, and the state after
--   outcome     of a verdict: a refused call leaves the state as it was
--   grants      the outcome "granted", with the state after
use Rattle.std.specs.Prelude.{ℕ, Bool, true, false, List, [], ◌∷◌, ℤ, Some, None, Option}
use Rattle.cost.specs.Reach.{Scale, beyond}
use Rattle.rules.specs.Case.{State}

pub data Reply : Type 0 where
  affirmed : Reply
  denied : Reply
  beyond_tier : ℕ → Reply

pub record Question : Type 0 where
  pub number : ℕ
  pub reply : Reply

abbrev pub reply_of : Bool → Reply
reply_of true = affirmed
reply_of false = denied

abbrev pub asks : ℕ → Bool → Question
asks q b = record { number = q; reply = reply_of b }

pub data Verdict : Type 0 where
  passes : Verdict
  stops : ℕ → ℕ → Verdict

abbrev pub after_reply : ℕ → Reply → Verdict → Verdict
after_reply q affirmed rest = rest
after_reply q denied rest = stops q 0
after_reply q (beyond_tier t) rest = stops q t

abbrev pub first_no : List Question → Verdict
first_no [] = passes
first_no (q ∷ qs) = after_reply q.number q.reply (first_no qs)

abbrev pub unless_beyond : Option ℕ → Reply → Reply
unless_beyond None rest = rest
unless_beyond (Some t) rest = beyond_tier t

abbrev pub reach_reply : Scale → List (List ℤ) → Reply
reach_reply k [] = affirmed
reach_reply k (xs ∷ rest) = unless_beyond (beyond k xs) (reach_reply k rest)

pub data Answer : Type 0 where
  granted : Answer
  shown_at : List ℤ → ℕ → Answer
  cheapest_at : List ℤ → Answer
  refused : ℕ → ℕ → Answer

pub record Outcome : Type 0 where
  pub answer : Answer
  pub after : State

abbrev pub outcome : Verdict → State → Outcome → Outcome
outcome passes s o = o
outcome (stops q t) s o = record { answer = refused q t; after = s }

-- granted, with this state after
abbrev pub grants : State → Outcome
grants s = record { answer = granted; after = s }
