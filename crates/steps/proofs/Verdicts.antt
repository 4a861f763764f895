-- Verdicts of questions that are put in two parts, and replies about new amounts.
use Rattle.std.proofs.Common.{◌≡◌, ℕ, Bool, true, false, cond, List, [], ◌∷◌, ◌++◌, Some, None, Ok, Err, sym, refl, ap, ◌∙◌}
use Rattle.rules.specs.Questions.{Reply, affirmed, denied, beyond_tier, Question, Verdict, passes, stops, reply_of, after_reply, first_no}
use Rattle.ledger.specs.Dues.{told_by}

-- a reply that stops, stops whatever follows
after_stop : (k q t : ℕ) (r : Reply) (rest more : Verdict) → stops q t ≡ after_reply k r rest → (stops q t ≡ rest → stops q t ≡ more) → stops q t ≡ after_reply k r more
after_stop k q t affirmed rest more h go = go h
after_stop k q t denied rest more h go = h
after_stop k q t (beyond_tier u) rest more h go = h

pub stop_early : (qs rest : List Question) (q t : ℕ) → stops q t ≡ first_no qs → stops q t ≡ first_no (qs ++ rest)
stop_early [] rest q t h = cc
stop_early (x ∷ qs) rest q t h = after_stop x.number q t x.reply (first_no qs) (first_no (qs ++ rest)) h (stop_early qs rest q t)

after_pass : (k : ℕ) (r : Reply) (rest more : Verdict) → passes ≡ after_reply k r rest → (passes ≡ rest → first_no [] ≡ rest) → (r ≡ affirmed) × (passes ≡ rest)
after_pass k affirmed rest more h go = (refl, h)
after_pass k denied rest more h go = (cc, cc)
after_pass k (beyond_tier u) rest more h go = (cc, cc)

pub go_on : (qs rest : List Question) → passes ≡ first_no qs → first_no rest ≡ first_no (qs ++ rest)
go_on [] rest h = refl
go_on (x ∷ qs) rest h =
    let p = after_pass x.number x.reply (first_no qs) passes h (λ e. e) in
    go_on qs rest p.1 ∙ ap (λ (r : Reply). after_reply x.number r (first_no (qs ++ rest))) (sym p.0)

pub told_ok : {X : Type 0} (r : Reply) (x y : X) → Ok y ≡ told_by r x → (r ≡ affirmed) × (y ≡ x)
told_ok affirmed x y h = (refl, cc)
told_ok denied x y h = (cc, cc)
told_ok (beyond_tier t) x y h = (cc, cc)

pub told_err : {X : Type 0} (r : Reply) (x : X) (t q : ℕ) (rest : Verdict) → Err t ≡ told_by r x → stops q t ≡ after_reply q r rest
told_err affirmed x t q rest h = cc
told_err denied x t q rest h = cc
told_err (beyond_tier u) x t q rest h = cc

-- an optional value under a test
pub test_none : {X : Type 0} (b : Bool) (x : X) → None ≡ cond b (Some x) None → b ≡ false
test_none true x h = cc
test_none false x h = refl

pub test_some : {X : Type 0} (b : Bool) (x y : X) → Some y ≡ cond b (Some x) None → (b ≡ true) × (y ≡ x)
test_some true x y h = (refl, cc)
test_some false x y h = (cc, cc)

-- one question more in front
pub yes : (q : ℕ) (b : Bool) (v : Verdict) → b ≡ true → v ≡ after_reply q (reply_of b) v
yes q b v e = ap (λ (x : Bool). after_reply q (reply_of x) v) (sym e)

pub no_at : (q : ℕ) (b : Bool) (v : Verdict) → b ≡ false → stops q 0 ≡ after_reply q (reply_of b) v
no_at q b v e = ap (λ (x : Bool). after_reply q (reply_of x) v) (sym e)

-- a question that was affirmed, and the rest of the verdict
pub yes_then : (q : ℕ) (b : Bool) (rest : Verdict) → passes ≡ after_reply q (reply_of b) rest → (b ≡ true) × (passes ≡ rest)
yes_then q true rest h = (refl, h)
yes_then q false rest h = (cc, cc)
