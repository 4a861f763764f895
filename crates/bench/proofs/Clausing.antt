-- A clause that is given: asked whether it fits, copied to scratch memory, and written to a
-- place.
use Rattle.std.proofs.Common.{◌≡◌, ℕ, ◌<◌, ◌≤◌, Bool, true, false, cond, ◌||◌, eqb, leb, List, [], ◌∷◌, length, take, Some, None, sym, refl, ap, ◌∙◌, arith}
use Rattle.std.proofs.lemmas.List.{length-map, take_all}
use Rattle.std.proofs.lemmas.Bool.{lt-leb, le-leb, leb-true, ne_eqb, and_left, and_right, and_from, and_parts}
use Rattle.shelf.specs.Literals.{none}
use Rattle.shelf.specs.Room.{vacant, Writable}
use Rattle.shelf.specs.View.{View}
use Rattle.shelf.specs.declared.literal.Literal.{Literal}
use Rattle.clauses.specs.Codes.{codes}
use Rattle.rules.specs.Case.{State, at_filling, known}
use Rattle.rules.specs.Clauses.{rises}
use Rattle.clauses.proofs.Turns.{rising}
use Rattle.rules.specs.Filling.{ledger_long, clause_fits}
use Rattle.rules.specs.Questions.{Verdict, passes, reply_of, after_reply}
use Rattle.steps.proofs.Verdicts.{yes_then}

-- a clause that is short enough is copied whole
pub copied : (ls : List Literal) {L : ℕ} {out : List ℕ} → out ≡ take 255 (codes ls) → length (codes ls) ≤ L → L ≤ 255 → out ≡ codes ls
copied ls e l h = e ∙ take_all 255 (codes ls) (omega arith)

-- one that fits is short enough
pub fits_whole : (n : ℕ) (v : View) (cs : List ℕ) → clause_fits n v cs ≡ true → v.longest ≤ 255 → take 255 cs ≡ cs
fits_whole n v cs f h =
    let q = and_parts (rises (known n v) 0 cs) (leb (length cs) v.longest) f in
    let l = leb-true (length cs) v.longest q.1 in
    take_all 255 cs (omega (arith, l, h))

-- the codes of a clause that fits, and of no other: not of one that is too long, nor of one that
-- does not rise
pub too_long : (n : ℕ) (v : View) (ls : List Literal) → v.longest < length ls → None ≡ cond (clause_fits n v (codes ls)) (Some (codes ls)) None
too_long n v ls h =
    let m : v.longest < length (codes ls) = simp length-map h in
    let f : clause_fits n v (codes ls) ≡ false = and_right (rises (known n v) 0 (codes ls)) (leb (length (codes ls)) v.longest) (lt-leb (length (codes ls)) v.longest m) in
    sym (ap (λ (b : Bool). cond b (Some (codes ls)) None) f)

pub not_rising : (n : ℕ) (v : View) (cs : List ℕ) → false ≡ rises (known n v) 0 cs → None ≡ cond (clause_fits n v cs) (Some cs) None
not_rising n v cs e = sym (ap (λ (b : Bool). cond b (Some cs) None) (and_left (rises (known n v) 0 cs) (leb (length cs) v.longest) (sym e)))

pub fitting : (n : ℕ) (v : View) (cs out : List ℕ) → true ≡ rises (known n v) 0 cs → length cs ≤ v.longest → out ≡ cs → Some out ≡ cond (clause_fits n v cs) (Some cs) None
fitting n v cs out e h o =
    ap Some o ∙ sym (ap (λ (b : Bool). cond b (Some cs) None) (and_from (rises (known n v) 0 cs) (leb (length cs) v.longest) (sym e) (le-leb (length cs) v.longest h)))

pub writable : (n : ℕ) (v : View) (p : ℕ) (cs : List ℕ) → clause_fits n v cs ≡ true → vacant v p ≡ true → Writable v p cs
writable n v p cs f e =
    let q = and_parts (rises (known n v) 0 cs) (leb (length cs) v.longest) f in
    record { is_vacant = e; rises = rising (known n v) v.highest 0 cs (omega arith) q.0; short = leb-true (length cs) v.longest q.1 }

-- what the code's test for an empty clause tells
pub empty_test : (ls : List Literal) → eqb (length ls) 0 ≡ none (codes ls)
empty_test [] = refl
empty_test (l ∷ ls) = ne_eqb (length (l ∷ ls)) 0 (λ e. omega arith)

pub none_given : (ls : List Literal) {b : Bool} → b ≡ eqb (length ls) 0 → b ≡ true → none (codes ls) ≡ true
none_given ls e t = sym (e ∙ empty_test ls) ∙ t

pub some_given : (ls : List Literal) {b : Bool} → b ≡ eqb (length ls) 0 → b ≡ false → none (codes ls) ≡ false
some_given ls e t = sym (e ∙ empty_test ls) ∙ t

-- the clause fits, and its place is free unless it is empty
pub clause_passed : (s : State) (p : ℕ) (cs : List ℕ) (rest : Verdict) → passes ≡ after_reply 1 (reply_of (ledger_long s)) (after_reply 2 (reply_of (at_filling s.bench.phase)) (after_reply 4 (reply_of (clause_fits s.bench.n s.shelf cs)) (after_reply 5 (reply_of (none cs || vacant s.shelf p)) rest)))
    → (clause_fits s.bench.n s.shelf cs ≡ true) × ((none cs || vacant s.shelf p) ≡ true) × (passes ≡ rest)
clause_passed s p cs rest h =
    let q₁ = yes_then 1 (ledger_long s) _ h in
    let q₂ = yes_then 2 (at_filling s.bench.phase) _ q₁.1 in
    let q₄ = yes_then 4 (clause_fits s.bench.n s.shelf cs) _ q₂.1 in
    let q₅ = yes_then 5 (none cs || vacant s.shelf p) rest q₄.1 in
    (q₄.0, q₅.0, q₅.1)

-- a clause that is not empty can be written to its place
pub may_write : (s : State) (p : ℕ) (cs : List ℕ) → clause_fits s.bench.n s.shelf cs ≡ true → (none cs || vacant s.shelf p) ≡ true → none cs ≡ false → Writable s.shelf p cs
may_write s p cs f e n = writable s.bench.n s.shelf p cs f (ap (λ (b : Bool). b || vacant s.shelf p) (sym n) ∙ e)
