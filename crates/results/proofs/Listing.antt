-- The list of results by index, and that each of them is spread.
use Rattle.std.proofs.Common.{◌≡◌, ℕ, zero, suc, ◌+◌, ◌-◌, ◌<◌, ◌≤◌, Bool, true, false, cond, List, [], ◌∷◌, ◌++◌, length, get_or, drop, refl, ap, ◌∙◌, arith}
use Rattle.std.proofs.lemmas.List.{get_or_append_left, get_or-append_right, get_or_past, length-append}
use Rattle.std.proofs.lemmas.List.Elements.{All-nil, All-cons, All-append}
use Rattle.shelf.specs.Literals.{Rising}
use Rattle.rules.specs.Clauses.{merge, compensations}
use Rattle.results.specs.Turned.{turned}
use Rattle.rules.specs.Results.{where_soft, results}
use Rattle.results.specs.Spread.{Spread, AllSpread}
use Rattle.results.proofs.Shapes.{spread_first, merge_spread, compensations_spread}

where_soft_spread : (top : ℕ) (w : Bool) (rs : List (List ℕ)) → AllSpread top rs → AllSpread top (where_soft w rs)
where_soft_spread top true rs h = h
where_soft_spread top false rs h = All-nil (Spread top 2)

pub results_spread : (top : ℕ) (p q a b : List ℕ) (wp wq : Bool) → Rising top 0 p → Rising top 0 q → Rising top 0 a → Rising top 0 b → AllSpread top (results p q a b wp wq)
results_spread top p q a b wp wq hp hq ha hb =
    let first = merge_spread top a 2 b (spread_first top a ha) (spread_first top b hb) in
    let firsts = where_soft_spread top wp (compensations p b) (compensations_spread top p 0 b hp hb) in
    let seconds = where_soft_spread top wq (compensations q a) (compensations_spread top q 0 a hq ha) in
    All-cons (Spread top 2) (merge a b) (where_soft wp (compensations p b) ++ where_soft wq (compensations q a)) first (All-append (Spread top 2) (where_soft wp (compensations p b)) (where_soft wq (compensations q a)) firsts seconds)

pub length_compensations : (c bs : List ℕ) → length (compensations c bs) ≡ length bs
unfolding compensations
length_compensations c [] = refl
length_compensations c (b ∷ bs) = ap suc (length_compensations c bs)

at_compensations : (c bs : List ℕ) (k : ℕ) → k < length bs → get_or (compensations c bs) k [] ≡ merge c (turned (drop k bs))
unfolding compensations turned
at_compensations c [] k h = absurd (omega arith)
at_compensations c (b ∷ bs) zero h = refl
at_compensations c (b ∷ bs) (suc k) h = at_compensations c bs k (omega arith)

-- how many compensations of the clause c there are
length_where_soft : (w : Bool) (c bs : List ℕ) → length (where_soft w (compensations c bs)) ≡ cond w (length bs) 0
length_where_soft true c bs = length_compensations c bs
length_where_soft false c bs = refl

at_where_soft : (w : Bool) (c bs : List ℕ) (k : ℕ) → k < cond w (length bs) 0 → get_or (where_soft w (compensations c bs)) k [] ≡ merge c (turned (drop k bs))
at_where_soft true c bs k h = at_compensations c bs k h
at_where_soft false c bs k h = absurd (omega arith)

module _ (p q a b : List ℕ) (wp wq : Bool) where
  pub length_results : length (results p q a b wp wq) ≡ 1 + cond wp (length b) 0 + cond wq (length a) 0
  length_results =
      let l = length-append (where_soft wp (compensations p b)) (where_soft wq (compensations q a)) in
      let m = length_where_soft wp p b in
      let n = length_where_soft wq q a in
      omega arith

  pub at_first : (k : ℕ) → k < cond wp (length b) 0 → get_or (results p q a b wp wq) (suc k) [] ≡ merge p (turned (drop k b))
  at_first k h =
      let m = length_where_soft wp p b in
      get_or_append_left (where_soft wp (compensations p b)) (where_soft wq (compensations q a)) [] k (omega arith) ∙ at_where_soft wp p b k h

  pub at_second : (k i : ℕ) → cond wp (length b) 0 + i ≡ k → i < cond wq (length a) 0 → get_or (results p q a b wp wq) (suc k) [] ≡ merge q (turned (drop i a))
  at_second k i e h =
      let m = length_where_soft wp p b in
      let n : k - cond wp (length b) 0 ≡ i = omega arith in
      get_or-append_right (where_soft wp (compensations p b)) (where_soft wq (compensations q a)) (cond wp (length b) 0) k [] m (omega arith)
      ∙ ap (λ (j : ℕ). get_or (where_soft wq (compensations q a)) j []) n
      ∙ at_where_soft wq q a i h

  pub at_none : (t : ℕ) → 1 + cond wp (length b) 0 + cond wq (length a) 0 ≤ t → get_or (results p q a b wp wq) t [] ≡ []
  at_none t h = let l = length_results in get_or_past (results p q a b wp wq) t [] (omega arith)
