-- One place more of a plan's bill, and of the test that it meets the hard clauses:
-- what is left of the shelf and the ledger makes up the whole.
use Rattle.std.proofs.Common.{◌≡◌, ℕ, suc, ◌+◌, ◌<◌, ◌≤◌, min, Bool, true, false, cond, ◌&&◌, List, [], ◌∷◌, length, get_or, drop, ℤ, Some, None, Ok, Err, Option, Result, true≢false, sym, refl, ap, ap₂, ◌∙◌, inl, inr, arith}
use Rattle.std.proofs.lemmas.List.{drop_more, drop_all}
use Rattle.std.proofs.lemmas.Bool.{cases_lt}
use Rattle.std.specs.Option.{option_to_list, option_map_or}
use Rattle.std.specs.Result.{is_ok}
use Rattle.std.specs.List.{list_all, range_with_len}
use Rattle.cost.specs.Figures.{plus}
use Rattle.cost.specs.Reach.{Scale, beyond, reached}
use Rattle.cost.specs.Reaching.{reached_ok, reached_err}
use Rattle.rules.specs.Cells.{Cell, hard, soft}
use Rattle.rules.specs.Questions.{affirmed, reach_reply, unless_beyond}
use Rattle.rules.specs.Showing.{hard_met, met_at, owed, owed_at, partial_sums, summed}
use Rattle.ledger.specs.Dues.{told_by}
use Rattle.ledger.specs.Bills.{Bill, vacant_or_met, owing, billed}

abbrev pub prepend : Option (List ℤ) → List (List ℤ) → List (List ℤ)
prepend None rest = rest
prepend (Some a) rest = a ∷ rest

owed_at_is : (x cs : List ℕ) (c : Cell) (rest : List (List ℤ)) → owed_at x cs c rest ≡ prepend (owing x cs c) rest
owed_at_is x cs hard rest = refl
owed_at_is x cs (soft a) rest =
    elim (vacant_or_met x cs) as (λ b. cond b rest (a ∷ rest) ≡ prepend (cond b None (Some a)) rest) [ true ↦ refl | false ↦ refl ]

module _ (x : List ℕ) (held : List (List ℕ)) (ks : List Cell) (p : ℕ) (d : Cell) (in_held : p < length held) (in_ledger : p < length ks) where
  pub owed_turn : owed x (drop p held) (drop p ks) ≡ prepend (owing x (get_or held p []) (get_or ks p d)) (owed x (drop (p + 1) held) (drop (p + 1) ks))
  unfolding owed
  owed_turn =
      ap (λ (hs : List (List ℕ)). owed x hs (drop p ks)) (drop_more held p [] in_held)
      ∙ ap (λ (l : List Cell). owed x (get_or held p [] ∷ drop (p + 1) held) l) (drop_more ks p d in_ledger)
      ∙ owed_at_is x (get_or held p []) (get_or ks p d) (owed x (drop (p + 1) held) (drop (p + 1) ks))

-- past the last place, or the last cell, nothing is left
owed_bare : (x : List ℕ) (held : List (List ℕ)) → owed x held [] ≡ []
unfolding owed
owed_bare x [] = refl
owed_bare x (c ∷ cs) = refl

pub owed_end : (x : List ℕ) (held : List (List ℕ)) (ks : List Cell) (p : ℕ) → min (length held) (length ks) ≤ p → owed x (drop p held) (drop p ks) ≡ []
unfolding owed
owed_end x held ks p h =
    elim (cases_lt p (length held)) [
      | inl l ↦ ap (owed x (drop p held)) (drop_all p ks (omega arith)) ∙ owed_bare x (drop p held)
      | inr l ↦ ap (λ (hs : List (List ℕ)). owed x hs (drop p ks)) (drop_all p held l)
    ]

met_from : (x : List ℕ) (held : List (List ℕ)) (ks : List Cell) (d : Cell) (a : ℕ) (q : ℕ → Bool)
    → ((k : ℕ) → k < min (length held) (length ks) → q (a + k) ≡ met_at x (get_or held k []) (get_or ks k d))
    → list_all q (range_with_len a (min (length held) (length ks))) ≡ hard_met x held ks
unfolding hard_met
met_from x [] ks d a q h = let z : min 0 (length ks) ≡ 0 = omega arith in rw z refl
met_from x (cs ∷ held) [] d a q h = let z : min (suc (length held)) 0 ≡ 0 = omega arith in rw z refl
met_from x (cs ∷ held) (c ∷ ks) d a q h =
    let z : a + 0 ≡ a = omega arith in
    let n : min (suc (length held)) (suc (length ks)) ≡ suc (min (length held) (length ks)) = omega arith in
    rw n (ap₂ (λ s t. s && t) (ap q (sym z) ∙ h 0 (omega arith))
    (met_from x held ks d (a + 1) q (λ k l.
    let e : a + 1 + k ≡ a + (k + 1) = omega arith in
    let f : k + 1 ≡ suc k = omega arith in
    ap q e ∙ h (k + 1) (omega arith) ∙ ap (λ (j : ℕ). met_at x (get_or (cs ∷ held) j []) (get_or (c ∷ ks) j d)) f)))

-- every place asked about at once
pub met_all : (x : List ℕ) (held : List (List ℕ)) (ks : List Cell) (d : Cell)
    → list_all (λ p. met_at x (get_or held p []) (get_or ks p d)) (range_with_len 0 (min (length held) (length ks))) ≡ hard_met x held ks
met_all x held ks d = met_from x held ks d 0 (λ p. met_at x (get_or held p []) (get_or ks p d)) (λ k l. let e : 0 + k ≡ k = omega arith in ap (λ (j : ℕ). met_at x (get_or held j []) (get_or ks j d)) e)

-- one amount more, in reach
pub billed_more : (k : Scale) (z a w : List ℤ) (os : List (List ℤ)) (n : ℕ) → Ok w ≡ reached k (plus z a) → billed k w os (n + 1) ≡ billed k z (a ∷ os) n
unfolding partial_sums summed
billed_more k z a w os n e =
    let r = reached_ok k (plus z a) w e in
    let m : (n + 1) + length os ≡ n + suc (length os) = omega arith in
    ap (λ (y : List ℤ). billed k y os (n + 1)) r.0
    ∙ ap (λ (i : ℕ). told_by (reach_reply k (partial_sums (plus z a) os)) (record { cost = summed (plus z a) os; count = i })) m
    ∙ ap (λ o. told_by (unless_beyond o (reach_reply k (partial_sums (plus z a) os))) (record { cost = summed (plus z a) os; count = n + suc (length os) })) (sym r.1)

-- one amount more, out of reach
pub billed_stop : (k : Scale) (z a : List ℤ) (t : ℕ) (os : List (List ℤ)) (n : ℕ) → Err t ≡ reached k (plus z a) → Err t ≡ billed k z (a ∷ os) n
unfolding partial_sums summed
billed_stop k z a t os n e =
    let r = reached_err k (plus z a) t e in
    ap (λ o. told_by (unless_beyond o (reach_reply k (partial_sums (plus z a) os))) (record { cost = summed (plus z a) os; count = n + suc (length os) })) (sym r)

pub billed_end : (k : Scale) (z : List ℤ) (n : ℕ) → Ok (record { cost = z; count = n }) ≡ billed k z [] n
unfolding partial_sums summed
billed_end k z n = let m : n ≡ n + 0 = omega arith in ap (λ (i : ℕ). Ok (record { cost = z; count = i })) m

abbrev bill_of : List ℤ → ℕ → Bill
bill_of z n = record { cost = z; count = n }

-- the parts of a bill that a result holds
abbrev cost_of : Result Bill ℕ → List ℤ
cost_of (Ok b) = b.cost
cost_of (Err t) = []

abbrev count_of : Result Bill ℕ → ℕ
count_of (Ok b) = b.count
count_of (Err t) = 0

module _ (k : Scale) (z : List ℤ) (rest : List (List ℤ)) (n : ℕ) where
  -- what one place adds, and then the rest
  pub billed_on : (w : List ℤ) (m : ℕ) (o : Option (List ℤ)) → Ok (bill_of w m) ≡ billed k z (option_to_list o) n → billed k w rest m ≡ billed k z (prepend o rest) n
  unfolding partial_sums summed
  billed_on w m None e = ap₂ (λ y (i : ℕ). billed k y rest i) (ap cost_of e) (ap count_of e ∙ omega arith)
  billed_on w m (Some a) e = by (beyond k (plus z a)) refl e
    where
      by : (b : Option ℕ) → beyond k (plus z a) ≡ b → Ok (bill_of w m) ≡ told_by (unless_beyond b affirmed) (bill_of (plus z a) (n + 1)) → billed k w rest m ≡ billed k z (a ∷ rest) n
      by None q d = ap₂ (λ y i. billed k y rest i) (ap cost_of d) (ap count_of d) ∙ billed_more k z a (plus z a) rest n (sym (ap (λ b. option_map_or Err b (Ok (plus z a))) q))
      by (Some t) q d = absurd (true≢false (ap is_ok d))

  -- what one place adds is out of reach
  pub billed_off : (t : ℕ) (o : Option (List ℤ)) → Err t ≡ billed k z (option_to_list o) n → Err t ≡ billed k z (prepend o rest) n
  unfolding partial_sums summed
  billed_off t None e = absurd (true≢false (sym (ap is_ok e)))
  billed_off t (Some a) e = by (beyond k (plus z a)) refl e
    where
      by : (b : Option ℕ) → beyond k (plus z a) ≡ b → Err t ≡ told_by (unless_beyond b affirmed) (bill_of (plus z a) (n + 1)) → Err t ≡ billed k z (a ∷ rest) n
      by None q d = absurd (true≢false (sym (ap is_ok d)))
      by (Some s) q d = d ∙ sym (ap (λ b. told_by (unless_beyond b (reach_reply k (partial_sums (plus z a) rest))) (bill_of (summed (plus z a) rest) (n + suc (length rest)))) q)
