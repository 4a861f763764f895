-- One code put into a rising list: a variable that does not stand in a clause can be
-- put in with the clause still rising, so that nothing vanishes.
use Rattle.std.proofs.Common.{◌≡◌, ℕ, suc, ◌+◌, ◌*◌, ◌/◌, ◌<◌, ◌≤◌, Bool, true, false, cond, eqb, ltb, List, [], ◌∷◌, length, refl, ap, inl, inr, arith}
use Rattle.std.proofs.lemmas.Bool.{lt-ltb, le-ltb, eqb-false, ne_eqb, or_parts, or_from, cases_lt}
use Rattle.shelf.specs.Literals.{opposite, Rising, among, stands, put}
use Rattle.rules.specs.Clauses.{vanishes}
use Rattle.results.proofs.Clashing.{absent}
use Rattle.results.proofs.Shapes.{spread_of}

pub length-put : (c : ℕ) (cs : List ℕ) → length (put c cs) ≡ suc (length cs)
unfolding put
length-put c [] = refl
length-put c (x ∷ xs) = go (ltb c x) (length-put c xs)
  where
    go : (t : Bool) → length (put c xs) ≡ suc (length xs) → length (cond t (c ∷ x ∷ xs) (x ∷ put c xs)) ≡ suc (suc (length xs))
    go true e = refl
    go false e = ap suc e

module _ (top : ℕ) where
  pub rising_put : (b c : ℕ) (cs : List ℕ) → Rising top b cs → b < c / 2 → c / 2 ≤ top → stands (c / 2) cs ≡ false → Rising top b (put c cs)
  unfolding put stands
  rising_put b c [] r l h s = (l, h, tt)
  rising_put b c (x ∷ xs) r l h s =
      let p = or_parts (eqb (x / 2) (c / 2)) (stands (c / 2) xs) s in
      let n = eqb-false (x / 2) (c / 2) p.0 in
      elim (cases_lt c x) [
        | inl k ↦ let m : c / 2 < x / 2 = elim (cases_lt (c / 2) (x / 2)) [ inl z ↦ z | inr z ↦ absurd (n (omega arith)) ] in rw (lt-ltb c x k) (l, h, (m, r.1, r.2))
        | inr k ↦ let m : x / 2 < c / 2 = elim (cases_lt (x / 2) (c / 2)) [ inl z ↦ z | inr z ↦ absurd (n (omega arith)) ] in rw (le-ltb c x k) (r.0, r.1, rising_put (x / 2) c xs r.2 m h p.1)
      ]

  -- where variables rise no literal stands with its opposite
  pub rising_clean : (b : ℕ) (cs : List ℕ) → Rising top b cs → vanishes cs ≡ false
  unfolding vanishes
  rising_clean b [] r = refl
  rising_clean b (c ∷ cs) r =
      or_from (among (opposite c) cs) (vanishes cs) (absent top (2 * (c / 2) + 2) (opposite c) cs (spread_of top (c / 2) cs r.2) (omega arith)) (rising_clean (c / 2) cs r.2)

  -- a variable above all does not stand
  pub stands_above : (b d : ℕ) (cs : List ℕ) → Rising top b cs → top < d → stands d cs ≡ false
  unfolding stands
  stands_above b d [] r h = refl
  stands_above b d (c ∷ cs) r h =
      let l = r.1 in
      or_from (eqb (c / 2) d) (stands d cs) (ne_eqb (c / 2) d (λ e. omega arith)) (stands_above (c / 2) d cs r.2 h)
