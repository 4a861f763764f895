-- What stays rising. A merge keeps the codes rising, and where no literal stands
-- with its opposite the variables rise too.
use Rattle.std.proofs.Common.{◌≡◌, ℕ, ◌+◌, ◌*◌, ◌/◌, ◌<◌, ◌≤◌, Bool, true, false, cond, eqb, List, [], ◌∷◌, sym, subst, inl, inr, arith}
use Rattle.std.proofs.lemmas.Bool.{lt-ltb, le-ltb, eq-eqb, ne_eqb, eqb-false, or_parts, cases_order, cases_eq}
use Rattle.shelf.specs.Literals.{opposite, Rising, among}
use Rattle.rules.specs.Clauses.{without, into, merge, compensations, vanishes}
use Rattle.results.specs.Spread.{Spread, AllSpread}
use Rattle.std.proofs.lemmas.List.Elements.{All-nil, All-cons}

module _ (top : ℕ) where
  spread_less : (b c : ℕ) (cs : List ℕ) → Spread top b cs → c ≤ b → Spread top c cs
  spread_less b c [] s h = tt
  spread_less b c (d ∷ ds) s h = let l = s.0 in (omega arith, s.1, s.2)

  rising_less : (b c : ℕ) (cs : List ℕ) → Rising top b cs → c ≤ b → Rising top c cs
  rising_less b c [] s h = tt
  rising_less b c (d ∷ ds) s h = let l = s.0 in (omega arith, s.1, s.2)

  pub spread_of : (b : ℕ) (cs : List ℕ) → Rising top b cs → Spread top (2 * b + 2) cs
  spread_of b [] r = tt
  spread_of b (c ∷ cs) r =
      let l = r.0 in
      (omega arith, r.1, spread_less (2 * (c / 2) + 2) (c + 1) cs (spread_of (c / 2) cs r.2) (omega arith))

  into_spread : (a : ℕ) (f : List ℕ → List ℕ) → a / 2 ≤ top → ((ys : List ℕ) → Spread top (a + 1) ys → Spread top (a + 1) (f ys)) → (b : ℕ) → b ≤ a → (ys : List ℕ) → Spread top b ys → Spread top b (into a f ys)
  unfolding into
  into_spread a f h g b l [] s = (l, h, g [] tt)
  into_spread a f h g b l (y ∷ ys) s =
      let s₀ = s.0 in
      elim (cases_order a y) [
        | inl e ↦ let l₁ : y ≤ a = omega arith in rw (le-ltb a y l₁, eq-eqb a y e) (l, h, g ys (spread_less (y + 1) (a + 1) ys s.2 (omega arith)))
        | inr o ↦ elim o [
          | inl k ↦ rw (lt-ltb a y k) (l, h, g (y ∷ ys) (omega arith, s.1, s.2))
          | inr k ↦ let l₁ : y ≤ a = omega arith in let n : a ≡ y → ⊥ = λ e. omega arith in rw (le-ltb a y l₁, ne_eqb a y n) (s₀, s.1, into_spread a f h g (y + 1) (omega arith) ys s.2)
        ]
      ]

  pub merge_spread : (xs : List ℕ) (b : ℕ) (ys : List ℕ) → Spread top b xs → Spread top b ys → Spread top b (merge xs ys)
  unfolding merge
  merge_spread [] b ys s t = t
  merge_spread (x ∷ xs) b ys s t = into_spread x (merge xs) s.1 (λ zs u. merge_spread xs (x + 1) zs s.2 u) b s.0 ys t

  rising_after : (c : ℕ) (cs : List ℕ) → Spread top (c + 1) cs → among (opposite c) cs ≡ false → vanishes cs ≡ false → Rising top (c / 2) cs
  unfolding among vanishes
  rising_after c [] s h v = tt
  rising_after c (d ∷ ds) s h v =
      let s₀ = s.0 in
      let n = eqb-false d (opposite c) (or_parts _ _ h).0 in
      let w = or_parts (among (opposite d) ds) (vanishes ds) v in
      let l : c / 2 < d / 2 = elim (cases_eq d (opposite c)) [ inl e ↦ elim (n e) [ ] | inr k ↦ omega arith ] in
      (l, s.1, rising_after d ds s.2 w.0 w.1)

  pub rising_from : (cs : List ℕ) → Spread top 2 cs → vanishes cs ≡ false → Rising top 0 cs
  unfolding vanishes
  rising_from [] s v = tt
  rising_from (c ∷ cs) s v =
      let s₀ = s.0 in
      let w = or_parts (among (opposite c) cs) (vanishes cs) v in
      (omega arith, s.1, rising_after c cs s.2 w.0 w.1)

  rising_turned : (b c : ℕ) (cs : List ℕ) → Rising top b (c ∷ cs) → Rising top b (opposite c ∷ cs)
  rising_turned b c cs r =
      let e : opposite c / 2 ≡ c / 2 = omega arith in
      let P : ℕ → Type 0 = λ n. (b < n) × (n ≤ top) × Rising top n cs in
      subst P (sym e) r

  pub rising_without : (x b : ℕ) (cs : List ℕ) → Rising top b cs → Rising top b (without x cs)
  unfolding without
  rising_without x b [] r = tt
  rising_without x b (c ∷ cs) r =
      let l = r.0 in
      let ih = rising_without x (c / 2) cs r.2 in
      go ih (eqb x c)
    where
      go : Rising top (c / 2) (without x cs) → (t : Bool) → Rising top b (cond t (without x cs) (c ∷ without x cs))
      go ih true = let l = r.0 in rising_less (c / 2) b (without x cs) ih (omega arith)
      go ih false = (r.0, r.1, ih)

  pub spread_first : (cs : List ℕ) → Rising top 0 cs → Spread top 2 cs
  spread_first cs r = spread_of 0 cs r

  pub compensations_spread : (p : List ℕ) (b : ℕ) (bs : List ℕ) → Rising top 0 p → Rising top b bs → AllSpread top (compensations p bs)
  unfolding compensations
  compensations_spread p b [] hp hb = All-nil (Spread top 2)
  compensations_spread p b (c ∷ cs) hp hb =
      All-cons (Spread top 2) (merge p (opposite c ∷ cs)) (compensations p cs)
      (merge_spread p 2 (opposite c ∷ cs) (spread_first p hp) (spread_first (opposite c ∷ cs) (rising_less b 0 (opposite c ∷ cs) (rising_turned b c cs hb) (omega arith))))
      (compensations_spread p (c / 2) cs hp hb.2)
