-- The results of a definition, and of a split: each is a clause with one literal put
-- in whose variable does not stand there, so it rises and none vanishes.
use Rattle.std.proofs.Common.{◌≡◌, ℕ, zero, suc, ◌+◌, ◌-◌, ◌*◌, ◌/◌, ◌<◌, ◌≤◌, true, false, ◌&&◌, eqb, leb, List, [], ◌∷◌, length, get_or, refl, ap, ◌∙◌, arith}
use Rattle.std.proofs.lemmas.List.{get_or_past}
use Rattle.std.proofs.lemmas.List.Elements.{All-nil, All-cons}
use Rattle.std.proofs.lemmas.Bool.{le-leb, lt-leb, eqb-false, ne_eqb, or_parts, or_from, and_left, and_from}
use Rattle.shelf.specs.Literals.{opposite, Rising, stands, put, none}
use Rattle.rules.specs.Clauses.{vanishes}
use Rattle.rules.specs.Results.{halves, implied, defining, kept, short_enough}
use Rattle.results.specs.Spread.{Spread, AllSpread}
use Rattle.results.proofs.Putting.{length-put, rising_put, rising_clean}
use Rattle.results.proofs.Shapes.{spread_first}

pub length_implied : (d : ℕ) (ls : List ℕ) → length (implied d ls) ≡ length ls
unfolding implied
length_implied d [] = refl
length_implied d (l ∷ ls) = ap suc (length_implied d ls)

at_implied : (d : ℕ) (ls : List ℕ) (k : ℕ) → k < length ls → get_or (implied d ls) k [] ≡ put (2 * d) (opposite (get_or ls k 0) ∷ [])
unfolding implied
at_implied d [] k h = absurd (omega arith)
at_implied d (l ∷ ls) zero h = refl
at_implied d (l ∷ ls) (suc k) h = at_implied d ls k (omega arith)

-- the result of the k-th literal, and none past the last
pub at_defining : (d : ℕ) (ls : List ℕ) (t : ℕ) → (t ≡ 0 → ⊥) → t - 1 < length ls → get_or (defining d ls) t [] ≡ put (2 * d) (opposite (get_or ls (t - 1) 0) ∷ [])
at_defining d ls t n h =
    let e : t ≡ suc (t - 1) = omega arith in
    ap (λ (i : ℕ). get_or (defining d ls) i []) e ∙ at_implied d ls (t - 1) h

pub past_defining : (d : ℕ) (ls : List ℕ) (t : ℕ) → (t ≡ 0 → ⊥) → length ls ≤ t - 1 → get_or (defining d ls) t [] ≡ []
past_defining d ls t n h =
    let e : t ≡ suc (t - 1) = omega arith in
    let m = length_implied d ls in
    ap (λ (i : ℕ). get_or (defining d ls) i []) e ∙ get_or_past (implied d ls) (t - 1) [] (omega arith)

-- the variable is d, in either sign
stands_as : (c d : ℕ) (cs : List ℕ) → c / 2 ≡ d → stands d cs ≡ false → stands (c / 2) cs ≡ false
stands_as c d cs e s = ap (λ (v : ℕ). stands v cs) e ∙ s

none_put : (c : ℕ) (cs : List ℕ) → none (put c cs) ≡ false
none_put c cs = go (put c cs) (length-put c cs)
  where
    go : (ds : List ℕ) → length ds ≡ suc (length cs) → none ds ≡ false
    go [] e = absurd (omega (arith, e))
    go (x ∷ xs) e = refl

module _ (top d : ℕ) (some : 1 ≤ d) (known : d ≤ top) where
  -- a clause with one literal of the variable d more
  put_rises : (c : ℕ) (cs : List ℕ) → c / 2 ≡ d → Rising top 0 cs → stands d cs ≡ false → Rising top 0 (put c cs)
  put_rises c cs e r s = rising_put top 0 c cs r (omega arith) (omega arith) (stands_as c d cs e s)

  put_clean : (c : ℕ) (cs : List ℕ) → c / 2 ≡ d → Rising top 0 cs → stands d cs ≡ false → vanishes (put c cs) ≡ false
  put_clean c cs e r s = rising_clean top 0 (put c cs) (put_rises c cs e r s)

  kept_put : (c : ℕ) (cs : List ℕ) (rs : List (List ℕ)) → c / 2 ≡ d → Rising top 0 cs → stands d cs ≡ false → kept (put c cs ∷ rs) ≡ put c cs ∷ kept rs
  unfolding kept
  kept_put c cs rs e r s = rw (or_from (vanishes (put c cs)) (none (put c cs)) (put_clean c cs e r s) (none_put c cs))

  short_put : (L c : ℕ) (cs : List ℕ) (rs : List (List ℕ)) → c / 2 ≡ d → Rising top 0 cs → stands d cs ≡ false → short_enough L (put c cs ∷ rs) ≡ (leb (suc (length cs)) L && short_enough L rs)
  unfolding short_enough
  short_put L c cs rs e r s = rw (put_clean c cs e r s, length-put c cs)

  -- the opposite of a literal alone
  alone_rises : (b l : ℕ) → b < l / 2 → l / 2 ≤ top → Rising top 0 (opposite l ∷ [])
  alone_rises b l h k = (omega arith, omega arith, tt)

  alone_new : (l : ℕ) (ls : List ℕ) → stands d (l ∷ ls) ≡ false → (stands d (opposite l ∷ []) ≡ false) × (stands d ls ≡ false)
  unfolding stands
  alone_new l ls s =
      let p = or_parts (eqb (l / 2) d) (stands d ls) s in
      let n = eqb-false (l / 2) d p.0 in
      let m : opposite l / 2 ≡ d → ⊥ = λ e. n (omega arith) in
      (or_from (eqb (opposite l / 2) d) false (ne_eqb (opposite l / 2) d m) refl, p.1)

  implied_spread : (b : ℕ) (ls : List ℕ) → Rising top b ls → stands d ls ≡ false → AllSpread top (implied d ls)
  unfolding implied
  implied_spread b [] r s = All-nil (Spread top 2)
  implied_spread b (l ∷ ls) r s =
      All-cons (Spread top 2) (put (2 * d) (opposite l ∷ [])) (implied d ls)
      (spread_first top (put (2 * d) (opposite l ∷ [])) (put_rises (2 * d) (opposite l ∷ []) (omega arith) (alone_rises b l r.0 r.1) (alone_new l ls s).0))
      (implied_spread (l / 2) ls r.2 (alone_new l ls s).1)

  pub defining_spread : (ls : List ℕ) → Rising top 0 ls → stands d ls ≡ false → AllSpread top (defining d ls)
  defining_spread ls r s =
      All-cons (Spread top 2) (put (2 * d + 1) ls) (implied d ls) (spread_first top (put (2 * d + 1) ls) (put_rises (2 * d + 1) ls (omega arith) r s)) (implied_spread 0 ls r s)

  kept_implied : (b : ℕ) (ls : List ℕ) → Rising top b ls → stands d ls ≡ false → kept (implied d ls) ≡ implied d ls
  unfolding implied kept
  kept_implied b [] r s = refl
  kept_implied b (l ∷ ls) r s =
      kept_put (2 * d) (opposite l ∷ []) (implied d ls) (omega arith) (alone_rises b l r.0 r.1) (alone_new l ls s).0
      ∙ ap (λ (rs : List (List ℕ)). put (2 * d) (opposite l ∷ []) ∷ rs) (kept_implied (l / 2) ls r.2 (alone_new l ls s).1)

  -- every result takes a place: one more than there are literals
  pub kept_defining : (ls : List ℕ) → Rising top 0 ls → stands d ls ≡ false → length (kept (defining d ls)) ≡ length ls + 1
  kept_defining ls r s =
      let e = kept_put (2 * d + 1) ls (implied d ls) (omega arith) r s ∙ ap (λ (rs : List (List ℕ)). put (2 * d + 1) ls ∷ rs) (kept_implied 0 ls r s) in
      let m = length_implied d ls in
      ap length e ∙ omega arith

  short_implied : (L b : ℕ) (ls : List ℕ) → 2 ≤ L → Rising top b ls → stands d ls ≡ false → short_enough L (implied d ls) ≡ true
  unfolding implied short_enough
  short_implied L b [] h r s = refl
  short_implied L b (l ∷ ls) h r s =
      short_put L (2 * d) (opposite l ∷ []) (implied d ls) (omega arith) (alone_rises b l r.0 r.1) (alone_new l ls s).0
      ∙ and_from (leb 2 L) (short_enough L (implied d ls)) (le-leb 2 L h) (short_implied L (l / 2) ls h r.2 (alone_new l ls s).1)

  -- the longest result has one literal more than there are
  pub short_defining : (L : ℕ) (ls : List ℕ) → 1 ≤ length ls → length ls + 1 ≤ L → Rising top 0 ls → stands d ls ≡ false → short_enough L (defining d ls) ≡ true
  short_defining L ls o h r s =
      short_put L (2 * d + 1) ls (implied d ls) (omega arith) r s
      ∙ and_from (leb (suc (length ls)) L) (short_enough L (implied d ls)) (le-leb (suc (length ls)) L (omega arith)) (short_implied L 0 ls (omega arith) r s)

  pub long_defining : (L : ℕ) (ls : List ℕ) → L < length ls + 1 → Rising top 0 ls → stands d ls ≡ false → short_enough L (defining d ls) ≡ false
  long_defining L ls h r s =
      short_put L (2 * d + 1) ls (implied d ls) (omega arith) r s ∙ and_left (leb (suc (length ls)) L) (short_enough L (implied d ls)) (lt-leb (suc (length ls)) L (omega arith))

  pub short_halves : (L : ℕ) (cs : List ℕ) → length cs < L → Rising top 0 cs → stands d cs ≡ false → short_enough L (halves d cs) ≡ true
  unfolding short_enough
  short_halves L cs h r s =
      let yes = le-leb (suc (length cs)) L (omega arith) in
      short_put L (2 * d) cs (put (2 * d + 1) cs ∷ []) (omega arith) r s
      ∙ and_from (leb (suc (length cs)) L) (short_enough L (put (2 * d + 1) cs ∷ [])) yes (short_put L (2 * d + 1) cs [] (omega arith) r s ∙ and_from (leb (suc (length cs)) L) true yes refl)

  pub long_halves : (L : ℕ) (cs : List ℕ) → L ≤ length cs → Rising top 0 cs → stands d cs ≡ false → short_enough L (halves d cs) ≡ false
  long_halves L cs h r s =
      short_put L (2 * d) cs (put (2 * d + 1) cs ∷ []) (omega arith) r s ∙ and_left (leb (suc (length cs)) L) (short_enough L (put (2 * d + 1) cs ∷ [])) (lt-leb (suc (length cs)) L (omega arith))
