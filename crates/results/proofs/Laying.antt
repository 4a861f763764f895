-- Results placed one by one. Once the results xs are laid, the next may be placed
-- behind them if the whole list could be, and then it is laid with them.
use Rattle.std.proofs.Common.{◌≡◌, ℕ, zero, suc, ◌+◌, ◌<◌, ◌≤◌, Bool, true, false, cond, ◌&&◌, ◌||◌, eqb, ltb, leb, List, [], ◌∷◌, ◌++◌, map, length, set, sym, refl, ap, ◌∙◌, arith}
use Rattle.std.proofs.lemmas.List.{get_or-set_other, length-append, length-map, map-append}
use Rattle.std.proofs.lemmas.Bool.{leb-true, ltb-true, and_parts, and_from, ne_eqb}
use Rattle.shelf.specs.Literals.{none}
use Rattle.shelf.specs.View.{View, clause, with_held}
use Rattle.shelf.specs.Room.{vacant, roomy, Writable}
use Rattle.rules.specs.Clauses.{vanishes}
use Rattle.rules.specs.Results.{kept, short_enough, laid, alike}
use Rattle.results.specs.Spread.{Spread}
use Rattle.results.specs.Placing.{Laid, Placeable, after_placing}
use Rattle.results.proofs.Shapes.{rising_from}

-- ---- which results take places
pub kept_append : (rs ss : List (List ℕ)) → kept (rs ++ ss) ≡ kept rs ++ kept ss
unfolding kept
kept_append [] ss = refl
kept_append (r ∷ rs) ss = go (vanishes r || none r) (kept_append rs ss)
  where
    go : (t : Bool) → kept (rs ++ ss) ≡ kept rs ++ kept ss → cond t (kept (rs ++ ss)) (r ∷ kept (rs ++ ss)) ≡ cond t (kept rs) (r ∷ kept rs) ++ kept ss
    go true e = e
    go false e = ap (λ xs. r ∷ xs) e

pub kept_none : (r : List ℕ) → (vanishes r || none r) ≡ true → kept (r ∷ []) ≡ []
unfolding kept
kept_none r h = rw h

pub kept_one : (r : List ℕ) → (vanishes r || none r) ≡ false → kept (r ∷ []) ≡ r ∷ []
unfolding kept
kept_one r h = rw h

pub none_length : (r : List ℕ) → eqb (length r) 0 ≡ none r
none_length [] = refl
none_length (c ∷ cs) = ne_eqb (length (c ∷ cs)) 0 (λ e. omega arith)

-- ---- what is laid, and the room for it
laid_append : {X : Type 0} (to : ℕ) (xs ys ps : List X) → laid to (xs ++ ys) ps ≡ laid (to + length xs) ys (laid to xs ps)
unfolding laid
laid_append to [] ys ps = let e : to ≡ to + 0 = omega arith in ap (λ (n : ℕ). laid n ys ps) e
laid_append to (x ∷ xs) ys ps =
    let e : to + 1 + length xs ≡ to + suc (length xs) = omega arith in
    laid_append (to + 1) xs ys (set ps to x) ∙ ap (λ (n : ℕ). laid n ys (laid (to + 1) xs (set ps to x))) e

roomy_split : (v : View) (p a b : ℕ) → roomy v p (a + b) ≡ true → (roomy v p a ≡ true) × (roomy v (p + a) b ≡ true)
unfolding roomy
roomy_split v p zero b h =
    let e : 0 + b ≡ b = omega arith in
    let f : p ≡ p + 0 = omega arith in
    (refl, ap (λ (n : ℕ). roomy v n b) (sym f) ∙ ap (roomy v p) (sym e) ∙ h)
roomy_split v p (suc a) b h =
    let e : suc a + b ≡ suc (a + b) = omega arith in
    let k : (vacant v p && roomy v (p + 1) (a + b)) ≡ true = ap (roomy v p) (sym e) ∙ h in
    let parts = and_parts (vacant v p) (roomy v (p + 1) (a + b)) k in
    let ih = roomy_split v (p + 1) a b parts.1 in
    let f : p + 1 + a ≡ p + suc a = omega arith in
    (and_from (vacant v p) (roomy v (p + 1) a) parts.0 ih.0, ap (λ (n : ℕ). roomy v n b) (sym f) ∙ ih.1)

roomy_set : (v : View) (h : List (List ℕ)) (p q n : ℕ) (x : List ℕ) → p < q → roomy (with_held v (set h p x)) q n ≡ roomy (with_held v h) q n
unfolding roomy
roomy_set v h p q zero x l = refl
roomy_set v h p q (suc n) x l =
    let o : vacant (with_held v (set h p x)) q ≡ vacant (with_held v h) q = ap (λ (z : List ℕ). ltb q v.places && none z) (get_or-set_other h p q x [] (λ e. omega arith)) in
    ap (λ (t : Bool). t && roomy (with_held v (set h p x)) (q + 1) n) o ∙ ap (λ (t : Bool). vacant (with_held v h) q && t) (roomy_set v h p (q + 1) n x (omega arith))

roomy_laid : (v : View) (p : ℕ) (xs h : List (List ℕ)) (q n : ℕ) → p + length xs ≤ q → roomy (with_held v (laid p xs h)) q n ≡ roomy (with_held v h) q n
unfolding laid
roomy_laid v p [] h q n l = refl
roomy_laid v p (x ∷ xs) h q n l = roomy_laid v (p + 1) xs (set h p x) q n (omega arith) ∙ roomy_set v h p q n x (omega arith)

-- ---- one result alone
-- it takes no place
pub skipped : {C : Type 0} {f : Type 0} (v : View) (p : ℕ) (r : List ℕ) (m : C) (cs : List C) → kept (r ∷ []) ≡ [] → f → Laid f v (after_placing v p (r ∷ [])) cs (laid p (alike m (kept (r ∷ []))) cs)
unfolding laid
skipped v p r m cs e h = rw e (record { fine = h; view = refl; cells = refl })

-- it takes one
pub taken : {C : Type 0} {f : Type 0} {w : View} {ds : List C} (v : View) (p : ℕ) (r : List ℕ) (m : C) (cs : List C) → kept (r ∷ []) ≡ r ∷ [] → f → w ≡ with_held v (set v.held p r) → ds ≡ set cs p m → Laid f w (after_placing v p (r ∷ [])) ds (laid p (alike m (kept (r ∷ []))) cs)
unfolding laid
taken v p r m cs e h w d = rw e (record { fine = h; view = w; cells = d })

pub writable : {v : View} {p : ℕ} {r : List ℕ} → Spread v.highest 2 r → Placeable v p (r ∷ []) → vanishes r ≡ false → kept (r ∷ []) ≡ r ∷ [] → Writable v p r
unfolding roomy short_enough
writable {v = v} {p = p} {r = r} s a h e =
    let room : roomy v p 1 ≡ true = ap (λ (l : List (List ℕ)). roomy v p (length l)) (sym e) ∙ a.room in
    let fits = (and_parts (vanishes r || leb (length r) v.longest) true a.fits).0 in
    record {
      is_vacant = (and_parts (vacant v p) (roomy v (p + 1) 0) room).0;
      rises = rising_from v.highest r s h;
      short = leb-true (length r) v.longest (ap (λ (t : Bool). t || leb (length r) v.longest) (sym h) ∙ fits);
    }

pub there : (v : View) (p : ℕ) → vacant v p ≡ true → p < v.places
there v p h = ltb-true p v.places (and_parts (ltb p v.places) (none (clause v p)) h).0

-- ---- one result more
short_rest : (L : ℕ) (rs ss : List (List ℕ)) → short_enough L (rs ++ ss) ≡ true → short_enough L ss ≡ true
unfolding short_enough
short_rest L [] ss h = h
short_rest L (r ∷ rs) ss h = short_rest L rs ss (and_parts (vanishes r || leb (length r) L) (short_enough L (rs ++ ss)) h).1

-- the next may be placed where the whole list may be
pub placeable_next : (v : View) (to : ℕ) (xs : List (List ℕ)) (r : List ℕ) (ys : List (List ℕ)) → Placeable v to (xs ++ r ∷ ys) → Placeable (after_placing v to xs) (to + length (kept xs)) (r ∷ [])
unfolding short_enough
placeable_next v to xs r ys a =
    let one = kept (r ∷ []) in
    let e : kept (xs ++ r ∷ ys) ≡ kept xs ++ (one ++ kept ys) = kept_append xs (r ∷ ys) ∙ ap (λ zs. kept xs ++ zs) (kept_append (r ∷ []) ys) in
    let n : length (kept (xs ++ r ∷ ys)) ≡ length (kept xs) + (length one + length (kept ys)) = ap length e ∙ omega (arith, length-append (kept xs) (one ++ kept ys), length-append one (kept ys)) in
    let later = (roomy_split v to (length (kept xs)) (length one + length (kept ys)) (ap (roomy v to) (sym n) ∙ a.room)).1 in
    record {
      fits = and_from _ true (and_parts (vanishes r || leb (length r) v.longest) (short_enough v.longest ys) (short_rest v.longest xs (r ∷ ys) a.fits)).0 refl;
      room = roomy_laid v to (kept xs) v.held (to + length (kept xs)) (length one) (omega arith) ∙ (roomy_split v (to + length (kept xs)) (length one) (length (kept ys)) later).0;
    }

-- the place after them
pub place_more : {p q : ℕ} (to : ℕ) (xs : List (List ℕ)) (r : List ℕ) → p ≡ to + length (kept xs) → q ≡ p + length (kept (r ∷ [])) → q ≡ to + length (kept (xs ++ r ∷ []))
place_more to xs r e f = omega (arith, ap length (kept_append xs (r ∷ [])), length-append (kept xs) (kept (r ∷ [])))

pub laid_more : {C : Type 0} {f f' : Type 0} {w w' : View} {p : ℕ} {ds ds' : List C} (v : View) (to : ℕ) (xs : List (List ℕ)) (r : List ℕ) (m : C) (cs : List C) → p ≡ to + length (kept xs)
    → Laid f w (after_placing v to xs) ds (laid to (alike m (kept xs)) cs) → Laid f' w' (after_placing w p (r ∷ [])) ds' (laid p (alike m (kept (r ∷ []))) ds)
    → Laid f' w' (after_placing v to (xs ++ r ∷ [])) ds' (laid to (alike m (kept (xs ++ r ∷ []))) cs)
laid_more {C = C} v to xs r m cs e i j =
    let one = kept (r ∷ []) in
    let cell : List ℕ → C = λ _. m in
    let k : kept (xs ++ r ∷ []) ≡ kept xs ++ one = kept_append xs (r ∷ []) in
    record {
      fine = j.fine;
      view = j.view ∙ rw (e, i.view) (ap (with_held v) (sym (laid_append to (kept xs) one v.held) ∙ ap (λ (z : List (List ℕ)). laid to z v.held) (sym k)));
      cells = j.cells ∙ rw (e, i.cells) (
          ap (λ (n : ℕ). laid (to + n) (map cell one) (laid to (map cell (kept xs)) cs)) (sym (length-map (kept xs) cell)) ∙ sym (laid_append to (map cell (kept xs)) (map cell one) cs)
          ∙ ap (λ (z : List C). laid to z cs) (sym (map-append cell (kept xs) one) ∙ ap (map cell) (sym k)));
    }
