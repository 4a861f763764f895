-- What the layer makes of a call on the shelf below. One place changes, and the
-- words are the signatures again once the word of that place is.
use Rattle.std.proofs.Common.{◌≡◌, ℕ, ◌%◌, ◌<◌, min, false, List, [], get_or, set, take, Ok, ap, ◌∙◌, inl, inr, arith}
use Rattle.std.proofs.lemmas.List.{get_or-set_same, get_or-set_other, get_or_past, length-take}
use Rattle.std.proofs.lemmas.Bool.{cases_eq, cases_lt}
use Rattle.shelf.specs.Answers.{added, after_add, after_wipe}
use Rattle.shelf.specs.Literals.{among, put}
use Rattle.shelf.specs.View.{View, Sound, clause, with_held}
use Rattle.signatures.specs.Layers.{layered, layered_at}
use Rattle.signatures.specs.Signing.{Blanked, Marked, Signed, Signs, has_bit}
use Rattle.signatures.proofs.Remainders.{bit_tells_remainder, signs_none, signs_put}

-- a bit that is not set: the literal does not stand there
pub not_held : (v : View) (ws : List ℕ) (p c : ℕ) → Sound v → Signed v ws → has_bit (c % 64) (get_or ws p 0) ≡ false → among c (clause (layered v) p) ≡ false
unfolding among
not_held v ws p c sound signs off =
    elim (cases_lt p (min 4096 v.places)) [
      | inl h ↦ ap (among c) (layered_at v p (omega arith)) ∙ bit_tells_remainder (get_or ws p 0) (clause v p) (signs p h) c off
      | inr h ↦ ap (among c) (get_or_past (take 4096 v.held) p [] (omega (arith, length-take 4096 v.held, sound.count)))
    ]

-- ---- the words after a call: the clause of p is cs now, and its word signs it

signed_changed : (v : View) (ws us : List ℕ) (p : ℕ) (cs : List ℕ) → Sound v → Signed v ws → ((q : ℕ) → (q ≡ p → ⊥) → get_or us q 0 ≡ get_or ws q 0)
    → (p < min 4096 v.places → Signs (get_or us p 0) cs) → Signed (with_held v (set v.held p cs)) us
signed_changed v ws us p cs sound signed elsewhere here q h =
    elim (cases_eq q p) as (λ _. Signs (get_or us q 0) (get_or (set v.held p cs) q [])) [
      | inl e ↦ rw (e, get_or-set_same v.held p cs [] (omega (arith, sound.count))) (here (omega arith))
      | inr ne ↦ rw (get_or-set_other v.held p q cs [] ne, elsewhere q ne) (signed q h)
    ]

pub signed_added : {v w : View} {ws us : List ℕ} {p c : ℕ} → Sound v → Signed v ws → Ok tt ≡ added v p c → w ≡ after_add v p c → Marked ws us p c → Signed w us
signed_added {v = v} {ws = ws} {us = us} {p = p} {c = c} sound signed granted after m =
    rw (after, ← granted) (signed_changed v ws us p (put c (clause v p)) sound signed m.elsewhere (λ h. signs_put (get_or ws p 0) (get_or us p 0) c (clause v p) (signed p h) m.here))

pub signed_wiped : {v w : View} {ws us : List ℕ} {p : ℕ} → Sound v → Signed v ws → w ≡ after_wipe v p → Blanked ws us p → Signed w us
signed_wiped {v = v} {ws = ws} {us = us} {p = p} sound signed after b =
    rw after (signed_changed v ws us p [] sound signed b.elsewhere (λ _. signs_none (get_or us p 0) b.here))
