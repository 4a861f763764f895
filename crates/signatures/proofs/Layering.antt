-- The layer's view beside the view below: a call at one of the first 4,096 places
-- says the same of both, and past them the layer's view has no place.
use Rattle.std.proofs.Common.{◌≡◌, ℕ, ◌<◌, ◌≤◌, min, Bool, true, false, cond, ltb, List, [], take, drop, set, is_ok, Err, Result, sym, refl, ap, ◌∙◌, arith}
use Rattle.std.proofs.Math.Seq.{take-set-lt}
use Rattle.std.proofs.lemmas.List.{drop-set-lt, length-take, set_past}
use Rattle.std.proofs.lemmas.Bool.Decides.{nat_tests}
use Rattle.shelf.specs.Answers.{Did, added, after_add, after_wipe, wiped}
use Rattle.shelf.specs.Literals.{put}
use Rattle.shelf.specs.View.{View, clause, with_held}
use Rattle.signatures.specs.Layers.{layered, layered_at}

pub layered_held : (v : View) (l t : List (List ℕ)) → take 4096 l ≡ t → drop 4096 l ≡ drop 4096 v.held → layered (with_held v l) ≡ with_held (layered v) t
layered_held v l t front back = rw (front, back)

-- ---- one of the first places

module _ (v : View) (p : ℕ) (first : p < 4096) where
  place_layered : ltb p v.places ≡ ltb p (min 4096 v.places)
  place_layered = grind (arith, nat_tests)

  layered_set : (b : Bool) (cs : List ℕ) → layered (with_held v (cond b (set v.held p cs) v.held)) ≡ with_held (layered v) (cond b (set (take 4096 v.held) p cs) (take 4096 v.held))
  layered_set true cs =
      layered_held v (set v.held p cs) (set (take 4096 v.held) p cs) (take-set-lt 4096 v.held p cs first) (drop-set-lt 4096 v.held p cs first)
  layered_set false cs = refl

  added_layered : (c : ℕ) → added v p c ≡ added (layered v) p c
  added_layered c = rw (place_layered, layered_at v p first)

  pub add_through : (c : ℕ) {F G : Type 0} {r : Result (Unit {0}) ℕ} {w : View} → Did F r (added v p c) w (after_add v p c) → G → Did G r (added (layered v) p c) (layered w) (after_add (layered v) p c)
  add_through c d fine =
      record {
        fine = fine;
        answer = d.answer ∙ added_layered c;
        view = ap layered d.view ∙ rw (← added_layered c, layered_at v p first) (layered_set (is_ok (added v p c)) (put c (clause v p)));
      }

  pub wipe_through : {F G : Type 0} {r : Result (Unit {0}) ℕ} {w : View} → Did F r (wiped v p) w (after_wipe v p) → G → Did G r (wiped (layered v) p) (layered w) (after_wipe (layered v) p)
  wipe_through d fine = record { fine = fine; answer = d.answer ∙ rw place_layered; view = ap layered d.view ∙ layered_set true [] }

-- ---- past the first places

pub wiped_past : (v : View) (p : ℕ) → 4096 ≤ p → {F : Type 0} → F → Did F (Err 81) (wiped (layered v) p) (layered v) (after_wipe (layered v) p)
wiped_past v p past fine =
    record {
      fine = fine;
      answer = grind (arith, nat_tests);
      view = ap (with_held (layered v)) (sym (set_past (take 4096 v.held) p [] (omega (arith, length-take 4096 v.held))));
    }
