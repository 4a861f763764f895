-- A new layer: the places that it covers are free, and those past them are kept.
use Rattle.std.proofs.Common.{◌≡◌, ℕ, min, List, [], ◌++◌, length, get_or, take, drop, replicate, sym, ap, ◌∙◌, arith}
use Rattle.std.proofs.lemmas.List.{get_or-replicate, places, same_lists}
use Rattle.shelf.specs.View.{View, Sound, clause, emptied, emptied_below}
use Rattle.signatures.specs.Layers.{layered}
use Rattle.signatures.specs.Signing.{Signed, blank}
use Rattle.signatures.proofs.Layering.{layered_held}
use Rattle.signatures.proofs.Remainders.{signs_none}

-- a list whose first n elements, or all of fewer, are written over

module _ {A : Type 0} (d : A) (n m : ℕ) (xs : List A) (e : m ≡ min n (length xs)) where
  written_front : take n (replicate m d ++ drop n xs) ≡ replicate m d
  written_front = same_lists _ _ (grind (arith, places)) (λ k x h. grind (arith, places))

  written_back : drop n (replicate m d ++ drop n xs) ≡ drop n xs
  written_back = same_lists _ _ (grind (arith, places)) (λ k x h. grind (arith, places))

pub layered_emptied : {v w : View} → Sound v → w ≡ emptied_below 4096 v → layered w ≡ emptied (layered v)
layered_emptied {v = v} s e =
    let n = min 4096 v.places in
    let m = ap (min 4096) (sym s.count) in
    ap layered e ∙ layered_held v (replicate n [] ++ drop 4096 v.held) (replicate n []) (written_front [] 4096 n v.held m) (written_back [] 4096 n v.held m)

pub signed_emptied : (v : View) {w : View} {ws : List ℕ} → w ≡ emptied_below 4096 v → ws ≡ blank → Signed w ws
signed_emptied v e f p h =
    let free : clause (emptied_below 4096 v) p ≡ [] = grind (arith, places) in
    rw (e, f, free) (signs_none (get_or blank p 0) (get_or-replicate 4096 p 0 0 (omega arith)))
