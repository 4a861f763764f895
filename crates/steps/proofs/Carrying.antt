-- What a resolve leaves in the ledger, read through the meaning of its cells.
use Rattle.std.proofs.Common.{◌≡◌, ℕ, ◌+◌, List, [], ◌∷◌, map, set, refl, ap, ◌∙◌}
use Rattle.std.proofs.lemmas.List.{map-set}
use Rattle.rules.specs.Results.{laid, alike}

module _ {X Y : Type 0} (f : X → Y) where
  pub map_laid : (to : ℕ) (xs ps : List X) → map f (laid to xs ps) ≡ laid to (map f xs) (map f ps)
  unfolding laid
  map_laid to [] ps = refl
  map_laid to (x ∷ xs) ps = map_laid (to + 1) xs (set ps to x) ∙ ap (laid (to + 1) (map f xs)) (map-set f ps to x)

  pub map_alike : (c : X) (d : Y) (rs : List (List ℕ)) → f c ≡ d → map f (alike c rs) ≡ alike d rs
  map_alike c d [] e = refl
  map_alike c d (r ∷ rs) e = ap (λ (y : Y). y ∷ map f (alike c rs)) e ∙ ap (λ (ys : List Y). d ∷ ys) (map_alike c d rs e)

  pub laid_alike : (to : ℕ) (c : X) (d : Y) (rs : List (List ℕ)) (ps : List X) → f c ≡ d → map f (laid to (alike c rs) ps) ≡ laid to (alike d rs) (map f ps)
  laid_alike to c d rs ps e = map_laid to (alike c rs) ps ∙ ap (λ (ys : List Y). laid to ys (map f ps)) (map_alike c d rs e)
