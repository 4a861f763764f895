-- What a layer of signatures makes of the shelf below it, of which `fine` says
-- that it is in order and `view` what it means.
--
--   layered v          the view v with its first 4,096 places at most; those past
--                      them go to the remainder, before what else is kept below
--   InOrder fine view s   what the layer s keeps: the shelf below is in order,
--                      and the words are the signatures of what stands there
--   meaning view s     what the layer s means
--   layered_at         the layer's clause at a place is the clause below
--   layered_past       past 4,096 places there is none
--   sound_layered      the layer's view is sound where the view below is
use Rattle.std.specs.Prelude.{◌≡◌, ℕ, ◌<◌, ◌≤◌, min, [], ◌++◌, take, drop}
use Rattle.std.proofs.Common.{sym, ◌∙◌, ap, subst, arith}
use Rattle.std.proofs.lemmas.List.{length-take, get_or-take, get_or_past}
use Rattle.shelf.specs.View.{View, Clause, Sound, clause}
use Rattle.signatures.specs.declared.SignatureLayer.{SignatureLayer}
use Rattle.signatures.specs.Signing.{Signed}

abbrev pub layered : View → View
layered v =
    record {
      places = min 4096 v.places;
      highest = v.highest;
      longest = v.longest;
      held = take 4096 v.held;
      remainder = drop 4096 v.held ++ v.remainder;
    }

pub record InOrder {S : Type 0} (fine : S → Type 0) (view : S → View) (s : SignatureLayer S) : Type 0 where
  pub below : fine s.below
  pub signed : Signed (view s.below) s.signatures.bits

abbrev pub meaning : {S : Type 0} → (S → View) → SignatureLayer S → View
meaning view s = layered (view s.below)

pub layered_at : (v : View) (p : ℕ) → p < 4096 → clause (layered v) p ≡ clause v p
layered_at v p h = get_or-take 4096 v.held p [] h

pub layered_past : (v : View) (p : ℕ) → 4096 ≤ p → clause (layered v) p ≡ []
layered_past v p h = let l = length-take 4096 v.held in get_or_past (take 4096 v.held) p [] (omega arith)

pub sound_layered : (v : View) → Sound v → Sound (layered v)
sound_layered v s =
    record {
      count = length-take 4096 v.held ∙ ap (min 4096) s.count;
      places_few = omega (arith, s.places_few);
      highest_low = s.highest_low;
      highest_high = s.highest_high;
      longest_low = s.longest_low;
      longest_high = s.longest_high;
      clauses = λ p h. subst (Clause v.highest v.longest) (sym (layered_at v p (omega arith))) (s.clauses p (omega arith));
    }
