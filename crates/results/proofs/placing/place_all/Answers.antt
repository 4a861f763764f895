use Rattle.std.proofs.Common.{◌≡◌, ◌+◌, ◌<◌, [], ◌∷◌, ◌++◌, length, get_or, take, drop, sym, refl, ap, ◌∙◌, subst, arith}
use Rattle.std.proofs.lemmas.List.{take_more, take_all, take-append-drop, drop_more}
use Rattle.rules.specs.Results.{kept, laid}
use Rattle.results.specs.Placing.{Placeable}
use Rattle.results.specs.Spread.{Spread}
use Rattle.results.proofs.Framing.{framed_then}
use Rattle.results.proofs.Laying.{placeable_next, place_more, laid_more}
use Rattle.results.proofs.placing.place_all.Goals as goal

pub loop-t-init : goal.loop-t-init
unfolding kept laid
loop-t-init g c h = (record { fine = h; view = refl }, λ s a. (omega arith, record { fine = h; view = refl; cells = refl }))

pub loop-t-preserved : goal.loop-t-preserved
loop-t-preserved g c h =
    let v = g.S.Shelf.view c.args.shelf.now in
    let rs = g.R.Listed.listed c.args.rs.now in
    let t = c.loop-t.t in
    let i = c.loop-t.invariant h in
    let w = g.S.Shelf.view c.loop-t.shelf in
    let w' = g.S.Shelf.view c.place_one-place.new.shelf in (
      framed_then v w w' i.0 (c.place_one-place.ensures.framed i.0.fine),
      λ s a.
          let l : t < length rs = omega arith in
          let r = get_or rs t [] in
          let e : c.deref.result.now ≡ r = c.deref.ensures.0 ∙ c.result.ensures in
          let j = i.1 s a in
          let parts : rs ≡ take t rs ++ r ∷ drop (t + 1) rs = sym (take-append-drop t rs) ∙ ap (λ zs. take t rs ++ zs) (drop_more rs t [] l) in
          let spread : Spread w.highest 2 r = rw j.1.view (s t [] l) in
          let may : Placeable w c.loop-t.place (r ∷ []) = rw (j.0, j.1.view) (placeable_next v c.args.to (take t rs) r (drop (t + 1) rs) (subst (Placeable v c.args.to) parts a)) in
          let next = rw e at (c.place_one-place.ensures.next i.0.fine) in
          let did = rw e at (c.place_one-place.ensures.did i.0.fine) in
          rw (take_more rs t [] l) (place_more c.args.to (take t rs) r j.0 (next spread may), laid_more v c.args.to (take t rs) r c.args.m c.args.cells.now j.0 j.1 (did spread may)),
    )

pub returns : goal.returns
returns g c =
    let rs = g.R.Listed.listed c.args.rs.now in
    record {
      did = λ h s a. rw (take_all c.loop-t.t rs (omega arith)) at ((c.loop-t.invariant h).1 s a).1;
      framed = λ h. (c.loop-t.invariant h).0;
    }
