use Rattle.std.proofs.Common.{◌≡◌, false, [], ◌∷◌, length, sym, refl, ap, ◌∙◌, arith}
use Rattle.std.proofs.lemmas.Bool.{or_from, or_left, or_right}
use Rattle.shelf.specs.Literals.{none}
use Rattle.rules.specs.Clauses.{vanishes}
use Rattle.rules.specs.Results.{kept}
use Rattle.results.specs.Placing.{Placeable}
use Rattle.results.specs.Spread.{Spread}
use Rattle.results.proofs.Framing.{framed_adds}
use Rattle.results.proofs.Laying.{kept_none, kept_one, none_length, skipped, taken, writable, there}
use Rattle.results.proofs.placing.place_one.Goals as goal
use Rattle.results.proofs.placing.place_one.Goals.{then-is_empty-via-then-is_empty, then-is_empty-via-else-is_empty+then-clashes, then-is_empty-via-else-is_empty+else-clashes+then-place-place_count}

pub returns-then-is_empty : goal.returns-then-is_empty
returns-then-is_empty g c =
    let r = c.args.codes.now in
    let v = g.S.Shelf.view c.args.shelf.now in
    -- it is empty or vanishes, since past the last place there is no room
    let kept_not : g.S.Shelf.fine c.args.shelf.now → Spread v.highest 2 r → Placeable v c.args.place (r ∷ []) → kept (r ∷ []) ≡ [] = λ h s a.
    elim c.then-is_empty.branch [
      | then-is_empty-via-then-is_empty w ↦ kept_none r (or_right (vanishes r) (none r) (sym (none_length r) ∙ sym c.is_empty.ensures ∙ w.if-is_empty.true))
      | then-is_empty-via-else-is_empty+then-clashes w ↦ kept_none r (or_left (vanishes r) (none r) (sym (w.clashes.ensures _ s) ∙ w.if-clashes.true))
      | then-is_empty-via-else-is_empty+else-clashes+then-place-place_count w ↦
          let e : vanishes r ≡ false = sym (w.clashes.ensures _ s) ∙ w.if-clashes.false in
          let k = kept_one r (or_from (vanishes r) (none r) e (sym (none_length r) ∙ sym c.is_empty.ensures ∙ w.if-is_empty.false)) in
          let n = w.place_count.ensures.is h in
          let l = there v c.args.place (writable s a e k).is_vacant in
          absurd (omega arith)
    ] in
    record {
      next = λ h s a. omega (arith, ap length (kept_not h s a));
      did = λ h s a. skipped v c.args.place r c.args.m c.args.cells.now (kept_not h s a) h;
      framed = λ h. record { fine = h; view = refl };
    }

pub returns : goal.returns
returns g c =
    let r = c.args.codes.now in
    let v = g.S.Shelf.view c.args.shelf.now in
    let clean : Spread v.highest 2 r → vanishes r ≡ false = λ s. sym (c.clashes.ensures _ s) ∙ c.if-clashes.false in
    let kept_so : Spread v.highest 2 r → kept (r ∷ []) ≡ r ∷ [] = λ s. kept_one r (or_from (vanishes r) (none r) (clean s) (sym (none_length r) ∙ sym c.is_empty.ensures ∙ c.if-is_empty.false)) in
    record {
      next = λ h s a. omega (arith, ap length (kept_so s));
      did = λ h s a. taken v c.args.place r c.args.m c.args.cells.now (kept_so s) (c.write_codes.ensures.did h).fine (c.write_codes.ensures.whole h (writable s a (clean s) (kept_so s))) c.put_cell.ensures;
      framed = λ h. framed_adds v c.args.place r (c.write_codes.ensures.did h);
    }
