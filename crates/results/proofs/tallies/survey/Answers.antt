use Rattle.std.proofs.Common.{◌≡◌, ◌<◌, List, ℕ, [], length, get_or, sym, ◌∙◌, ap, subst, arith}
use Rattle.std.proofs.lemmas.List.{take_more, take_all}
use Rattle.results.specs.Counting.{tally_of, tally_one}
use Rattle.results.specs.Spread.{Spread}
use Rattle.results.proofs.Tallying.{tally_more, tally_none}
use Rattle.results.proofs.tallies.survey.Goals as goal

pub loop-t-init : goal.loop-t-init
loop-t-init g c = (omega arith, λ top a. sym (tally_none c.args.longest))

pub loop-t-preserved : goal.loop-t-preserved
loop-t-preserved g c =
    let rs = g.R.Listed.listed c.args.rs.now in
    let t = c.loop-t.t in
    let r = get_or rs t [] in
    let i = c.loop-t.invariant in
    let n = c.note.ensures in
    let l : t < length rs = omega arith in
    let e : c.deref.result.now ≡ r = c.deref.ensures.0 ∙ c.result.ensures in (
      omega arith,
      λ top a. rw (take_more rs t [] l) (
          n.is top (subst (Spread top 2) (sym e) (a t [] l)) ∙ ap (λ (x : List ℕ). tally_one c.args.longest x c.loop-t.tally) e ∙ ap (tally_one c.args.longest r) (i.1 top a)
          ∙ tally_more c.args.longest _ r),
    )

pub returns-clause-is : goal.returns-clause-is
returns-clause-is g c top a = c.loop-t.invariant.1 top a ∙ ap (tally_of c.args.longest) (take_all c.loop-t.t (g.R.Listed.listed c.args.rs.now) (omega arith))
