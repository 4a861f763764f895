-- What changes only what is held, call by call.
use Rattle.std.proofs.Common.{ℕ, List, Result, sym, ap, ◌∙◌}
use Rattle.shelf.specs.Answers.{Did, Became, added, after_add, after_adds}
use Rattle.shelf.specs.View.{View, with_held}
use Rattle.shelf.proofs.Writing.{adds_frame}
use Rattle.results.specs.Placing.{Framed}

pub framed_add : {f : Type 0} {r : Result (Unit {0}) ℕ} {w : View} (v : View) (p c : ℕ) → Did f r (added v p c) w (after_add v p c) → Framed f v w
framed_add v p c d = record { fine = d.fine; view = d.view ∙ ap (λ (x : View). with_held v x.held) (sym d.view) }

pub framed_adds : {f : Type 0} {w : View} (v : View) (p : ℕ) (cs : List ℕ) → Became f w (after_adds v p cs) → Framed f v w
framed_adds v p cs d = record { fine = d.fine; view = d.view ∙ adds_frame v p cs ∙ ap (λ (x : View). with_held v x.held) (sym d.view) }

-- one call after another
pub framed_then : {f f' : Type 0} (u v w : View) → Framed f u v → Framed f' v w → Framed f' u w
framed_then u v w a b = record { fine = b.fine; view = b.view ∙ ap (λ (x : View). with_held x w.held) a.view }
