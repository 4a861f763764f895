-- No call changes a shelf's measures or its remainder: a refused one changes nothing,
-- and a granted one only what is held.
use Rattle.std.proofs.Common.{◌≡◌, Bool, true, false, cond, refl}
use Rattle.shelf.specs.Literals.{none}
use Rattle.shelf.specs.View.{with_held}
use Rattle.cost.specs.Reach.{Scale}
use Rattle.rules.specs.Case.{State}
use Rattle.rules.specs.Filling.{open_does, hard_does, soft_does, seal_does}
use Rattle.rules.specs.Showing.{show_does}
use Rattle.rules.specs.Steps.{split_does, join_does, resolve_does, define_does, harden_does}
use Rattle.rules.specs.Claims.{cheapest_does, impossible_does}
use Rattle.rules.specs.Questions.{Verdict, passes, stops, Outcome, outcome}
use Rattle.rules.specs.Machine.{Call, opens, gives_hard, gives_soft, seals, shows, splits, joins, resolves, defines, hardens, claims_cheapest, claims_impossible, does}

abbrev Framed : State → State → Type 0
Framed s t = t.shelf ≡ with_held s.shelf t.shelf.held

either : (v : Verdict) (s : State) (o : Outcome) → Framed s o.after → Framed s (outcome v s o).after
either passes s o h = h
either (stops q t) s o h = refl

chosen : (b : Bool) (s t u : State) → Framed s t → Framed s u → Framed s (cond b t u)
chosen true s t u h g = h
chosen false s t u h g = g

pub only_held : (k : Scale) (s : State) (c : Call) → Framed s (does k s c).after
unfolding open_does hard_does soft_does seal_does show_does split_does join_does resolve_does define_does harden_does cheapest_does impossible_does
only_held k s (opens n) = either _ s _ refl
only_held k s (gives_hard p cs) = either _ s _ (chosen (none cs) s _ _ refl refl)
only_held k s (gives_soft p xs cs) = either _ s _ (chosen (none cs) s _ _ refl refl)
only_held k s seals = either _ s _ refl
only_held k s (shows x) = either _ s _ refl
only_held k s (splits p x to) = either _ s _ refl
only_held k s (joins i j) = either _ s _ refl
only_held k s (resolves i j x to) = either _ s _ refl
only_held k s (defines to ls) = either _ s _ refl
only_held k s (hardens i) = either _ s _ refl
only_held k s claims_cheapest = either _ s _ refl
only_held k s claims_impossible = either _ s _ refl
