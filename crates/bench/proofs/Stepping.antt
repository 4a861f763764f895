-- A step on the bench: what every step is asked first, then its own questions; and the
-- state that each leaves, from the parts that the code wrote.
use Rattle.std.proofs.Common.{◌≡◌, ℕ, ◌+◌, Bool, not, ◌&&◌, ◌||◌, List, ◌++◌, set, ℤ, refl, ap, ◌∙◌, ap₂}
use Rattle.shelf.specs.View.{View}
use Rattle.cost.specs.Figures.{zeros}
use Rattle.cost.specs.Reach.{Scale}
use Rattle.faults.specs.declared.fault.Fault.{Fault}
use Rattle.faults.specs.Faults.{number_of, tier_of}
use Rattle.ledger.specs.Dues.{Dues, dues}
use Rattle.results.specs.Placing.{after_placing}
use Rattle.rules.specs.Case.{Case, State, working, with_phase}
use Rattle.rules.specs.Cells.{Cell, soft, is_hard, amounts_to_nothing, joined}
use Rattle.rules.specs.Questions.{Question, passes, stops, first_no, granted, refused, Outcome, outcome, grants}
use Rattle.rules.specs.Results.{kept, has_empty, laid, alike}
use Rattle.rules.specs.Steps.{step_fits, worked, freed_if, cell_in, results_at, one_more, split_done, split_does, join_done, join_does, resolve_done, resolve_does, define_done, define_does, harden_done, harden_does}
use Rattle.results.specs.Resolving.{resolvents_at}
use Rattle.steps.proofs.Resolved.{same_results}
use Rattle.steps.proofs.Verdicts.{stop_early, go_on}
use Rattle.steps.specs.Asked.{left_view, left_cells}
use Rattle.steps.specs.Asks.{split_asks, join_asks, resolve_asks, define_asks, harden_asks}
use Rattle.bench.specs.Meaning.{Done}
use Rattle.bench.proofs.Doing.{refusing, granting, same_state}

-- o is what a step does that asks qs, after what every step is asked first, and leaves u
pub record Step (s : State) (qs : List Question) (u : State) (o : Outcome) : Type 0 where
  is : o ≡ outcome (first_no (step_fits s ++ qs)) s (grants u)

module _ {F : Type 0} (f : F) {s : State} {qs : List Question} {u : State} {o : Outcome} (step : Step s qs u o) where
  pub refused_first : (e : Fault) → stops (number_of e) (tier_of e) ≡ first_no (step_fits s) → Done F (refused (number_of e) (tier_of e)) s o
  refused_first e h = rw step.is (refusing f s (step_fits s ++ qs) (grants u) e (stop_early (step_fits s) qs (number_of e) (tier_of e) h))

  module _ (h₁ : passes ≡ first_no (step_fits s)) where
    pub refused_then : (e : Fault) → stops (number_of e) (tier_of e) ≡ first_no qs → Done F (refused (number_of e) (tier_of e)) s o
    refused_then e h = rw step.is (refusing f s (step_fits s ++ qs) (grants u) e (h ∙ go_on (step_fits s) qs h₁))

    pub step_granted : {t : State} → passes ≡ first_no qs → t ≡ u → Done F granted t o
    step_granted h e = rw step.is (granting f s (step_fits s ++ qs) (grants u) (h ∙ go_on (step_fits s) qs h₁) refl e)

-- the five steps
pub split_step : (k : Scale) (s : State) (p x to : ℕ) → Step s (split_asks s.shelf s.bench.current p x to) (worked (split_done k s p x to)) (split_does k s p x to)
unfolding split_does
split_step k s p x to = record { is = refl }

pub join_step : (k : Scale) (s : State) (i j : ℕ) → Step s (join_asks k s.shelf (cell_in k s i) (cell_in k s j) i j) (worked (join_done k s i j)) (join_does k s i j)
unfolding join_does
join_step k s i j = record { is = refl }

pub resolve_step : (k : Scale) (s : State) (i j x to : ℕ) → Step s (resolve_asks k s.shelf (cell_in k s i) (cell_in k s j) s.bench.proved i j x to) (worked (resolve_done k s i j x to)) (resolve_does k s i j x to)
unfolding resolve_does
resolve_step k s i j x to = record { is = refl }

pub define_step : (k : Scale) (s : State) (to : ℕ) (ls : List ℕ) → Step s (define_asks s.shelf s.bench.current to ls) (worked (define_done s to ls)) (define_does k s to ls)
unfolding define_does
define_step k s to ls = record { is = refl }

pub harden_step : (k : Scale) (s : State) (i : ℕ) → Step s (harden_asks s.shelf (cell_in k s i) s.bench.proved s.bench.shown i) (worked (harden_done s i)) (harden_does k s i)
unfolding harden_does
harden_step k s i = record { is = refl }

-- what is left of a join
pub joined_state : (k : Scale) (s : State) (i j : ℕ) (c : Cell) (v : View) (l : List Cell) → c ≡ joined (cell_in k s i) (cell_in k s j)
    → v ≡ left_view k.tiers s.shelf i j c (soft (zeros k.tiers)) → l ≡ left_cells s.ledger i j c (soft (zeros k.tiers))
    → ◌≡◌ {A = State} (record { bench = (worked s).bench; shelf = v; ledger = l }) (worked (join_done k s i j))
joined_state k s i j c v l e p q =
    same_state refl (p ∙ ap (λ (z : Cell). left_view k.tiers s.shelf i j z (soft (zeros k.tiers))) e) (q ∙ ap (λ (z : Cell). left_cells s.ledger i j z (soft (zeros k.tiers))) e)

-- the case once a variable has been defined
pub defined_case : (b : Case) {d : ℕ} → d ≡ b.current + 1 → ◌≡◌ {A = Case} (record { phase = working; n = b.n; current = d; total = b.total; proved = b.proved; impossible = b.impossible; shown = b.shown }) (with_phase (one_more b) working)
defined_case b e = cc

-- what is left of a resolve
module _ (k : Scale) (s : State) (i j x to : ℕ) where
  abbrev rest : Cell → Cell → Cell → List (List ℕ) → List Cell
  rest m a b rs = set (set (laid to (alike m (kept rs)) s.ledger) i a) j b

  abbrev shown_by : Cell → Cell → List (List ℕ) → View
  shown_by a b rs = freed_if (amounts_to_nothing k.tiers b) (freed_if (amounts_to_nothing k.tiers a) (after_placing s.shelf to rs) i) j

  abbrev bench_by : Bool → List ℤ → Case
  bench_by e z = record { phase = working; n = s.bench.n; current = s.bench.current; total = s.bench.total; proved = z; impossible = e; shown = s.bench.shown }

  pub resolved_state : (d : Dues) (wi wj mark : Bool) (v : View) (l : List Cell)
      → d ≡ dues (has_empty (results_at k s i j x)) (cell_in k s i) (cell_in k s j) s.bench.proved
      → wi ≡ not (is_hard (cell_in k s i)) → wj ≡ not (is_hard (cell_in k s j))
      → mark ≡ (s.bench.impossible || (has_empty (results_at k s i j x) && is_hard d.common))
      → v ≡ shown_by d.left_at_i d.left_at_j (resolvents_at s.shelf i j x wi wj)
      → l ≡ rest d.common d.left_at_i d.left_at_j (resolvents_at s.shelf i j x wi wj)
      → ◌≡◌ {A = State} (record { bench = bench_by mark d.proved; shelf = v; ledger = l }) (worked (resolve_done k s i j x to))
  resolved_state d wi wj mark v l e p q m h r =
      let rs = same_results s.shelf i j x p q in
      let D = dues (has_empty (results_at k s i j x)) (cell_in k s i) (cell_in k s j) s.bench.proved in
      same_state
      (ap₂ bench_by (m ∙ ap (λ (y : Dues). s.bench.impossible || (has_empty (results_at k s i j x) && is_hard y.common)) e) (ap (λ (y : Dues). y.proved) e))
      (h ∙ ap (λ (y : Dues). shown_by y.left_at_i y.left_at_j (resolvents_at s.shelf i j x wi wj)) e ∙ ap (shown_by D.left_at_i D.left_at_j) rs)
      (r ∙ ap (λ (y : Dues). rest y.common y.left_at_i y.left_at_j (resolvents_at s.shelf i j x wi wj)) e ∙ ap (rest D.common D.left_at_i D.left_at_j) rs)
