-- Each goal is given its own calls, and builds on those before: so each is answered from the first
-- call on, and no lemma over all five would be shorter than what it takes.
use Rattle.std.proofs.Common.{ℕ, [], ◌∷◌, ap, ◌∙◌, subst}
use Rattle.std.proofs.lemmas.Result.{err_from_is_err_and}
use Rattle.faults.specs.Faults.{number_of, tier_of}
use Rattle.bench.specs.Meaning.{state_of, Done}
use Rattle.ledger.specs.Meaning.{cells_of}
use Rattle.rules.specs.Filling.{soft_does}
use Rattle.rules.specs.Machine.{opens, gives_soft, seals, shows, claims_cheapest}
use Rattle.rules.specs.Questions.{granted, refused}
use Rattle.piles.specs.Sequence.{one_clause_case}
use Rattle.piles.proofs.Sequences.{ends, stops_here, goes_on, goes_on_shown}
use Rattle.piles.proofs.cases.one_clause.Goals as goal

pub returns-in_err-open : goal.returns-in_err-open
returns-in_err-open g c h =
    let k = g.K.CostKind.kind in
    let xs = c.args.figures.now in
    let view = g.S.Shelf.view in
    let v = view c.args.shelf.now in
    let a₀ = state_of k c.new-bench.result v c.args.ledger.now in
    let start = ap (λ b. one_clause_case k.scale (record { bench = b; shelf = v; ledger = cells_of k c.args.ledger.now }) xs) c.new-bench.ensures in
    let p = err_from_is_err_and c.from_residual.result c.from_residual.ensures.1 in
    let d = c.in_err-open.ensures.did h in
    rw (p.1, p.2) (stops_here k.scale a₀ _ (opens 1) (gives_soft 0 xs (2 ∷ []) ∷ seals ∷ shows (1 ∷ []) ∷ claims_cheapest ∷ []) d ∙ start)

pub returns-in_err-soft : goal.returns-in_err-soft
returns-in_err-soft g c h =
    let k = g.K.CostKind.kind in
    let xs = c.args.figures.now in
    let view = g.S.Shelf.view in
    let v = view c.args.shelf.now in
    let a₀ = state_of k c.new-bench.result v c.args.ledger.now in
    let start = ap (λ b. one_clause_case k.scale (record { bench = b; shelf = v; ledger = cells_of k c.args.ledger.now }) xs) c.new-bench.ensures in
    let d₁ = c.in_ok-open.ensures.did h in
    let a₁ = state_of k c.open.new.self (view c.open.new.shelf) c.open.new.ledger in
    let g₁ = goes_on k.scale a₀ a₁ (opens 1) (gives_soft 0 xs (2 ∷ [])) (seals ∷ shows (1 ∷ []) ∷ claims_cheapest ∷ []) d₁ in
    let F : ℕ → Type 0 = λ n. Done (g.S.Shelf.fine c.soft.new.shelf) (refused (number_of c.in_err-soft.field-0.0) (tier_of c.in_err-soft.field-0.0)) (state_of k c.soft.new.self (view c.soft.new.shelf) c.soft.new.ledger) (soft_does k.scale a₁ 0 xs (n ∷ [])) in
    let d₂ = subst F c.of.ensures (c.in_err-soft.ensures.did d₁.fine) in
    let a₂ = state_of k c.soft.new.self (view c.soft.new.shelf) c.soft.new.ledger in
    let p = err_from_is_err_and c.from_residual-in_err-soft.result c.from_residual-in_err-soft.ensures.1 in
    rw (p.1, p.2) (stops_here k.scale a₁ a₂ (gives_soft 0 xs (2 ∷ [])) (seals ∷ shows (1 ∷ []) ∷ claims_cheapest ∷ []) d₂ ∙ g₁ ∙ start)

pub returns-in_err-seal : goal.returns-in_err-seal
returns-in_err-seal g c h =
    let k = g.K.CostKind.kind in
    let xs = c.args.figures.now in
    let view = g.S.Shelf.view in
    let v = view c.args.shelf.now in
    let a₀ = state_of k c.new-bench.result v c.args.ledger.now in
    let start = ap (λ b. one_clause_case k.scale (record { bench = b; shelf = v; ledger = cells_of k c.args.ledger.now }) xs) c.new-bench.ensures in
    let d₁ = c.in_ok-open.ensures.did h in
    let a₁ = state_of k c.open.new.self (view c.open.new.shelf) c.open.new.ledger in
    let g₁ = goes_on k.scale a₀ a₁ (opens 1) (gives_soft 0 xs (2 ∷ [])) (seals ∷ shows (1 ∷ []) ∷ claims_cheapest ∷ []) d₁ in
    let F : ℕ → Type 0 = λ n. Done (g.S.Shelf.fine c.soft.new.shelf) granted (state_of k c.soft.new.self (view c.soft.new.shelf) c.soft.new.ledger) (soft_does k.scale a₁ 0 xs (n ∷ [])) in
    let d₂ = subst F c.of.ensures (c.in_ok-soft.ensures.did d₁.fine) in
    let a₂ = state_of k c.soft.new.self (view c.soft.new.shelf) c.soft.new.ledger in
    let g₂ = goes_on k.scale a₁ a₂ (gives_soft 0 xs (2 ∷ [])) seals (shows (1 ∷ []) ∷ claims_cheapest ∷ []) d₂ in
    let p = err_from_is_err_and c.from_residual-in_err-seal.result c.from_residual-in_err-seal.ensures.1 in
    let d = c.in_err-seal.ensures.did d₂.fine in
    rw (p.1, p.2) (stops_here k.scale a₂ _ seals (shows (1 ∷ []) ∷ claims_cheapest ∷ []) d ∙ g₂ ∙ g₁ ∙ start)

pub returns-in_err-show : goal.returns-in_err-show
returns-in_err-show g c h =
    let k = g.K.CostKind.kind in
    let xs = c.args.figures.now in
    let view = g.S.Shelf.view in
    let v = view c.args.shelf.now in
    let a₀ = state_of k c.new-bench.result v c.args.ledger.now in
    let start = ap (λ b. one_clause_case k.scale (record { bench = b; shelf = v; ledger = cells_of k c.args.ledger.now }) xs) c.new-bench.ensures in
    let d₁ = c.in_ok-open.ensures.did h in
    let a₁ = state_of k c.open.new.self (view c.open.new.shelf) c.open.new.ledger in
    let g₁ = goes_on k.scale a₀ a₁ (opens 1) (gives_soft 0 xs (2 ∷ [])) (seals ∷ shows (1 ∷ []) ∷ claims_cheapest ∷ []) d₁ in
    let F : ℕ → Type 0 = λ n. Done (g.S.Shelf.fine c.soft.new.shelf) granted (state_of k c.soft.new.self (view c.soft.new.shelf) c.soft.new.ledger) (soft_does k.scale a₁ 0 xs (n ∷ [])) in
    let d₂ = subst F c.of.ensures (c.in_ok-soft.ensures.did d₁.fine) in
    let a₂ = state_of k c.soft.new.self (view c.soft.new.shelf) c.soft.new.ledger in
    let g₂ = goes_on k.scale a₁ a₂ (gives_soft 0 xs (2 ∷ [])) seals (shows (1 ∷ []) ∷ claims_cheapest ∷ []) d₂ in
    let d₃ = c.in_ok-seal.ensures.did d₂.fine in
    let a₃ = state_of k c.seal.new.self (view c.soft.new.shelf) c.soft.new.ledger in
    let g₃ = goes_on k.scale a₂ a₃ seals (shows (1 ∷ [])) (claims_cheapest ∷ []) d₃ in
    let p = err_from_is_err_and c.from_residual-in_err-show.result c.from_residual-in_err-show.ensures.1 in
    let d = c.in_err-show.ensures.did d₂.fine in
    rw (p.1, p.2) (stops_here k.scale a₃ _ (shows (1 ∷ [])) (claims_cheapest ∷ []) d ∙ g₃ ∙ g₂ ∙ g₁ ∙ start)

pub returns : goal.returns
returns g c h =
    let k = g.K.CostKind.kind in
    let xs = c.args.figures.now in
    let view = g.S.Shelf.view in
    let v = view c.args.shelf.now in
    let a₀ = state_of k c.new-bench.result v c.args.ledger.now in
    let start = ap (λ b. one_clause_case k.scale (record { bench = b; shelf = v; ledger = cells_of k c.args.ledger.now }) xs) c.new-bench.ensures in
    let d₁ = c.in_ok-open.ensures.did h in
    let a₁ = state_of k c.open.new.self (view c.open.new.shelf) c.open.new.ledger in
    let g₁ = goes_on k.scale a₀ a₁ (opens 1) (gives_soft 0 xs (2 ∷ [])) (seals ∷ shows (1 ∷ []) ∷ claims_cheapest ∷ []) d₁ in
    let F : ℕ → Type 0 = λ n. Done (g.S.Shelf.fine c.soft.new.shelf) granted (state_of k c.soft.new.self (view c.soft.new.shelf) c.soft.new.ledger) (soft_does k.scale a₁ 0 xs (n ∷ [])) in
    let d₂ = subst F c.of.ensures (c.in_ok-soft.ensures.did d₁.fine) in
    let a₂ = state_of k c.soft.new.self (view c.soft.new.shelf) c.soft.new.ledger in
    let g₂ = goes_on k.scale a₁ a₂ (gives_soft 0 xs (2 ∷ [])) seals (shows (1 ∷ []) ∷ claims_cheapest ∷ []) d₂ in
    let d₃ = c.in_ok-seal.ensures.did d₂.fine in
    let a₃ = state_of k c.seal.new.self (view c.soft.new.shelf) c.soft.new.ledger in
    let g₃ = goes_on k.scale a₂ a₃ seals (shows (1 ∷ [])) (claims_cheapest ∷ []) d₃ in
    let d₄ = c.in_ok-show.ensures.did d₂.fine in
    let a₄ = state_of k c.show.new.self (view c.soft.new.shelf) c.soft.new.ledger in
    let g₄ = goes_on_shown k.scale a₃ a₄ (shows (1 ∷ [])) claims_cheapest [] _ _ d₄ in
    let d₅ = c.cheapest.ensures.did d₂.fine in
    ends k.scale a₄ _ claims_cheapest d₅ ∙ g₄ ∙ g₃ ∙ g₂ ∙ g₁ ∙ start
