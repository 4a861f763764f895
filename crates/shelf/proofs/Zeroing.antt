-- The first u words of a slice, written over by zeros: those are zeros then, the rest and
-- the length stay.
use Rattle.std.proofs.Common.{◌≡◌, ℕ, ◌≤◌, List, ◌++◌, length, take, drop, replicate, ap, ◌∙◌, arith}
use Rattle.std.proofs.lemmas.List.{length-append, length-drop, length-replicate, length-take-le, take_at, drop_at}

module _ (u : ℕ) (ws ys : List ℕ) (fit : u ≤ length ws) (zeros : ys ≡ replicate (length (take u ws)) 0) where
  ys_zeros : ys ≡ replicate u 0
  ys_zeros = zeros ∙ ap (λ (n : ℕ). replicate n 0) (length-take-le u ws fit)

  ys_length : length ys ≡ u
  ys_length = ap length ys_zeros ∙ length-replicate u 0

  pub fresh_cleared : take u (ys ++ drop u ws) ≡ replicate u 0
  fresh_cleared = take_at ys (drop u ws) u ys_length ∙ ys_zeros

  pub fresh_spare : drop u (ys ++ drop u ws) ≡ drop u ws
  fresh_spare = drop_at ys (drop u ws) u ys_length

  pub fresh_length : length (ys ++ drop u ws) ≡ length ws
  fresh_length = let l = ys_length in simp (length-append, length-drop) (omega arith)
