-- Places that lie one after another in n words, each with w of them.
--
--   Starts P w n p a        the place p is one of P, begins at the word a, and its
--                           words end within the n
--   StartsNowhere P w n p   there is no such word
use Rattle.std.specs.Prelude.{◌≡◌, ℕ, ◌+◌, ◌*◌, ◌<◌, ◌≤◌}

pub record Starts (P w n p a : ℕ) : Type 0 where
  pub place : p < P
  pub at : a ≡ p * w
  pub room : a + w ≤ n

abbrev pub StartsNowhere : ℕ → ℕ → ℕ → ℕ → Type 0
StartsNowhere P w n p = (a : ℕ) → Starts P w n p a → ⊥
