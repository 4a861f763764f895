-- A clause whose first literal is turned into its opposite: what a compensation adds
-- to a parent.
--
--   turned bs   bs with its first literal turned
use Rattle.std.specs.Prelude.{ℕ, List, [], ◌∷◌}
use Rattle.shelf.specs.Literals.{opposite}

unfoldable pub turned : List ℕ → List ℕ
turned [] = []
turned (b ∷ bs) = opposite b ∷ bs
