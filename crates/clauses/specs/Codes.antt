-- Clauses as the code is given them.
--
--   codes   the codes of a list of literals
use Rattle.std.specs.Prelude.{ℕ, List, map}
use Rattle.shelf.specs.declared.literal.Literal.{Literal}

abbrev pub codes : List Literal → List ℕ
codes ls = map (λ l. l.code) ls
