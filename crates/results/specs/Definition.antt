-- A definition as the code holds it, and when its results may be placed.
--
--   definition_of d   the results of the definition, in order
--   Definable v d ls  the variable d may be defined by the literals ls on the shelf:
--                     they rise, d is a variable of the shelf that does not stand
--                     among them, and with one more they are a clause
use Rattle.std.specs.Prelude.{◌≡◌, ℕ, ◌+◌, ◌≤◌, false, List, length}
use Rattle.rules.specs.Results.{defining}
use Rattle.shelf.specs.Literals.{Rising, stands}
use Rattle.shelf.specs.View.{View}
use Rattle.results.specs.declared.definition.Definition.{Definition}

abbrev pub definition_of : Definition → List (List ℕ)
definition_of d = defining d.variable d.literals.items

pub record Definable (v : View) (d : ℕ) (ls : List ℕ) : Type 0 where
  pub rises : Rising v.highest 0 ls
  pub some : 1 ≤ d
  pub known : d ≤ v.highest
  pub new : stands d ls ≡ false
  pub short : length ls + 1 ≤ v.longest
