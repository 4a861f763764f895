-- The bytes that a literal prints as.
--
--   literal_text   as "3", and as "-3" where it is the opposite
use Rattle.std.specs.Prelude.{ℕ, List, ◌++◌, ◌%◌, ◌==◌, codes, if◌then◌else◌}
use Rattle.std.specs.Fmt.{decimal}
use Rattle.shelf.specs.Literals.{variable}

abbrev pub literal_text : ℕ → List ℕ
literal_text c = (if c % 2 == 0 then codes "" else codes "-") ++ decimal (variable c)
