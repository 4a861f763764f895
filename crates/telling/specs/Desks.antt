-- What the calls of a desk do, in the rules' words.
--
--   state_of     the state that a desk holds: its bench, what its shelf means, and its ledger
--   Made         a desk as it is made: no case yet, with this shelf and this ledger
--   Left         what a call leaves: the shelf in order, and the state of an outcome
--   Does         a call on a desk whose shelf is in order: the shelf is in order after it,
--                and the state is what the rules leave
use Rattle.std.specs.Prelude.{◌≡◌, List}
use Rattle.bench.specs.Meaning.{state_at}
use Rattle.cost.specs.Models.{slots_kind}
use Rattle.cost.specs.declared.amounts.SlotsRow.{SlotsRow}
use Rattle.ledger.specs.Meaning.{cells_of}
use Rattle.ledger.specs.declared.cell.Cell.{Cell}
use Rattle.rules.specs.Case.{State}
use Rattle.rules.specs.Machine.{Call, does, new}
use Rattle.shelf.specs.View.{View}
use Rattle.telling.specs.declared.desk.Desk.{Desk}

abbrev pub state_of : {S : Type 0} → (S → View) → Desk S → State
state_of view d = state_at slots_kind view d.bench d.shelf d.ledger.now

pub record Made {S : Type 0} (view : S → View) (d : Desk S) (shelf : S) (ledger : List (Cell SlotsRow)) : Type 0 where
  pub keeps : d.shelf ≡ shelf
  pub begins : state_of view d ≡ new slots_kind.scale (view shelf) (cells_of slots_kind ledger)

pub record Left {S : Type 0} (fine : S → Type 0) (view : S → View) (before after : Desk S) (call : Call) : Type 0 where
  pub ordered : fine after.shelf
  pub left : state_of view after ≡ (does slots_kind.scale (state_of view before) call).after

abbrev pub Does : {S : Type 0} → (S → Type 0) → (S → View) → Desk S → Desk S → Call → Type 0
Does fine view before after call = fine before.shelf → Left fine view before after call
