use Rattle.rows.proofs.Writings.{free_is_zero, one_writing}
use Rattle.rows.proofs.rows_stand.Goals as goal

pub returns : goal.returns
returns c = record { free = free_is_zero; same = one_writing }
