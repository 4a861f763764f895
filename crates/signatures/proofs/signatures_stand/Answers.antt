use Rattle.signatures.proofs.Remainders.{bit_tells_remainder, one_signature, free_is_zero}
use Rattle.signatures.proofs.signatures_stand.Goals as goal

pub returns : goal.returns
returns c = record { tells = bit_tells_remainder; one = one_signature; free = free_is_zero }
