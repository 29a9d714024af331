-- The table of short.rt meets its contract: the test of its rule passes at each entry. Assumes nothing.
use Rattle.std.proofs.Common.{refl}
use Rattle.signature.specs.Signature.{shift_in, shift_in_all}
use Rattle.signature.specs.Lookup.{division}
use Rattle.signature.proofs.Table.{rule}
use Rattle.signature.proofs.short.U16Register.table.Goals as goal

pub returns : goal.returns
unfolding shift_in shift_in_all division
returns c = rule tt refl
