-- The turn of Figure D.5 by its test. Assumes nothing.
use Rattle.std.proofs.Common.{true, false, refl}
use Rattle.signature.proofs.Shift.{tested}
use Rattle.signature.proofs.by_shift.long_turn.Goals as goal

pub returns-then-register-bit : goal.returns-then-register-bit
returns-then-register-bit c = tested 31 _ c.args.register c.args.bit true c.if-register-bit.true refl

pub returns-else-register-bit : goal.returns-else-register-bit
returns-else-register-bit c = tested 31 _ c.args.register c.args.bit false c.if-register-bit.false refl
