-- `signature::by_shift::step_by_shift` meets its contract: the loop's laws are `Turning`'s. Assumes nothing.
use Rattle.std.proofs.Common.{rules}
use Rattle.signature.proofs.Shift.{first_turn, turned, last_turn}
use Rattle.signature.proofs.by_shift.step_by_shift.Goals as goal

pub loop-init : goal.loop-init
loop-init g c = first_turn

pub loop-preserved : goal.loop-preserved
loop-preserved g c = turned c.turn-register.ensures c.loop.invariant (search rules)

pub returns : goal.returns
returns g c = last_turn c.loop.invariant (search rules)
