-- The loop's laws are `Turning`'s.
use Rattle.std.proofs.Common.{◌+◌}
use Rattle.signature.proofs.Shift.{Turning}
use Rattle.signature.proofs.by_shift.step_by_shift.Given as goal

abbrev pub invariant-loop : goal.invariant-loop
invariant-loop g l =
    let r = g.R.Register in
    Turning r.width r.generator (r.number l.fn.register) l.fn.x (r.number l.register) l.x (l.counter + 1)
