-- The loop's laws are `ZerosBefore`'s.
use Rattle.spdu.proofs.Zeros.{ZerosBefore}
use Rattle.spdu.proofs.read.all_zero.Given as goal

abbrev pub invariant-loop-x : goal.invariant-loop-x
invariant-loop-x l = ZerosBefore l.s l.x-index
