-- The loop of `vectors::signatures::compare`: its laws are `DifferBefore`'s. Assumes nothing.
use Rattle.vectors.proofs.Compared.{DifferBefore}
use Rattle.vectors.proofs.signatures.compare.Given as goal

abbrev pub invariant-loop-i : goal.invariant-loop-i
invariant-loop-i g l = DifferBefore g.R.Register.width l.printed l.differ l.i
