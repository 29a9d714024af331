-- The loop's laws are `Left`'s.
use Rattle.signature.specs.Signature.{signature}
use Rattle.signature.proofs.Loop.{Left}
use Rattle.signature.proofs.by_shift.sign_by_shift.Given as goal

abbrev pub invariant-loop-x : goal.invariant-loop-x
invariant-loop-x g l =
    let r = g.R.Register in
    Left (signature r.width r.generator) (r.number l.fn.seed) l.octets (r.number l.register) l.x-index
