-- `signature::by_shift::sign_by_shift` meets its contract: the loop's laws are `Left`'s. Assumes nothing.
use Rattle.std.proofs.Common.{rules}
use Rattle.signature.proofs.Loop.{again, done, bits_by_octets}
use Rattle.signature.proofs.by_shift.sign_by_shift.Goals as goal

pub loop-x-preserved : goal.loop-x-preserved
loop-x-preserved g c =
    let r = g.R.Register in
    again (bits_by_octets r.width r.generator) c.loop-x.invariant (search rules) c.step_by_shift-register.ensures

pub returns : goal.returns
returns g c =
    let r = g.R.Register in
    done (bits_by_octets r.width r.generator) c.loop-x.invariant (search rules)
