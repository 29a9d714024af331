-- `session_program::run_in` meets its contract. Assumes nothing.
use Rattle.std.proofs.Common.{refl, ap, arith, rules}
use Rattle.session.specs.declared.State.{State}
use Rattle.session_program.specs.declared.Going.TheVariants.{On}
use Rattle.session_program.proofs.Reading.{begin, again, failed, ended}
use Rattle.session_program.proofs.run_in.Goals as goal

pub loop-init : goal.loop-init
loop-init c = (refl, refl, begin _ _ (ap (λ (st : State). record { state = st; left = 0; going = On }) c.start.ensures))

pub loop-preserved : goal.loop-preserved
loop-preserved c = (search rules, search rules, again c.loop.invariant.2 c.read_chunk-last.ensures c.in-On.is)

pub returns-in-Over : goal.returns-in-Over
returns-in-Over c =
    let b = c.read_chunk-last in
    ended c.loop.invariant.2 b.ensures c.in-Over.is b.new.out _ (omega (arith, c.requires.closing_room_in_bounds)) c.finish.ensures

pub returns-in-Stopped : goal.returns-in-Stopped
returns-in-Stopped c = failed c.loop.invariant.2 c.read_chunk-last.ensures c.in-Stopped.is _
