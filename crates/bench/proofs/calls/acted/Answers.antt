-- `bench::calls::acted` meets its contract. Assumes nothing.
use Rattle.bench.specs.Calls.{done}
use Rattle.bench.proofs.calls.acted.Goals as goal

pub returns-in-Happens : goal.returns-in-Happens
unfolding done
returns-in-Happens c = rw (c.in-Ok.is, c.in-Happens.is) (c.stepped.ensures c.args.at)
