-- `bench::columns::lives_of` meets its contract. Assumes nothing.
use Rattle.std.proofs.Common.{rules}
use Rattle.bench.specs.declared.Port.{Port}
use Rattle.bench.specs.Ports.{no_port}
use Rattle.bench.proofs.Beside.{column}
use Rattle.bench.proofs.columns.lives_of.Goals as goal

pub returns : goal.returns
returns c =
    column (λ (p : Port). p.live) c.args.b.ports no_port no_port.live c.map.result (search (rules, c.well_formed)) c.map.ensures.items.long
    (λ i h. let k = c.map.ensures.items.at i no_port no_port.live h in search (rules, k))
