-- `bench::columns::packed` meets its contract. Assumes nothing.
use Rattle.std.proofs.Common.{rules}
use Rattle.bench.specs.Ports.{no_port}
use Rattle.bench.proofs.Beside.{packed_by}
use Rattle.bench.proofs.columns.packed.Goals as goal

pub returns : goal.returns
unfolding no_port
returns c =
    packed_by c.args.settings c.args.lives c.args.bins
    (record { settings = search (rules, c.well_formed); lives = search (rules, c.well_formed); bins = search (rules, c.well_formed) })
    no_port c.from_fn.ensures.items.long
    (λ i h. let k = c.from_fn.ensures.items.at i no_port h in search (rules, k.1.1))
