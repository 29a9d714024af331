-- `bench::shown::trend_of` meets its contract. Assumes nothing.
use Rattle.std.proofs.Common.{ap, ◌∙◌}
use Rattle.histogram.specs.Trends as trends
use Rattle.bench.specs.Ports.{port_at}
use Rattle.bench.proofs.Showing.{trend_running}
use Rattle.bench.proofs.shown.trend_of.Goals as goal

pub returns : goal.returns
returns c =
    c.trend_of.ensures ∙ ap trends.trend_of c.histogram_of.ensures ∙ trend_running c.args.port (port_at c.args.b c.args.port) c.in_ok-running_at.ensures
