-- 01, "The session program": what stands in the line of a port is that of the samples since its last accepted block. Assumes nothing.
use Rattle.std.proofs.Common.{◌≡◌, ℕ, false, List, [], length, take, ap}
use Rattle.ranges.specs.Fields.{outside}
use Rattle.block.specs.declared.Params.{Params}
use Rattle.scl.specs.declared.Happening.{Happening}
use Rattle.histogram.specs.Samples.{limit, lowest_of, highest_of}
use Rattle.samples.specs.Samples.{samples}
use Rattle.bench.specs.declared.Port.{Port}
use Rattle.bench.specs.Ports.{new_port, port_at}
use Rattle.bench.specs.History.{never, since, since_block, MatchesSince, Matches}
use Rattle.bench.proofs.History.{matches}
use Rattle.lines.specs.Text.{port_line}
use Rattle.session.specs.Text.{line_of_port}
use Rattle.session.specs.Run.{Entry, calls_of, start, ran}
use Rattle.session.proofs.Chunks.{bench_of_history}

matching_line : (q : ℕ) (p : Port) (at : ℕ) (params : Params) (past : List Happening) → MatchesSince p at params past
    → let w = params.FSP_WatchdogTime in
    let counted = take limit (samples at w past) in
    line_of_port q p ≡ port_line q w (length counted) (lowest_of counted) (highest_of counted)
unfolding line_of_port
matching_line q p at params past s =
    rw s.running
    (λ i. port_line q (s.parameters i).FSP_WatchdogTime (s.counted.total i) (s.counted.lowest i) (s.counted.highest i))

-- of every list of records, for a port
module _ (rs : List Entry) (q : ℕ) (known : outside 1 8 q ≡ false) where
  abbrev port : Port
  port = port_at (ran start rs).bench q

  port_matches : Matches port (since_block q (calls_of [] rs))
  port_matches = rw (bench_of_history rs) (matches q known (calls_of [] rs))

  -- "W its watchdog, T its total, L and U its lowest and highest sample in ms", of the samples up to the freeze
  pub line_shown : (at : ℕ) (params : Params) (past : List Happening) → since_block q (calls_of [] rs) ≡ since at params past
      → let w = params.FSP_WatchdogTime in
      let counted = take limit (samples at w past) in
      line_of_port q port ≡ port_line q w (length counted) (lowest_of counted) (highest_of counted)
  unfolding Matches
  line_shown at params past block = matching_line q port at params past (rw block at port_matches)

  -- "for each running port": of one that never had a block, none
  pub no_line : since_block q (calls_of [] rs) ≡ never → line_of_port q port ≡ []
  unfolding Matches line_of_port new_port
  no_line none = ap (line_of_port q) (rw none at port_matches)
