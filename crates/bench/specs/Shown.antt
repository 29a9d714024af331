-- The calls that show a port. Of a refused one: what a port that never ran shows. Assumes nothing.
use Rattle.std.specs.Prelude.{ℕ, List, [], ◌∷◌, ◌++◌, eqb, Result, Ok, Err}
use Rattle.answer.specs.declared.Refusal.{Refusal}
use Rattle.answer.specs.declared.Refusal.TheVariants.{NoSamples}
use Rattle.answer.specs.Answers.{Taken, with_value}
use Rattle.answer.specs.Rules.{Rule, rule, answer_by}
use Rattle.fs_master.specs.declared.Master.{Master}
use Rattle.fs_device.specs.declared.Device.{Device}
use Rattle.histogram.specs.declared.TrendPoint.{TrendPoint}
use Rattle.histogram.specs.Counted.{frozen_of}
use Rattle.histogram.specs.Trends as trends
use Rattle.bench.specs.declared.Port.{Port}
use Rattle.bench.specs.declared.Bins.{Bins}
use Rattle.bench.specs.Ports.{new_port, histogram_of}
use Rattle.bench.specs.Calls.{call_rules}

-- 8, 9, 11
abbrev pub trend_rules : ℕ → Port → List Rule
trend_rules port p = call_rules port p.setting ++ (rule (eqb p.live.totals.total 0) NoSamples ∷ [])

-- with TAKEN what the port shows

unfoldable pub trend_of : ℕ → Port → Result TrendPoint Refusal
trend_of port p = with_value (answer_by Taken (trend_rules port p)) (trends.point_of (histogram_of p))

abbrev pub bins_at : Port → Bins
bins_at p = let h = histogram_of p in record { bins = h.bins; total = h.total; frozen = frozen_of h }

unfoldable pub bins_of : ℕ → Port → Result Bins Refusal
bins_of port p = with_value (answer_by Taken (call_rules port p.setting)) (bins_at p)

unfoldable pub master_of : ℕ → Port → Result Master Refusal
master_of port p = with_value (answer_by Taken (call_rules port p.setting)) p.live.master

unfoldable pub device_of : ℕ → Port → Result Device Refusal
device_of port p = with_value (answer_by Taken (call_rules port p.setting)) p.live.device

-- what is told of it; of a trend point `point_in` (histogram)

abbrev pub told_bins : Result Bins Refusal → Bins
told_bins (Ok b) = b
told_bins (Err r) = bins_at new_port

abbrev pub told_master : Result Master Refusal → Master
told_master (Ok m) = m
told_master (Err r) = new_port.live.master

abbrev pub told_device : Result Device Refusal → Device
told_device (Ok d) = d
told_device (Err r) = new_port.live.device
