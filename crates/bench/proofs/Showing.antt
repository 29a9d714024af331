-- What a running port shows is what 01 says of the samples since its last accepted block. Assumes nothing.
use Prim.Native.Nat.{ℕ, ◌<◌}
use mathlib.Core.Path.{◌≡◌, refl, ap, ◌∙◌}
use mathlib.Core.Bool.{false, cond, ◌&&◌, true≢false}
use mathlib.Core.List.{List}
use lib.Dec.{eqb, leb}
use lib.ListN.{length, get_or, take, replicate}
use Rattle.std.specs.Prelude.{Result, Ok, Err}
use Rattle.answer.specs.declared.Refusal.{Refusal}
use Rattle.answer.specs.declared.Refusal.TheVariants.{NoSamples}
use Rattle.answer.specs.Answers.{Answer, Taken, is_taken, with_value, without_value}
use Rattle.answer.proofs.Values.{answer_alone}
use Rattle.answer.specs.Rules.{refused, answer_by}
use Rattle.ranges.specs.Fields.{outside}
use Rattle.block.specs.declared.Params.{Params}
use Rattle.scl.specs.Happenings.{is_fresh}
use Rattle.scl.specs.declared.Happening.{Happening}
use Rattle.scl.proofs.Cases.{cond_both}
use Rattle.fs_master.specs.declared.Master.{Master}
use Rattle.fs_master.specs.Table38.{first_master}
use Rattle.fs_master.specs.History.{master_after}
use Rattle.fs_device.specs.declared.Device.{Device}
use Rattle.fs_device.specs.Table40.{first_device}
use Rattle.fs_device.specs.History.{device_after}
use Rattle.histogram.specs.declared.Histogram.{Histogram}
use Rattle.histogram.specs.declared.TrendPoint.{TrendPoint}
use Rattle.histogram.specs.Samples.{bin_count, in_bin, limit, sum_of, lowest_of, highest_of}
use Rattle.histogram.specs.Counted.{frozen_of}
use Rattle.histogram.specs.Trends as trends
use Rattle.histogram.specs.Trends.{zero, point_in}
use Rattle.histogram.proofs.Counting.{frozen_mark}
use Rattle.histogram.proofs.Trends as trendProofs
use Rattle.samples.specs.Samples.{time_of, is_sample, samples}
use Rattle.samples.proofs.Samples.{sample_is}
use Rattle.bench.specs.declared.Port.{Port}
use Rattle.bench.specs.declared.Bins.{Bins}
use Rattle.bench.specs.Ports.{new_port, histogram_of, turn_of, stored, said, step_of}
use Rattle.bench.specs.Calls.{call_rules}
use Rattle.bench.specs.Shown.{trend_rules, trend_of, bins_at, bins_of, told_bins, master_of, told_master, device_of, told_device}
use Rattle.bench.specs.History.{MatchesSince}

-- behind 8 and 9 the answer and the point are the histogram's
trend_by : (h : Histogram) → refused Taken (eqb h.total 0) NoSamples ≡ without_value (trends.trend_of h)
unfolding trends.trend_of
trend_by h = cond_both (λ (a : Answer) (t : Result TrendPoint Refusal). a ≡ without_value t) (eqb h.total 0) refl refl

pub trend_with : (h : Histogram) → point_in (with_value (refused Taken (eqb h.total 0) NoSamples) (trends.point_of h)) ≡ point_in (trends.trend_of h)
unfolding trends.trend_of
trend_with h = cond_both (λ (a : Answer) (t : Result TrendPoint Refusal). point_in (with_value a (trends.point_of h)) ≡ point_in t) (eqb h.total 0) refl refl

-- what comes of the port that runs
abbrev port_or : Port → Result Port Refusal → Port
port_or p (Ok q) = q
port_or p (Err r) = p

trend_is : (h : Histogram) → trends.trend_of h ≡ with_value (refused Taken (eqb h.total 0) NoSamples) (trends.point_of h)
unfolding trends.trend_of
trend_is h = cond_both (λ (t : Result TrendPoint Refusal) (a : Answer). t ≡ with_value a (trends.point_of h)) (eqb h.total 0) refl refl

pub trend_running : (port : ℕ) (p : Port) {q : Port} → Ok q ≡ with_value (answer_by Taken (call_rules port p.setting)) p → trends.trend_of (histogram_of q) ≡ trend_of port p
unfolding trend_of
trend_running port p {q} e = go (answer_by Taken (call_rules port p.setting)) e
  where
    go : (a : Answer) → Ok q ≡ with_value a p → trends.trend_of (histogram_of q) ≡ with_value (refused a (eqb p.live.totals.total 0) NoSamples) (trends.point_of (histogram_of p))
    go (Ok t) e = let same : q ≡ p = ap (port_or p) e in rw same (trend_is (histogram_of p))
    go (Err r) e = absurd (true≢false (ap is_taken e))

-- of a refused call: no sample, whatever the port holds
pub record NoneShown (b : Bins) : Type 0 where
  pub bins : b.bins ≡ replicate bin_count 0
  pub total : b.total ≡ 0
  pub frozen : b.frozen ≡ false

pub refused_shown : (q : ℕ) (p : Port) → is_taken (bins_of q p) ≡ false → NoneShown (told_bins (bins_of q p))
unfolding new_port frozen_of limit
refused_shown q p = go (bins_of q p)
  where
    go : (b : Result Bins Refusal) → is_taken b ≡ false → NoneShown (told_bins b)
    go (Ok b) e = absurd (true≢false e)
    go (Err r) e = record { bins = refl; total = refl; frozen = refl }

-- "On refusal a trend point is three zeros" (R27): where no port runs with the number, and where it has no sample
pub refused_trend : (q : ℕ) (p : Port) → is_taken (trend_of q p) ≡ false → point_in (trend_of q p) ≡ record { mean = zero; lowest = zero; highest = zero }
refused_trend q p = go (trend_of q p)
  where
    go : (t : Result TrendPoint Refusal) → is_taken t ≡ false → point_in t ≡ record { mean = zero; lowest = zero; highest = zero }
    go (Ok t) e = absurd (true≢false e)
    go (Err r) e = refl

-- of a refused call: each end in its first state, whatever the port holds
pub refused_master : (q : ℕ) (p : Port) → is_taken (master_of q p) ≡ false → told_master (master_of q p) ≡ first_master 0
unfolding new_port
refused_master q p = go (master_of q p)
  where
    go : (m : Result Master Refusal) → is_taken m ≡ false → told_master m ≡ first_master 0
    go (Ok m) e = absurd (true≢false e)
    go (Err r) e = refl

pub refused_device : (q : ℕ) (p : Port) → is_taken (device_of q p) ≡ false → told_device (device_of q p) ≡ first_device 0
unfolding new_port
refused_device q p = go (device_of q p)
  where
    go : (d : Result Device Refusal) → is_taken d ≡ false → told_device d ≡ first_device 0
    go (Ok d) e = absurd (true≢false e)
    go (Err r) e = refl

module _ (q : ℕ) (known : outside 1 8 q ≡ false) (p : Port) (at : ℕ) (params : Params) (past : List Happening) (s : MatchesSince p at params past) where
  -- 8 and 9 are kept
  runs : answer_by Taken (call_rules q p.setting) ≡ Taken
  runs = simp (known, s.running)

  shows : told_bins (bins_of q p) ≡ bins_at p
  unfolding bins_of
  shows = ap (λ (a : Answer). told_bins (with_value a (bins_at p))) runs

  -- What comes next is a sample exactly where its call hands on fresh octets and t is at most W (02, item 2).
  pub sampled : (h : Happening) → let w = params.FSP_WatchdogTime in
      is_sample at w past h ≡ (is_fresh (step_of p h).reply.master && leb (time_of at w past h) w)
  unfolding step_of stored said turn_of
  sampled h = rw (s.master, s.parameters) (sample_is at params.FSP_WatchdogTime past h)

  -- each bin has as many of the samples, up to the freeze, as have it: "t * 32 / (W + 1), rounded down"
  pub bins_shown : (i : ℕ) → i < bin_count
      → get_or (told_bins (bins_of q p)).bins i 0 ≡ in_bin params.FSP_WatchdogTime i (take limit (samples at params.FSP_WatchdogTime past))
  bins_shown i h = ap (λ (b : Bins). get_or b.bins i 0) shows ∙ s.counted.bins i h

  pub bins_many : length (told_bins (bins_of q p)).bins ≡ bin_count
  bins_many = ap (λ (b : Bins). length b.bins) shows ∙ s.counted.size

  -- "The total is the number of samples since the last accepted block"
  pub total_shown : (told_bins (bins_of q p)).total ≡ length (take limit (samples at params.FSP_WatchdogTime past))
  total_shown = ap (λ (b : Bins). b.total) shows ∙ s.counted.total

  -- the frozen mark is set exactly where there are as many samples as the limit, or more
  pub frozen_shown : (told_bins (bins_of q p)).frozen ≡ leb limit (length (samples at params.FSP_WatchdogTime past))
  frozen_shown = ap (λ (b : Bins). b.frozen) shows ∙ (frozen_mark (samples at params.FSP_WatchdogTime past) s.counted)

  -- "NO_SAMPLES: a trend point is asked for with no sample"
  pub trend_answer : without_value (trend_of q p) ≡ cond (eqb (length (samples at params.FSP_WatchdogTime past)) 0) (Err NoSamples) Taken
  unfolding trend_of
  trend_answer =
      answer_alone (answer_by Taken (trend_rules q p)) (trends.point_of (histogram_of p))
      ∙ ap (λ (a : Answer). refused a (eqb p.live.totals.total 0) NoSamples) runs
      ∙ trend_by (histogram_of p)
      ∙ trendProofs.answered (samples at params.FSP_WatchdogTime past) s.counted

  -- the exact sum over the exact total, rounded once, and the ends
  pub trend_shown : 0 < length (samples at params.FSP_WatchdogTime past)
      → let counted = take limit (samples at params.FSP_WatchdogTime past) in
      trends.Shows (sum_of counted) (length counted) (lowest_of counted) (highest_of counted) (point_in (trend_of q p))
  unfolding trend_of
  trend_shown some =
      let same : point_in (with_value (answer_by Taken (trend_rules q p)) (trends.point_of (histogram_of p))) ≡ point_in (trends.trend_of (histogram_of p)) =
      ap (λ (a : Answer). point_in (with_value (refused a (eqb p.live.totals.total 0) NoSamples) (trends.point_of (histogram_of p)))) runs
      ∙ trend_with (histogram_of p) in
      rw same (trendProofs.trend_of_samples (samples at params.FSP_WatchdogTime past) s.counted s.small s.within some)

  -- both ends as what happened left them
  pub master_shown_lem : told_master (master_of q p) ≡ master_after at params.FSP_WatchdogTime past
  unfolding master_of
  master_shown_lem = ap (λ (a : Answer). told_master (with_value a p.live.master)) runs ∙ s.master

  pub device_shown_lem : told_device (device_of q p) ≡ device_after at params.FSP_WatchdogTime past
  unfolding device_of
  device_shown_lem = ap (λ (a : Answer). told_device (with_value a p.live.device)) runs ∙ s.device
