-- Document 01, "The histogram and the trend": the trend point. Assumes nothing.
use Rattle.std.specs.Prelude.{◌≡◌, ℕ, false, cond, pos, ◌==◌, Float, Result, Ok, Err}
use Rattle.std.specs.Float.{fin, binary32, binary64}
use Rattle.std.specs.Float.Ieee.{div, of_int, round}
use Rattle.std.specs.Float.Ieee.Exact.{HasValue}
use Rattle.answer.specs.declared.Refusal.{Refusal}
use Rattle.answer.specs.declared.Refusal.TheVariants.{NoSamples}
use Rattle.nearest.specs.Nearest.{Exact, Nearest}
use Rattle.histogram.specs.declared.Histogram.{Histogram}
use Rattle.histogram.specs.declared.TrendPoint.{TrendPoint}

-- "The mean is the exact sum divided by the exact total": two conversions and one division, as Rust has them
abbrev pub mean_of : ℕ → ℕ → Float
mean_of sum total = div binary64 (of_int binary64 (pos sum)) (of_int binary64 (pos total))

-- "the mean as f64, and the lowest and highest sample as f32"
unfoldable pub point_of : Histogram → TrendPoint
point_of h =
    record {
      mean = mean_of h.sum h.total;
      lowest = of_int binary32 (pos h.lowest);
      highest = of_int binary32 (pos h.highest);
    }

abbrev pub zero : Float
zero = fin false 0 (pos 0)

-- "NO_SAMPLES: a trend point is asked for with no sample"
unfoldable pub trend_of : Histogram → Result TrendPoint Refusal
trend_of h = cond (h.total == 0) (Err NoSamples) (Ok (point_of h))

-- the point that is told: "on refusal a trend point is three zeros"
abbrev pub point_in : Result TrendPoint Refusal → TrendPoint
point_in (Ok p) = p
point_in (Err r) = record { mean = zero; lowest = zero; highest = zero }

-- "so both conversions are exact", and so are those of the lowest and the highest sample
pub record Converted (h : Histogram) : Type 0 where
  pub sum : Exact binary64 h.sum
  pub total : Exact binary64 h.total
  pub lowest : Exact binary32 h.lowest
  pub highest : Exact binary32 h.highest

-- "The mean is the exact sum divided by the exact total, rounded once": it is the nearest f64 to the quotient. The lowest and the highest
-- sample are themselves.
pub record Shows (sum total lowest highest : ℕ) (p : TrendPoint) : Type 0 where
  pub mean : p.mean ≡ round binary64 false sum total
  pub nearest : Nearest binary64 p.mean sum total
  pub lowest_is : HasValue p.lowest false lowest 1
  pub highest_is : HasValue p.highest false highest 1
