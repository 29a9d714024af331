-- The trend point of a histogram whose counts fit: each conversion is exact, and the mean is the quotient rounded once. Assumes nothing.
use Rattle.std.proofs.Common.{◌≡◌, ℕ, ◌<◌, ◌≤◌, min, Bool, true, false, cond, eqb, List, length, take, refl, ◌∙◌, arith, length-take, eq-eqb, ne_eqb, eqb-true}
use borrow.Author.Tests.{eqb-false}
use lib.Ieee.{binary32, binary64}
use Rattle.std.specs.Prelude.{Err}
use Rattle.answer.specs.declared.Refusal.TheVariants.{NoSamples}
use Rattle.answer.specs.Answers.{Taken, without_value}
use Rattle.nearest.proofs.Whole.{exact, rounded_once}
use Rattle.nearest.proofs.Closest.{quotient_nearest}
use Rattle.histogram.specs.declared.Histogram.{Histogram}
use Rattle.histogram.specs.Samples.{Within, limit, CountsToLimit, Fits, sum_of, lowest_of, highest_of}
use Rattle.histogram.specs.Trends.{point_of, trend_of, point_in, Converted, Shows}
use Rattle.histogram.proofs.Counting.{nothing_wraps}

module _ (h : Histogram) (fits : Fits h) where
  pub converted : Converted h
  unfolding limit
  converted =
      record {
        sum = exact binary64 h.sum (omega arith) (omega arith);
        total = exact binary64 h.total (omega arith) (omega arith);
        lowest = exact binary32 h.lowest (omega arith) (omega arith);
        highest = exact binary32 h.highest (omega arith) (omega arith);
      }

  pub shows : 0 < h.total → Shows h.sum h.total h.lowest h.highest (point_of h)
  unfolding limit point_of
  shows some =
      let once = rounded_once binary64 h.sum h.total (omega arith) some (omega arith) in
      record {
        mean = once;
        nearest = rw once (quotient_nearest binary64 h.sum h.total (omega arith) some);
        lowest_is = converted.lowest.value;
        highest_is = converted.highest.value;
      }

-- ---- the same over the samples, cut at the limit
limit_above : 0 < limit
unfolding limit
limit_above = omega arith

module _ {w : ℕ} (samples : List ℕ) {h : Histogram} (holds : CountsToLimit w samples h) where
  total_is : h.total ≡ min limit (length samples)
  total_is = holds.total ∙ length-take limit samples

  -- "NO_SAMPLES: a trend point is asked for with no sample"
  pub answered : without_value (trend_of h) ≡ cond (eqb (length samples) 0) (Err NoSamples) Taken
  unfolding trend_of
  answered = go (eqb (length samples) 0) refl
    where
      go : (b : Bool) → eqb (length samples) 0 ≡ b → without_value (trend_of h) ≡ cond b (Err NoSamples) Taken
      go true e = simp (eq-eqb h.total 0 (omega (arith, eqb-true (length samples) 0 e, total_is)))
      go false e = simp (ne_eqb h.total 0 (λ z. omega (arith, eqb-false (length samples) 0 e, total_is, limit_above)))

  pub trend_of_samples : w ≤ 65535 → Within w samples → 0 < length samples
      → Shows (sum_of (take limit samples)) (length (take limit samples)) (lowest_of (take limit samples)) (highest_of (take limit samples)) (point_in (trend_of h))
  unfolding trend_of
  trend_of_samples small within some =
      let above : 0 < h.total = omega (arith, total_is, limit_above) in
      rw (← holds.sum, ← holds.total, ← holds.lowest, ← holds.highest, ne_eqb h.total 0 (λ z. omega arith)) (shows h (nothing_wraps small within holds) above)
