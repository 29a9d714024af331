-- Method: each call on a histogram, for every histogram, also for one that no list of samples gives, whose counts wrap. What is meant is in Samples.antt.
-- Assumes nothing.
use Rattle.std.specs.Prelude.{ℕ, ◌+◌, ◌%◌, ◌^◌, min, max, Bool, cond, List, replicate, ◌==◌, slice_index, slice_set, Option, None, Some}
use mathlib.Core.List.{foldl}
use Rattle.histogram.specs.Samples.{bin_count, bin_of, limit}
use Rattle.histogram.specs.declared.Histogram.{Histogram}
use Rattle.histogram.specs.declared.Totals.{Totals}

-- "When it reaches 4,294,967,295 .. a frozen mark is set"
unfoldable pub frozen_of : Histogram → Bool
frozen_of h = h.total == limit

-- no sample
abbrev pub cleared_of : Histogram
cleared_of = record { bins = replicate bin_count 0; total = 0; sum = 0; lowest = 0; highest = 0 }

-- a histogram in two parts
abbrev pub totals_of : Histogram → Totals
totals_of h = record { total = h.total; sum = h.sum; lowest = h.lowest; highest = h.highest }

abbrev pub with_bins : Totals → List ℕ → Histogram
with_bins a bins = record { bins = bins; total = a.total; sum = a.sum; lowest = a.lowest; highest = a.highest }

-- the lowest or the highest so far; where t is the first sample, t
abbrev pub so_far : Totals → ℕ → ℕ → ℕ
so_far a t end = cond (a.total == 0) t end

-- One more sample t: one more in the total and so on, and in its bin; past the last bin none changes.
abbrev pub added : Totals → ℕ → Totals
added a t =
    record {
      total = a.total + 1;
      sum = (a.sum + t) % 2 ^ 64;
      lowest = min (so_far a t a.lowest) t;
      highest = max (so_far a t a.highest) t;
    }

abbrev pub raised_if : List ℕ → Option ℕ → List ℕ
raised_if bins None = bins
raised_if bins (Some i) = slice_set bins i ((slice_index bins i + 1) % 2 ^ 32)

unfoldable pub with_sample : Histogram → ℕ → ℕ → Histogram
with_sample h w t = with_bins (added (totals_of h) t) (raised_if h.bins (Some (bin_of w t)))

-- "the port's bins, total and trend stay as they are"
unfoldable pub counted_of : Histogram → ℕ → ℕ → Histogram
counted_of h w t = cond (frozen_of h) h (with_sample h w t)

-- the same of the totals alone: none where the sample is not counted
unfoldable pub totalled_of : Totals → ℕ → Option Totals
totalled_of a t = cond (a.total == limit) None (Some (added a t))

-- samples counted one by one, the first first, from a new histogram
abbrev pub counted_all : ℕ → List ℕ → Histogram
counted_all w samples = foldl (λ h t. counted_of h w t) cleared_of samples
