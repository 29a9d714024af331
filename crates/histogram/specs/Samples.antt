-- Document 01, "The histogram and the trend": what a histogram holds, over the list of its samples, the first first. W is the port's watchdog
-- time. Assumes nothing.
use Rattle.std.specs.Prelude.{◌≡◌, ℕ, ◌+◌, ◌*◌, ◌/◌, ◌^◌, ◌<◌, ◌≤◌, min, max, cond, List, [], ◌∷◌, length, take, ◌==◌, slice_index}
use mathlib.Core.List.{foldr}
use Rattle.histogram.specs.declared.Histogram.{Histogram}

-- "0 to 31"
abbrev pub bin_count : ℕ
bin_count = 32

-- "t * 32 / (W + 1), rounded down"
abbrev pub bin_of : ℕ → ℕ → ℕ
bin_of w t = t * bin_count / (w + 1)

-- "with elapsed t at most W": each sample is
pub data Within (w : ℕ) : List ℕ → Type 0 where
  none : Within w []
  more : {t : ℕ} {samples : List ℕ} → t ≤ w → Within w samples → Within w (t ∷ samples)

-- how many samples have the bin i
unfoldable pub in_bin : ℕ → ℕ → List ℕ → ℕ
in_bin w i [] = 0
in_bin w i (t ∷ samples) = cond (bin_of w t == i) 1 0 + in_bin w i samples

abbrev pub sum_of : List ℕ → ℕ
sum_of samples = foldr ◌+◌ 0 samples

-- 0 where there is no sample
abbrev pub lowest_of : List ℕ → ℕ
lowest_of [] = 0
lowest_of (t ∷ samples) = foldr min t samples

abbrev pub highest_of : List ℕ → ℕ
highest_of samples = foldr max 0 samples

-- the histogram h counts these samples, each once
pub record Counts (w : ℕ) (samples : List ℕ) (h : Histogram) : Type 0 where
  pub size : length h.bins ≡ bin_count
  pub bins : (i : ℕ) → i < bin_count → slice_index h.bins i ≡ in_bin w i samples
  pub total : h.total ≡ length samples
  pub sum : h.sum ≡ sum_of samples
  pub lowest : h.lowest ≡ lowest_of samples
  pub highest : h.highest ≡ highest_of samples

-- "When it reaches 4,294,967,295 the port's bins, total and trend stay as they are". It is opened only where it is compared: nothing counts
-- up to it.
unfoldable pub limit : ℕ
limit = 4294967295

-- the histogram of a port since its last accepted block: it counts the samples up to the limit, and no later one
abbrev pub CountsToLimit : ℕ → List ℕ → Histogram → Type 0
CountsToLimit w samples h = Counts w (take limit samples) h

-- "The sum stays below 2^48"; nothing in a histogram wraps
pub record Fits (h : Histogram) : Type 0 where
  pub total : h.total ≤ limit
  pub bins : (i : ℕ) → i < bin_count → slice_index h.bins i ≤ h.total
  pub sum : h.sum < 2 ^ 48
  pub lowest : h.lowest < 2 ^ 16
  pub highest : h.highest < 2 ^ 16
