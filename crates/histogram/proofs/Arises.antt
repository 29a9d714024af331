-- The premises of the theorems on a histogram can be met, by a few samples and by as many as the limit: computed. Assumes nothing.
use Rattle.std.proofs.Common.{◌≡◌, ℕ, zero, suc, ◌+◌, ◌<◌, min, max, Bool, true, false, cond, eqb, List, [], ◌∷◌, ◌++◌, length, get_or, replicate, sym, refl, ap, ◌∙◌, arith, take_all, le-leb}
use mathlib.Core.List.{foldr}
use lib.Dec.{eqb-zero-suc}
use lib.Ieee.Exact.{HasValue}
use lib.ListN.{length-replicate, get_or-replicate}
use Rattle.std.specs.Prelude.{Err}
use Rattle.answer.specs.declared.Refusal.TheVariants.{NoSamples}
use Rattle.answer.specs.Answers.{Taken, without_value}
use Rattle.histogram.specs.declared.Histogram.{Histogram}
use Rattle.histogram.specs.Samples.{bin_count, bin_of, Within, none, more, in_bin, lowest_of, limit, Counts, CountsToLimit, Fits}
use Rattle.histogram.specs.Counted.{frozen_of, cleared_of, with_sample, counted_of, counted_all}
use Rattle.histogram.specs.Trends.{point_of, trend_of, point_in, Converted, Shows}
use Rattle.histogram.proofs.Samples.{bin_below}
use Rattle.histogram.proofs.Counting.{cleared_holds, counted-holds, all-counted, nothing_wraps, frozen_mark}
use Rattle.histogram.proofs.Trends.{converted, shows, answered, trend_of_samples}

-- ---- three samples, W 99 (01, "Numbers to try": bins 0, 1 and 31)
abbrev three : List ℕ
three = 3 ∷ 4 ∷ 99 ∷ []

abbrev of_three : Histogram
of_three = counted_all 99 three

within_met : Within 99 three
within_met = more {t = 3} (omega arith) (more {t = 4} (omega arith) (more {t = 99} (omega arith) none))

pub bin_met : bin_of 99 99 < bin_count
bin_met = bin_below 99 99 (omega arith)

pub all_counted_met : CountsToLimit 99 three of_three
all_counted_met = all-counted 99 (omega arith) three within_met

pub counted_holds_met : CountsToLimit 99 (three ++ 50 ∷ []) (counted_of of_three 99 50)
counted_holds_met = counted-holds (omega arith) within_met all_counted_met 50 (omega arith)

fits_met : Fits of_three
fits_met = nothing_wraps (omega arith) within_met all_counted_met

pub converted_met : Converted of_three
converted_met = converted of_three fits_met

pub shows_met : Shows of_three.sum of_three.total of_three.lowest of_three.highest (point_of of_three)
unfolding limit
shows_met = shows of_three fits_met (rw all_counted_met.total (omega arith))

pub trend_met : Shows 106 3 3 99 (point_in (trend_of of_three))
unfolding limit
trend_met = trend_of_samples three all_counted_met (omega arith) within_met (omega arith)

-- the mark is not set, and there is a sample; of none the answer is NO_SAMPLES
pub few : (frozen_of of_three ≡ false) × ((without_value (trend_of of_three) ≡ Taken) × (without_value (trend_of cleared_of) ≡ Err NoSamples))
unfolding limit
few = (frozen_mark three all_counted_met, (answered three all_counted_met, answered [] (cleared_holds 99)))

-- R27: on that refusal the trend point is three zeros
pub none_shown : HasValue (point_in (trend_of cleared_of)).mean false 0 1 × HasValue (point_in (trend_of cleared_of)).lowest false 0 1 × HasValue (point_in (trend_of cleared_of)).highest false 0 1
unfolding trend_of
none_shown = ((refl, refl), (refl, refl), (refl, refl))

-- ---- n samples of 0 ms; `limit` stays closed, as nothing counts up to it
abbrev of_zeros : ℕ → Histogram
of_zeros n = record { bins = n ∷ replicate 31 0; total = n; sum = 0; lowest = 0; highest = 0 }

folded : (f : ℕ → ℕ → ℕ) → f 0 0 ≡ 0 → (n : ℕ) → foldr f 0 (replicate n 0) ≡ 0
folded f e zero = refl
folded f e (suc n) = ap (f 0) (folded f e n) ∙ e

lowest_zeros : (n : ℕ) → lowest_of (replicate n 0) ≡ 0
lowest_zeros zero = refl
lowest_zeros (suc n) = folded min refl n

in_bin_zeros : (i n : ℕ) → in_bin 99 i (replicate n 0) ≡ cond (eqb 0 i) n 0
unfolding in_bin
in_bin_zeros i n = go (eqb 0 i) refl n
  where
    go : (b : Bool) → eqb 0 i ≡ b → (n : ℕ) → in_bin 99 i (replicate n 0) ≡ cond b n 0
    go true e zero = refl
    go true e (suc n) = rw (e, go true e n) (omega arith)
    go false e zero = refl
    go false e (suc n) = rw (e, go false e n) (omega arith)

bins_zeros : (n i : ℕ) → i < 32 → get_or (n ∷ replicate 31 0) i 0 ≡ cond (eqb 0 i) n 0
bins_zeros n zero l = refl
bins_zeros n (suc i) l = rw (eqb-zero-suc i) (get_or-replicate 31 i 0 0 (omega arith))

counts-zeros : (n : ℕ) → Counts 99 (replicate n 0) (of_zeros n)
counts-zeros n = record {
  size = refl;
  bins = λ i l. bins_zeros n i l ∙ sym (in_bin_zeros i n);
  total = sym (length-replicate n 0);
  sum = sym (folded ◌+◌ refl n);
  lowest = sym (lowest_zeros n);
  highest = sym (folded max refl n);
}

abbrev full : List ℕ
full = replicate limit 0

full-length : length full ≡ limit
full-length = length-replicate limit 0

full-holds : CountsToLimit 99 full (of_zeros limit)
full-holds = rw (take_all limit full (omega (arith, full-length))) (counts-zeros limit)

pub full_met : frozen_of (of_zeros limit) ≡ true
full_met = frozen_mark full full-holds ∙ le-leb limit (length full) (omega (arith, full-length))

-- one sample below the limit: the next is counted and sets the mark, the one after it changes nothing
abbrev below : Histogram
below = of_zeros 4294967294

pub freezes : (frozen_of below ≡ false) × ((frozen_of (counted_of below 99 0) ≡ true) × (counted_of (counted_of below 99 0) 99 99 ≡ of_zeros 4294967295))
unfolding limit frozen_of counted_of with_sample
freezes = (refl, (refl, refl))

-- the bin at its edges: of W 32 the first ms is bin 0 still, of W 31 it is bin 1; W itself is the last
pub bins_met : (bin_of 32 1 ≡ 0) × ((bin_of 31 1 ≡ 1) × ((bin_of 32 2 ≡ 1) × ((bin_of 65535 65535 ≡ 31) × (bin_of 1 1 ≡ 16))))
bins_met = (refl, (refl, (refl, (refl, refl))))
