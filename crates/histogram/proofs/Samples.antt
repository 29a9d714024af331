-- The bin is 0 to 31; what one sample more does to each count over a list, and how large the counts are. Assumes nothing.
use Rattle.std.proofs.Common.{◌≡◌, ℕ, zero, suc, ◌+◌, ◌*◌, ◌<◌, ◌≤◌, min, max, Bool, true, false, cond, eqb, List, [], ◌∷◌, ◌++◌, length, take, zero-le, suc-mul, div-lt_iff_lt-mul, arith}
use mathlib.Core.List.{foldr}
use lib.Dec.{eqb-suc-zero}
use Rattle.histogram.specs.Samples.{bin_count, bin_of, Within, none, more, in_bin, sum_of, lowest_of, highest_of}

-- "and is always 0 to 31"
pub bin_below : (w t : ℕ) → t ≤ w → bin_of w t < bin_count
bin_below w t h = let p : 0 < w + 1 = omega arith in (div-lt_iff_lt-mul p).1 (omega arith)

-- ---- one sample more
module _ (t : ℕ) where
  pub in_bin_more : (w i : ℕ) (samples : List ℕ) → in_bin w i (samples ++ t ∷ []) ≡ in_bin w i samples + cond (eqb (bin_of w t) i) 1 0
  unfolding in_bin
  in_bin_more w i [] = omega arith
  in_bin_more w i (x ∷ samples) = omega (arith, in_bin_more w i samples)

  pub sum_more : (samples : List ℕ) → sum_of (samples ++ t ∷ []) ≡ sum_of samples + t
  sum_more [] = omega arith
  sum_more (x ∷ samples) = omega (arith, sum_more samples)

  least : (x : ℕ) (samples : List ℕ) → foldr min x (samples ++ t ∷ []) ≡ min (foldr min x samples) t
  least x [] = omega arith
  least x (y ∷ samples) = omega (arith, least x samples)

  pub lowest_more : (samples : List ℕ) → lowest_of (samples ++ t ∷ []) ≡ min (cond (eqb (length samples) 0) t (lowest_of samples)) t
  lowest_more [] = omega arith
  lowest_more (x ∷ samples) = rw (eqb-suc-zero (length samples)) (least x samples)

  greatest : (samples : List ℕ) → highest_of (samples ++ t ∷ []) ≡ max (highest_of samples) t
  greatest [] = omega arith
  greatest (x ∷ samples) = omega (arith, greatest samples)

  pub highest_more : (samples : List ℕ) → highest_of (samples ++ t ∷ []) ≡ max (cond (eqb (length samples) 0) t (highest_of samples)) t
  highest_more [] = omega arith
  highest_more (x ∷ samples) = rw (eqb-suc-zero (length samples)) (greatest (x ∷ samples))

  pub within_more : {w : ℕ} {samples : List ℕ} → Within w samples → t ≤ w → Within w (samples ++ t ∷ [])
  within_more none h = more h none
  within_more (more l m) h = more l (within_more m h)

-- ---- no bin has more samples than there are, the sum is at most W for each, and the lowest and the highest are at most W
at_most_one : (b : Bool) → cond b 1 0 ≤ 1
at_most_one true = omega arith
at_most_one false = omega arith

pub in_bin_below : (w i : ℕ) (samples : List ℕ) → in_bin w i samples ≤ length samples
unfolding in_bin
in_bin_below w i [] = zero-le
in_bin_below w i (t ∷ samples) = omega (arith, at_most_one (eqb (bin_of w t) i), in_bin_below w i samples)

pub sum_below : {w : ℕ} {samples : List ℕ} → Within w samples → sum_of samples ≤ length samples * w
sum_below none = zero-le
sum_below {w} (more {samples = samples} h l) = omega (arith, sum_below l, suc-mul (length samples) w)

lowest_below : {w x : ℕ} (samples : List ℕ) → x ≤ w → foldr min x samples ≤ w
lowest_below [] h = h
lowest_below (y ∷ samples) h = omega (arith, lowest_below samples h)

pub lowest_within : {w : ℕ} {samples : List ℕ} → Within w samples → lowest_of samples ≤ w
lowest_within none = zero-le
lowest_within (more {samples = samples} h l) = lowest_below samples h

pub highest_within : {w : ℕ} {samples : List ℕ} → Within w samples → highest_of samples ≤ w
highest_within none = zero-le
highest_within (more h l) = omega (arith, highest_within l)

pub within_take : {w : ℕ} {samples : List ℕ} (n : ℕ) → Within w samples → Within w (take n samples)
within_take zero l = none
within_take (suc n) none = none
within_take (suc n) (more h l) = more h (within_take n l)
