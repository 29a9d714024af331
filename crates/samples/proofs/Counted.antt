-- The histogram after what happened since a block holds exactly the samples. Assumes nothing.
use Prim.Native.Nat.{ℕ, ◌≤◌}
use mathlib.Core.Path.{◌≡◌, refl, sym, ap, ◌∙◌}
use mathlib.Core.Bool.{Bool, true, false, cond, ◌&&◌}
use mathlib.Core.List.{List, [], ◌∷◌, ◌++◌, append-nil}
use lib.Dec.{leb}
use borrow.Author.Tests.{leb-true}
use Rattle.std.specs.Bool.{then_some}
use Rattle.std.specs.Prelude.{Option, None, Some, unwrap_or, option_map}
use Rattle.std.specs.Option.{option_and}
use Rattle.scl.specs.Happenings.{is_fresh}
use Rattle.scl.specs.declared.Happening.{Happening}
use Rattle.scl.proofs.Cases.{and_right}
use Rattle.fs_master.specs.Calls as masters
use Rattle.fs_master.specs.History.{master_after}
use Rattle.histogram.specs.declared.Histogram.{Histogram}
use Rattle.histogram.specs.declared.Totals.{Totals}
use Rattle.histogram.specs.Samples.{bin_of, Within, none, CountsToLimit}
use Rattle.histogram.specs.Counted.{with_bins, raised_if, counted_of, totalled_of}
use Rattle.histogram.proofs.Counting.{cleared_holds, counted-holds}
use Rattle.histogram.proofs.Parts.{counted_parts}
use Rattle.histogram.proofs.Samples.{within_more}
use Rattle.samples.specs.Tallied.{tallied, tallied_by, stepped}
use Rattle.samples.specs.Samples.{time_of, is_sample, samples, histogram_after}
use Rattle.samples.proofs.Samples.{time_by, sample_is}

-- a response is tallied in a histogram as in its two parts, the totals and the bins
pub tallied_parts : (a : Totals) (bins : List ℕ) (w : ℕ) (t : Option ℕ) → tallied (with_bins a bins) w t ≡ with_bins (unwrap_or (tallied_by a w t) a) (raised_if bins (option_and (tallied_by a w t) (option_map (bin_of w) t)))
unfolding tallied tallied_by
tallied_parts a bins w None = refl
tallied_parts a bins w (Some t) = go (leb t w)
  where
    after : Bool → Option Totals
    after b = cond b (totalled_of a t) None

    go : (b : Bool) → cond b (counted_of (with_bins a bins) w t) (with_bins a bins) ≡ with_bins (unwrap_or (after b) a) (raised_if bins (option_and (after b) (Some (bin_of w t))))
    go true = counted_parts a bins w t
    go false = refl

-- tallied with the time of a release, it counts where that is at most W
tallied_then : (k : Histogram) (w : ℕ) (releases : Bool) (t : ℕ) → tallied k w (then_some releases t) ≡ cond (releases && leb t w) (counted_of k w t) k
unfolding tallied
tallied_then k w true t = refl
tallied_then k w false t = refl

-- a happening counts where it is a sample
module _ (at w : ℕ) (past : List Happening) (h : Happening) where
  pub counts : (k : Histogram) → stepped k (master_after at w past) w h ≡ cond (is_sample at w past h) (counted_of k w (time_of at w past h)) k
  counts k =
      let o = masters.step_of (master_after at w past) w h in
      ap (λ (t : ℕ). tallied k w (then_some (is_fresh o.mark) t)) (sym (time_by at w past h))
      ∙ tallied_then k w (is_fresh o.mark) (time_of at w past h)
      ∙ ap (λ (b : Bool). cond b (counted_of k w (time_of at w past h)) k) (sym (sample_is at w past h))

  in_time : is_sample at w past h ≡ true → time_of at w past h ≤ w
  in_time e =
      let o = masters.step_of (master_after at w past) w h in
      leb-true (time_of at w past h) w (and_right (is_fresh o.mark) (leb (time_of at w past h) w) (sym (sample_is at w past h) ∙ e))

  one_within : Within w (samples at w past) → (b : Bool) → is_sample at w past h ≡ b → Within w (samples at w past ++ cond b (time_of at w past h ∷ []) [])
  one_within within true e = within_more (time_of at w past h) within (in_time e)
  one_within within false e = rw append-nil within

  one_more : (k : Histogram) → w ≤ 65535 → Within w (samples at w past) → CountsToLimit w (samples at w past) k
      → (b : Bool) → is_sample at w past h ≡ b → CountsToLimit w (samples at w past ++ cond b (time_of at w past h ∷ []) []) (cond b (counted_of k w (time_of at w past h)) k)
  one_more k small within holds true e = counted-holds small within holds (time_of at w past h) (in_time e)
  one_more k small within holds false e = rw append-nil holds

module _ (at w : ℕ) where
  -- each sample is at most W
  pub samples_within : (past : List Happening) → Within w (samples at w past)
  unfolding samples
  samples_within [] = none
  samples_within (h ∷ past) = one_within at w past h (samples_within past) (is_sample at w past h) refl

  -- bins, total, sum, lowest and highest are those of the samples, up to the freeze
  pub samples_held : (past : List Happening) → w ≤ 65535 → CountsToLimit w (samples at w past) (histogram_after at w past)
  unfolding samples histogram_after
  samples_held [] small = cleared_holds w
  samples_held (h ∷ past) small =
      rw (counts at w past h (histogram_after at w past))
      (one_more at w past h (histogram_after at w past) small (samples_within past) (samples_held past small) (is_sample at w past h) refl)
